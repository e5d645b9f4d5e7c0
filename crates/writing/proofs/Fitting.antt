-- Which texts fit, with blanks behind them.
use Rattle.std.proofs.Common.{◌≡◌, ℕ, zero, suc, ◌-◌, ◌^◌, ◌<◌, ◌≤◌, Bool, true, false, not, ◌&&◌, eqb, ltb, leb, List, [], ◌∷◌, ◌++◌, length, replicate, sym, refl, ap, ◌∙◌, arith, lit<}
use native.Mathlib.Nat.{pow-le-pow_right}
use Rattle.std.proofs.lemmas.Bool.{and_left, and_right, le-leb, eq-eqb, lt-ltb}
use Rattle.basics.specs.declared.bytes.ByteClass.TheVariants as class
use Rattle.basics.specs.Bytes.{allowed, all}
use Rattle.basics.specs.Texts.{trim}
use Rattle.lines.specs.Rules.{text_test}
use Rattle.lines.specs.declared.rules.TextRule.{TextRule}
use Rattle.lines.specs.declared.rules.TextRule.TheVariants as text
use Rattle.values.specs.Writing.{padded, fitting}

assoc : (a b d : Bool) → ((a && b) && d) ≡ (a && (b && d))
assoc true b d = refl
assoc false b d = refl

all_append : (c : ℕ → Bool) (xs ys : List ℕ) → all c (xs ++ ys) ≡ (all c xs && all c ys)
all_append c [] ys = refl
all_append c (x ∷ xs) ys = ap (λ t. c x && t) (all_append c xs ys) ∙ sym (assoc (c x) (all c xs) (all c ys))

-- blanks are all of a class if one is
pub blanks-pass : (c : ℕ → Bool) (k : ℕ) → c 32 ≡ true → all c (replicate k 32) ≡ true
blanks-pass c zero h = refl
blanks-pass c (suc k) h = ap (λ t. t && all c (replicate k 32)) h ∙ blanks-pass c k h

pub blanks-are : (c : ℕ → Bool) (k : ℕ) → (k ≡ 0 → ⊥) → all c (replicate k 32) ≡ c 32
blanks-are c zero l = absurd (l refl)
blanks-are c (suc k) l =
    elim (c 32) as (λ t. c 32 ≡ t → (t && all c (replicate k 32)) ≡ t) [ true ↦ λ e. blanks-pass c k e | false ↦ λ e. refl ] refl

-- the rule for a text holds of it with its blanks
and-true : (b : Bool) → (b && true) ≡ b
and-true true = refl
and-true false = refl

pub rule-padded : (rule : TextRule) (w : ℕ) (t : List ℕ) → text_test rule (padded w t) ≡ text_test rule t
rule-padded text.Any w t = refl
rule-padded text.Filled w t =
    ap not
    (all_append (allowed class.Blank) t (replicate (w - length t) 32)
    ∙ ap (λ b. all (allowed class.Blank) t && b) (blanks-pass (allowed class.Blank) (w - length t) refl)
    ∙ and-true (all (allowed class.Blank) t))

module _ (w : ℕ) (c : ℕ → Bool) (rule : TextRule) (t : List ℕ) where
  stopped : (a b d e : Bool) → d ≡ false → (a && (b && (d && e))) ≡ false
  stopped a b d e h = and_right a (b && (d && e)) (and_right b (d && e) (and_left d e h))

  -- a byte or a blank is not of the class
  pub not-of-class : all c t ≡ false → fitting w c (text_test rule) t ≡ false
  not-of-class h =
      stopped (leb (length t) w) (eqb (length (trim t)) (length t)) (all c (padded w t)) (text_test rule (padded w t))
      (all_append c t (replicate (w - length t) 32) ∙ and_left (all c t) (all c (replicate (w - length t) 32)) h)

  past : (a b d e : Bool) → a ≡ true → b ≡ true → d ≡ true → (a && (b && (d && e))) ≡ e
  past a b d e x y z = ap (λ v. v && (b && (d && e))) x ∙ ap (λ v. v && (d && e)) y ∙ ap (λ v. v && e) z

  -- else the rule is asked
  pub asks-rule : length t ≤ w → length (trim t) ≡ length t → all c t ≡ true → all c (replicate (w - length t) 32) ≡ true → fitting w c (text_test rule) t ≡ text_test rule t
  asks-rule l e h b =
      past (leb (length t) w) (eqb (length (trim t)) (length t)) (all c (padded w t)) (text_test rule (padded w t))
      (le-leb (length t) w l)
      (eq-eqb (length (trim t)) (length t) e)
      (all_append c t (replicate (w - length t) 32) ∙ ap (λ x. x && all c (replicate (w - length t) 32)) h ∙ b)
      ∙ rule-padded rule w t

-- a number of 64 bits has at most 20 digits
pub wide_enough : (n w : ℕ) → n < 2 ^ 64 → 19 < w → ltb n (10 ^ w) ≡ true
wide_enough n w h l =
    let b : 10 ^ 20 ≤ 10 ^ w = pow-le-pow_right {n = 10} (lit< tt) {i = 20} {j = w} (omega arith) in
    lt-ltb n (10 ^ w) (omega arith)
