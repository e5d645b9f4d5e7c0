-- A field that passes is a lawful writing.
use Rattle.std.proofs.Common.{◌≡◌, ℕ, zero, suc, ◌+◌, ◌-◌, ◌*◌, ◌<◌, ◌≤◌, Bool, true, false, cond, ltb, List, length, take, drop, None, Ok, Err, Result, sym, refl, ap, ◌∙◌, subst, arith, length-drop}
use Rattle.std.proofs.lemmas.List.{drop-drop, length-take-le, take-take, drop-take, get_or-take, get_or-drop}
use Rattle.std.proofs.lemmas.Bool.{ltb-false}
use Rattle.basics.specs.declared.bytes.ByteClass.TheVariants as class
use Rattle.basics.specs.declared.refusal.Refusal.{Refusal}
use Rattle.basics.specs.Refusals.{refusal}
use Rattle.basics.specs.Bytes.{allowed, anywhere, first_forbidden}
use Rattle.basics.specs.Decimals.{number_of}
use Rattle.basics.proofs.ByteLaws.{clean-of-none}
use Rattle.layouts.specs.Kinds.{Part, Shape, one, block, count, line, width, allows, passes, refused_by}
use Rattle.lines.specs.Judging.{and_then, cleaned, part_in, cut, part_end, each_line, lines_in, lines_end, field_end}
use Rattle.lines.specs.Belongs.{Fit, Block, Lawful}
use Rattle.lines.proofs.Steps.{absurd-err, same_ok, cleaned-ok}

-- the first step passed, and then the second
pub record Both (r : Result ℕ Refusal) (k : ℕ → Result ℕ Refusal) (q : ℕ) : Type 0 where
  pub mid : ℕ
  pub first : r ≡ Ok mid
  pub then : k mid ≡ Ok q

pub both : (r : Result ℕ Refusal) (k : ℕ → Result ℕ Refusal) (q : ℕ) → and_then r k ≡ Ok q → Both r k q
both (Ok m) k q e = record { mid = m; first = refl; then = e }
both (Err x) k q e = absurd-err e

-- a choice that passes went one of two ways
pub not_first : (t : Bool) (x : Refusal) (r : Result ℕ Refusal) (q : ℕ) → cond t (Err x) r ≡ Ok q → (t ≡ false) × (r ≡ Ok q)
not_first true x r q e = absurd-err e
not_first false x r q e = (refl, e)

not_last : (t : Bool) (x : Refusal) (r : Result ℕ Refusal) (q : ℕ) → cond t r (Err x) ≡ Ok q → (t ≡ true) × (r ≡ Ok q)
not_last true x r q e = (refl, e)
not_last false x r q e = absurd-err e

cut-passed : (w i p : ℕ) (line : List ℕ) (k : List ℕ → Result ℕ Refusal) (q : ℕ) → cut w i p line k ≡ Ok q → (w ≤ length line - p) × (k (take w (drop p line)) ≡ Ok q)
cut-passed w i p line k q e =
    let h = not_first (ltb (length line - p) w) (refusal 11 2 0 i (length line + 1)) (k (take w (drop p line))) q e in
    (ltb-false (length line - p) w h.0, h.1)

pub part-wide : (w p : ℕ) (line : List ℕ) → w ≤ length line - p → length (take w (drop p line)) ≡ w
part-wide w p line h = length-take-le w (drop p line) (subst (λ n. w ≤ n) (sym (length-drop p line)) h)

-- a part that passes: where it ends, and that its bytes fit
pub part-passed : (q : Part) (i p : ℕ) (line : List ℕ) (e : ℕ) → part_end q i p line ≡ Ok e → (width q ≤ length line - p) × (e ≡ p + width q) × Fit q (take (width q) (drop p line))
part-passed q i p line e h =
    let c = cut-passed (width q) i p line (part_in q i p) e h in
    let s = take (width q) (drop p line) in
    let wide = part-wide (width q) p line c.0 in
    let b = both (cleaned (allows q) i p s) (λ m. cond (passes q s) (Ok m) (Err (refusal (refused_by q) 2 0 i (p + 1)))) e c.1 in
    let d = not_last (passes q s) (refusal (refused_by q) 2 0 i (p + 1)) (Ok b.mid) e b.then in
    let k = cleaned-ok (allows q) i p s b.mid b.first in (
      c.0,
      sym (same_ok d.1) ∙ k.1 ∙ ap (λ n. p + n) wide,
      record { wide = wide; clean = λ j l. clean-of-none (allows q) s k.0 j (subst (λ n. j < n) (sym wide) l); value = d.0 },
    )

-- lines that pass, one by one
one_more : (ok : List ℕ → Bool) (n : ℕ) (s : List ℕ) → ok (take 35 s) ≡ true → ((k : ℕ) → k < n → ok (take 35 (drop (35 * k) (drop 35 s))) ≡ true) → (k : ℕ) → k < suc n → ok (take 35 (drop (35 * k) s)) ≡ true
one_more ok n s a h zero l = a
one_more ok n s a h (suc k) l =
    let b : 35 + 35 * k ≡ 35 * suc k = omega arith in
    ap (λ t. ok (take 35 t)) (sym (drop-drop (35 * k) 35 s ∙ ap (λ m. drop m s) b)) ∙ h k (omega arith)

each-passed : (ok : List ℕ → Bool) (n i p : ℕ) (s : List ℕ) (q : ℕ) → each_line ok n i p s ≡ Ok q → (q ≡ p + 35 * n) × ((k : ℕ) → k < n → ok (take 35 (drop (35 * k) s)) ≡ true)
each-passed ok zero i p s q e = (let h = same_ok e in omega arith, λ k h. absurd (omega arith))
each-passed ok (suc n) i p s q e =
    let d = not_last (ok (take 35 s)) (refusal 14 2 0 i (p + 1)) (each_line ok n i (p + 35) (drop 35 s)) q e in
    let h = each-passed ok n i (p + 35) (drop 35 s) q d.1 in
    (let g = h.0 in omega arith, one_more ok n s d.0 h.1)

-- what lines that pass say: where they end, and that each fits
pub record LinesPassed (ok : List ℕ → Bool) (n p : ℕ) (line' : List ℕ) (q : ℕ) : Type 0 where
  pub room : 35 * n ≤ length line' - p
  pub ends : q ≡ p + 35 * n
  pub each : (k : ℕ) → k < n → Fit (line ok) (take 35 (drop (35 * k) (take (35 * n) (drop p line'))))

line-fits : (ok : List ℕ → Bool) (n : ℕ) (s : List ℕ) → length s ≡ 35 * n → first_forbidden (anywhere (allowed class.Text)) 0 s ≡ None → ((k : ℕ) → k < n → ok (take 35 (drop (35 * k) s)) ≡ true) → (k : ℕ) → k < n → Fit (line ok) (take 35 (drop (35 * k) s))
line-fits ok n s wide none each k l =
    let d = length-drop (35 * k) s in
    record {
      wide = length-take-le 35 (drop (35 * k) s) (omega arith);
      clean = λ j h.
          ap (allowed class.Text) (get_or-take 35 (drop (35 * k) s) j 0 h ∙ get_or-drop (35 * k) s j 0) ∙ clean-of-none (anywhere (allowed class.Text)) s none (35 * k + j) (omega arith);
      value = each k l;
    }

pub lines-passed : (ok : List ℕ → Bool) (n i p : ℕ) (line' : List ℕ) (q : ℕ) → lines_end ok n i p line' ≡ Ok q → LinesPassed ok n p line' q
lines-passed ok n i p line' q e =
    let c = cut-passed (35 * n) i p line' (lines_in ok n i p) q e in
    let s = take (35 * n) (drop p line') in
    let b = both (cleaned (anywhere (allowed class.Text)) i p s) (λ m. each_line ok n i p s) q c.1 in
    let k = cleaned-ok (anywhere (allowed class.Text)) i p s b.mid b.first in
    let h = each-passed ok n i p s q b.then in
    record { room = c.0; ends = h.0; each = line-fits ok n s (part-wide (35 * n) p line' c.0) k.0 h.1 }

-- where a field ends, and what its part is
pub record Ended (p : ℕ) (line' : List ℕ) (q : ℕ) (P : List ℕ → Type 0) : Type 0 where
  pub forth : p ≤ q
  pub within : q ≤ length line'
  pub is : P (take (q - p) (drop p line'))

-- a part of a count and n lines, in its two pieces
module _ (p : ℕ) (line' : List ℕ) (n q : ℕ) (e : q ≡ p + 2 + 35 * n) where
  front : take 2 (take (q - p) (drop p line')) ≡ take 2 (drop p line')
  front = take-take 2 (q - p) (drop p line') (omega arith)

  back : drop 2 (take (q - p) (drop p line')) ≡ take (35 * n) (drop (p + 2) line')
  back =
      let w : q - p ≡ 2 + 35 * n = omega arith in
      ap (λ m. drop 2 (take m (drop p line'))) w ∙ drop-take 2 (35 * n) (drop p line') ∙ ap (take (35 * n)) (drop-drop 2 p line')

  whole : (counts : ℕ → Bool) (ok : List ℕ → Bool) → p ≤ length line' → 2 ≤ length line' - p → Fit (count counts) (take 2 (drop p line')) → number_of (take 2 (drop p line')) ≡ n → LinesPassed ok n (p + 2) line' q → Ended p line' q (Block counts ok)
  whole counts ok l two c t h =
      let r = h.room in
      let room : q - p ≤ length line' - p = omega arith in
      let wide = part-wide (q - p) p line' room in
      let s = take (q - p) (drop p line') in
      let is : number_of (take 2 s) ≡ n = ap number_of front ∙ t in
      record {
        forth = omega arith;
        within = omega arith;
        is = record {
          counted = subst (Fit (count counts)) (sym front) c;
          wide = omega arith;
          each = λ k m. subst (Fit (line ok)) (ap (λ x. take 35 (drop (35 * k) x)) (sym back) ∙ ap (take 35) (drop-drop (35 * k) 2 s)) (h.each k (subst (λ x. k < x) is m));
        };
      }

pub ended : (f : Shape) (i p : ℕ) (line' : List ℕ) (q : ℕ) → p ≤ length line' → field_end f i p line' ≡ Ok q → Ended p line' q (Lawful f)
ended (one part) i p line' q l e =
    let h = part-passed part i p line' q e in
    let r = h.0 in
    let s = h.1 in
    let back : width part ≡ q - p = omega arith in
    record { forth = omega arith; within = omega arith; is = subst (λ n. Fit part (take n (drop p line'))) back h.2 }
ended (block high counts ok) i p line' q l e =
    let n = number_of (take 2 (drop p line')) in
    let a = both (part_end (count counts) i p line') (λ m. lines_end ok n i m line') q e in
    let c = part-passed (count counts) i p line' a.mid a.first in
    let m = c.1 in
    let h = lines-passed ok n i (p + 2) line' q (ap (λ x. lines_end ok n i x line') (sym m) ∙ a.then) in
    let ends = h.ends in
    whole p line' n q ends counts ok l c.0 c.2 refl h
