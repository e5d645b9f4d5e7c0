-- Single steps of the judging definitions, as the code takes them.
use Rattle.std.proofs.Common.{◌≡◌, ℕ, zero, suc, ◌+◌, ◌-◌, ◌<◌, ◌≤◌, Bool, true, false, cond, ◌&&◌, eqb, leb, ltb, List, [], ◌∷◌, ◌++◌, length, get_or, take, drop, replicate, Some, None, Ok, Err, Result, sym, refl, ap, ◌∙◌, zero-add, arith}
use Rattle.std.proofs.lemmas.List.{take_at, drop_at, get_or-replicate, length-replicate}
use Rattle.std.proofs.lemmas.Bool.{le-ltb, and_parts}
use Rattle.basics.specs.declared.bytes.ByteClass.TheVariants as class
use Rattle.basics.specs.declared.refusal.Refusal.{Refusal}
use Rattle.basics.specs.Refusals.{refusal}
use Rattle.basics.specs.Bytes.{allowed, all, anywhere, these, first_forbidden}
use Rattle.basics.specs.Decimals.{number_of, value_of}
use Rattle.basics.proofs.ByteLaws.{absurd-none, same_some, same-forbidden, none-all, all-at, none-of-clean}
use Rattle.basics.proofs.DigitLaws.{value-some}
use Rattle.layouts.specs.Kinds.{constant, figures, letters, any_text, count, block}
use Rattle.lines.specs.Judging.{and_then, unforbidden, cleaned, part_in, part_end, numbered, cut, each_line, lines_end, field_end}

pub absurd-err : {A B : Type 0} {x : A} {e : Refusal} → ◌≡◌ {A = Result A Refusal} (Err e) (Ok x) → B
absurd-err h = absurd (let z : ◌≡◌ {A = ℕ} 0 1 = cc in omega arith)

pub same_ok : {A : Type 0} {x y : A} → ◌≡◌ {A = Result A Refusal} (Ok x) (Ok y) → x ≡ y
same_ok h = cc

pub same-err : {A : Type 0} {x y : Refusal} → ◌≡◌ {A = Result A Refusal} (Err x) (Err y) → x ≡ y
same-err h = cc

-- a clean part: no byte is forbidden, and it ends behind its bytes
pub cleaned-ok : (ok : ℕ → ℕ → Bool) (i p : ℕ) (s : List ℕ) (e : ℕ) → cleaned ok i p s ≡ Ok e → (first_forbidden ok 0 s ≡ None) × (e ≡ p + length s)
cleaned-ok ok i p s e h =
    elim (first_forbidden ok 0 s) as (λ o. unforbidden o i p (p + length s) ≡ Ok e → (o ≡ None) × (e ≡ p + length s))
    [ None ↦ λ g. (refl, sym (same_ok g)) | Some k ↦ λ g. absurd-err g ]
    h

pub then_ok : (r : Result ℕ Refusal) → and_then r (λ e. Ok e) ≡ r
then_ok (Ok x) = refl
then_ok (Err e) = refl

-- so many times one byte
pub filler : (b w i p : ℕ) (s : List ℕ) → length s ≤ w → cleaned (λ k x. eqb x b) i p s ≡ part_in (constant (replicate w b)) i p s
filler b w i p s h =
    ap (λ o. unforbidden o i p (p + length s))
    (same-forbidden (λ k x. eqb x b) (these (replicate w b)) 0 s
    (λ j x l. ap (eqb x) (sym (ap (λ n. get_or (replicate w b) n 0) (zero-add j) ∙ get_or-replicate w j b 0 (omega arith)))))
    ∙ sym (then_ok (cleaned (these (replicate w b)) i p s))

-- the number of clean digits
-- digits that show a number are clean, and show it
pub digits-found : (i p : ℕ) (s : List ℕ) (n : ℕ) → Some n ≡ value_of s → Ok n ≡ and_then (cleaned (anywhere (allowed class.Digit)) i p s) (λ e. Ok (number_of s))
digits-found i p s n v =
    elim (leb (length s) 19 && all (allowed class.Digit) s) as (λ t. (leb (length s) 19 && all (allowed class.Digit) s) ≡ t → Some n ≡ cond t (Some (number_of s)) None → Ok n ≡ and_then (cleaned (anywhere (allowed class.Digit)) i p s) (λ e. Ok (number_of s))) [
      | true ↦ λ h w.
          let every = (and_parts (leb (length s) 19) (all (allowed class.Digit) s) h).1 in
          let none = none-of-clean (anywhere (allowed class.Digit)) s (λ j l. all-at (allowed class.Digit) s j every l) in
          ap Ok (same_some w) ∙ sym (ap (λ o. and_then (unforbidden o i p (p + length s)) (λ e. Ok (number_of s))) none)
      | false ↦ λ h w. absurd-none (sym w)
    ]
    refl v

-- clean digits do show a number
pub digits-shown : {A : Type 0} (i p : ℕ) (s : List ℕ) (e : ℕ) → length s ≤ 19 → None ≡ value_of s → cleaned (anywhere (allowed class.Digit)) i p s ≡ Ok e → A
digits-shown i p s e l v h = absurd-none (v ∙ value-some s l (none-all (allowed class.Digit) 0 s (cleaned-ok (anywhere (allowed class.Digit)) i p s e h).0))

pub numbered-at : (ok : ℕ → Bool) (n i p : ℕ) (s : List ℕ) (m : ℕ) (t : Bool) → Ok m ≡ and_then (cleaned (anywhere (allowed class.Digit)) i p s) (λ e. Ok (number_of s)) → ok m ≡ t → numbered ok n i p s ≡ cond t (Ok m) (Err (refusal n 2 0 i (p + 1)))
numbered-at ok n i p s m t h passes =
    elim (cleaned (anywhere (allowed class.Digit)) i p s) as (λ r. Ok m ≡ and_then r (λ e. Ok (number_of s)) → and_then r (λ e. cond (ok (number_of s)) (Ok (number_of s)) (Err (refusal n 2 0 i (p + 1)))) ≡ cond t (Ok m) (Err (refusal n 2 0 i (p + 1)))) [
      | Ok e ↦ λ g.
          let is : m ≡ number_of s = same_ok g in
          ap (λ x. cond (ok x) (Ok x) (Err (refusal n 2 0 i (p + 1)))) (sym is) ∙ ap (λ b. cond b (Ok m) (Err (refusal n 2 0 i (p + 1)))) passes
      | Err e ↦ λ g. absurd-err (sym g)
    ]
    h

pub part-figures : (w : ℕ) (ok : ℕ → Bool) (n i p : ℕ) (s : List ℕ) → part_in (figures w ok n) i p s ≡ and_then (numbered ok n i p s) (λ m. Ok (p + length s))
part-figures w ok n i p s =
    elim (first_forbidden (anywhere (allowed class.Digit)) 0 s) as (λ o. and_then (unforbidden o i p (p + length s)) (λ e. cond (ok (number_of s)) (Ok e) (Err (refusal n 2 0 i (p + 1)))) ≡ and_then (and_then (unforbidden o i p (p + length s)) (λ e. cond (ok (number_of s)) (Ok (number_of s)) (Err (refusal n 2 0 i (p + 1))))) (λ m. Ok (p + length s))) [
      | None ↦ elim (ok (number_of s)) as (λ t. cond t (Ok (p + length s)) (Err (refusal n 2 0 i (p + 1))) ≡ and_then (cond t (Ok (number_of s)) (Err (refusal n 2 0 i (p + 1)))) (λ m. Ok (p + length s))) [ true ↦ refl | false ↦ refl ]
      | Some k ↦ refl
    ]

-- there is room: the part is handed on
pub cut_ok : (w i p : ℕ) (line : List ℕ) (k : List ℕ → Result ℕ Refusal) (s : List ℕ) (r : Result ℕ Refusal) → s ≡ take w (drop p line) → w ≤ length line - p → r ≡ k s → r ≡ cut w i p line k
cut_ok w i p line k s r e h g =
    g ∙ ap k e ∙ sym (ap (λ t. cond t (Err (refusal 11 2 0 i (length line + 1))) (k (take w (drop p line)))) (le-ltb (length line - p) w h))

-- one turn of a loop over lines of 35 bytes, of which so many are passed
module _ (ok : List ℕ → Bool) (n i q k : ℕ) (left line rest : List ℕ) (h : k < n) (e : left ≡ line ++ rest) (w : length line ≡ 35) where
  turn : each_line ok (n - k) i q left ≡ cond (ok line) (each_line ok (n - (k + 1)) i (q + 35) rest) (Err (refusal 14 2 0 i (q + 1)))
  turn =
      let m : n - k ≡ suc (n - (k + 1)) = omega arith in
      let t : take 35 left ≡ line = ap (take 35) e ∙ take_at line rest 35 w in
      let d : drop 35 left ≡ rest = ap (drop 35) e ∙ drop_at line rest 35 w in
      ap (λ x. each_line ok x i q left) m
      ∙ ap (λ x. cond (ok x) (each_line ok (n - (k + 1)) i (q + 35) (drop 35 left)) (Err (refusal 14 2 0 i (q + 1)))) t
      ∙ ap (λ x. cond (ok line) (each_line ok (n - (k + 1)) i (q + 35) x) (Err (refusal 14 2 0 i (q + 1)))) d

  pub line-wrong : ok line ≡ false → each_line ok (n - k) i q left ≡ Err (refusal 14 2 0 i (q + 1))
  line-wrong f = turn ∙ ap (λ t. cond t (each_line ok (n - (k + 1)) i (q + 35) rest) (Err (refusal 14 2 0 i (q + 1)))) f

  pub line-right : ok line ≡ true → each_line ok (n - k) i q left ≡ each_line ok (n - (k + 1)) i (q + 35) rest
  line-right t = turn ∙ ap (λ t. cond t (each_line ok (n - (k + 1)) i (q + 35) rest) (Err (refusal 14 2 0 i (q + 1)))) t

-- a field of so many times one byte
filler-in : (b w i p : ℕ) (s : List ℕ) → length s ≤ w → part_in (letters w (λ x. eqb x b) any_text 14) i p s ≡ part_in (constant (replicate w b)) i p s
filler-in b w i p s h = then_ok (cleaned (λ k x. eqb x b) i p s) ∙ filler b w i p s h

short-take : (w : ℕ) (xs : List ℕ) → length (take w xs) ≤ w
short-take zero xs = omega arith
short-take (suc w) [] = omega arith
short-take (suc w) (x ∷ xs) = let h = short-take w xs in omega arith

pub filler-end : (b w i p : ℕ) (line : List ℕ) → part_end (letters w (λ x. eqb x b) any_text 14) i p line ≡ part_end (constant (replicate w b)) i p line
filler-end b w i p line =
    let s = take w (drop p line) in
    ap (λ r. cond (ltb (length line - p) w) (Err (refusal 11 2 0 i (length line + 1))) r) (filler-in b w i p s (short-take w (drop p line)))
    ∙ ap (λ m. cut m i p line (part_in (constant (replicate w b)) i p)) (sym (length-replicate {A = ℕ} w b))

-- a block: its count, and then its lines
module _ (high : ℕ) (counts : ℕ → Bool) (ok : List ℕ → Bool) (i p : ℕ) (line s : List ℕ) (is : s ≡ take 2 (drop p line)) (room : 2 ≤ length line - p) (two : length s ≡ 2) where
  counted : part_end (count counts) i p line ≡ and_then (numbered counts 15 i p s) (λ m. Ok (p + length s))
  counted = sym (cut_ok 2 i p line (part_in (count counts) i p) s (part_in (count counts) i p s) is room refl) ∙ part-figures 2 counts 15 i p s

  rest : ℕ → Result ℕ Refusal
  rest e = lines_end ok (number_of (take 2 (drop p line))) i e line

  pub block_refused : (x : Refusal) → Err x ≡ numbered counts 15 i p s → Err x ≡ field_end (block high counts ok) i p line
  unfolding rest
  block_refused x h = sym (ap (λ r. and_then r rest) (counted ∙ ap (λ r. and_then r (λ m. Ok (p + length s))) (sym h)))
