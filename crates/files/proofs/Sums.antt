-- Laws of totals.
use Rattle.std.proofs.Common.{◌≡◌, ℕ, ◌+◌, ◌&&◌, eqb, List, [], ◌∷◌, None, Ok, Err, Result, sym, refl, ap, ◌∙◌, add-zero, add_assoc, zero-add}
use Rattle.basics.specs.declared.refusal.Refusal.{Refusal}
use Rattle.layouts.specs.declared.field.Field.{Field}
use Rattle.lines.specs.Judging.{and_then, judged}
use lib.Pointwise.{pointwise}
use Rattle.files.specs.Lines.{line_end, lines_of, FirstLine}
use Rattle.files.specs.Files.{at_line, counted, line_by_line}
use Rattle.files.specs.Totals.{same, worth_by, paid_by, sum_of, summed}
use Rattle.files.proofs.Cuts.{no_lines}
use Rattle.files.proofs.FirstLines.{lines-are}

-- the code's test of equal bytes
pub pointwise_same : (s t : List ℕ) → pointwise eqb s t ≡ same s t
pointwise_same [] [] = refl
pointwise_same [] (y ∷ ys) = refl
pointwise_same (x ∷ xs) [] = refl
pointwise_same (x ∷ xs) (y ∷ ys) = ap (λ b. eqb x y && b) (pointwise_same xs ys)

-- the sum so far and what the lines from line n on add to it, or their first fault
abbrev pub line_sums : List (List Field) → List ℕ → ℕ → List (List ℕ) → ℕ → Result ℕ Refusal
line_sums ls c n [] sum = Ok sum
line_sums ls c n (l ∷ rest) sum = and_then (at_line n (paid_by ls c l (judged ls l))) (λ a. line_sums ls c (n + 1) rest (sum + a))

-- it is the verdict on the lines, and then the sum
sums-are : (ls : List (List Field)) (c : List ℕ) (n : ℕ) (rs : List (List ℕ)) (sum m : ℕ) → line_sums ls c n rs sum ≡ and_then (line_by_line ls n rs m) (λ _. Ok (sum + sum_of ls c rs))
sums-are ls c n [] sum m = ap Ok (sym (add-zero sum))
sums-are ls c n (r ∷ rs) sum m =
    elim (judged ls r) as (λ x. and_then (at_line n (paid_by ls c r x)) (λ a. line_sums ls c (n + 1) rs (sum + a)) ≡ and_then (and_then (at_line n x) (λ j. line_by_line ls (n + 1) rs m)) (λ _. Ok (sum + (worth_by ls c r x + sum_of ls c rs)))) [
      | Ok j ↦ sums-are ls c (n + 1) rs (sum + worth_by ls c r (Ok j)) m ∙ ap (λ s. and_then (line_by_line ls (n + 1) rs m) (λ _. Ok s)) (add_assoc sum (worth_by ls c r (Ok j)) (sum_of ls c rs))
      | Err e ↦ refl
    ]

pub summed-by-lines : (ls : List (List Field)) (f c : List ℕ) → and_then (counted f) (λ n. line_sums ls c 1 (lines_of f) 0) ≡ summed ls f c
summed-by-lines ls f c =
    elim (counted f) as (λ r. and_then r (λ n. line_sums ls c 1 (lines_of f) 0) ≡ and_then (and_then r (λ n. line_by_line ls 1 (lines_of f) n)) (λ n. Ok (sum_of ls c (lines_of f)))) [
      | Ok n ↦ sums-are ls c 1 (lines_of f) 0 n ∙ ap (λ s. and_then (line_by_line ls 1 (lines_of f) n) (λ _. Ok s)) (zero-add (sum_of ls c (lines_of f)))
      | Err e ↦ refl
    ]

-- one turn of the loop that sums, and its end
module _ (f l t : List ℕ) (h : FirstLine f l t) (ls : List (List Field)) (c : List ℕ) (n sum : ℕ) where
  pub sum_more : (a : ℕ) → at_line n (paid_by ls c l (judged ls l)) ≡ Ok a → line_sums ls c n (lines_of f) sum ≡ line_sums ls c (n + 1) (lines_of t) (sum + a)
  sum_more a e = ap (λ x. line_sums ls c n x sum) (lines-are f l t h) ∙ ap (λ r. and_then r (λ b. line_sums ls c (n + 1) (lines_of t) (sum + b))) e

  pub sum-bad : (x : Refusal) → at_line n (paid_by ls c l (judged ls l)) ≡ Err x → line_sums ls c n (lines_of f) sum ≡ Err x
  sum-bad x e = ap (λ x. line_sums ls c n x sum) (lines-are f l t h) ∙ ap (λ r. and_then r (λ b. line_sums ls c (n + 1) (lines_of t) (sum + b))) e

pub sum-last : (f : List ℕ) → line_end f ≡ None → (ls : List (List Field)) (c : List ℕ) (n sum : ℕ) → line_sums ls c n (lines_of f) sum ≡ Ok sum
sum-last f e ls c n sum = ap (λ x. line_sums ls c n x sum) (no_lines f e)
