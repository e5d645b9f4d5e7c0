-- Laws of counting and judging lines.
use Rattle.std.proofs.Common.{◌≡◌, ℕ, ◌+◌, ◌-◌, ◌<◌, ◌≤◌, cond, ltb, List, [], ◌∷◌, length, None, Ok, Err, Result, refl, ap, ◌∙◌, arith, length-append, length-drop}
use Rattle.std.proofs.lemmas.Bool.{lt-ltb, le-ltb}
use Rattle.basics.specs.declared.refusal.Refusal.{Refusal}
use Rattle.basics.specs.Refusals.{refusal}
use Rattle.layouts.specs.declared.field.Field.{Field}
use Rattle.lines.specs.Judging.{and_then, judged}
use Rattle.files.specs.Lines.{line_end, lines_of, rest_of, written, FirstLine}
use Rattle.files.specs.Files.{at_line, counted, line_by_line}
use Rattle.files.proofs.Cuts.{no_lines, joined}
use Rattle.files.proofs.FirstLines.{lines-are}

few-lines : (ls : List (List ℕ)) → length ls + length ls ≤ length (written ls)
few-lines [] = omega arith
few-lines (l ∷ ls) = omega (arith, few-lines ls, length-append l (13 ∷ 10 ∷ written ls))

-- there are at most half as many lines as bytes
pub lines-within : (f : List ℕ) → length (lines_of f) + length (lines_of f) ≤ length f
lines-within f = omega (arith, few-lines (lines_of f), ap length (joined f), length-append (written (lines_of f)) (rest_of f))

-- what is counted, by the place behind the last line
module _ (f : List ℕ) where
  left : length (rest_of f) ≡ length f - length (written (lines_of f))
  left = length-drop (length (written (lines_of f))) f

  after : Result ℕ Refusal
  after = cond (ltb 1200 (length (lines_of f))) (Err (refusal 23 3 1201 0 0)) (Ok (length (lines_of f)))

  ended : length f ≤ length (written (lines_of f)) → counted f ≡ after
  unfolding after
  ended h = ap (λ t. cond t (Err (refusal 22 3 (length (lines_of f) + 1) 0 0)) after) (le-ltb 0 (length (rest_of f)) (let l = left in omega arith))

  pub too_many : length f ≤ length (written (lines_of f)) → 1200 < length (lines_of f) → counted f ≡ Err (refusal 23 3 1201 0 0)
  unfolding after
  too_many h m = ended h ∙ ap (λ t. cond t (Err (refusal 23 3 1201 0 0)) (Ok (length (lines_of f)))) (lt-ltb 1200 (length (lines_of f)) m)

  pub few : length f ≤ length (written (lines_of f)) → length (lines_of f) ≤ 1200 → counted f ≡ Ok (length (lines_of f))
  unfolding after
  few h m = ended h ∙ ap (λ t. cond t (Err (refusal 23 3 1201 0 0)) (Ok (length (lines_of f)))) (le-ltb 1200 (length (lines_of f)) m)

-- one turn of a loop over the lines, and its end
module _ (f l t : List ℕ) (h : FirstLine f l t) (ls : List (List Field)) (n c : ℕ) where
  pub judge-more : (j : ℕ) → at_line n (judged ls l) ≡ Ok j → line_by_line ls n (lines_of f) c ≡ line_by_line ls (n + 1) (lines_of t) c
  judge-more j e = ap (λ x. line_by_line ls n x c) (lines-are f l t h) ∙ ap (λ r. and_then r (λ m. line_by_line ls (n + 1) (lines_of t) c)) e

  pub judge-bad : (x : Refusal) → at_line n (judged ls l) ≡ Err x → line_by_line ls n (lines_of f) c ≡ Err x
  judge-bad x e = ap (λ x. line_by_line ls n x c) (lines-are f l t h) ∙ ap (λ r. and_then r (λ m. line_by_line ls (n + 1) (lines_of t) c)) e

pub judge-last : (f : List ℕ) → line_end f ≡ None → (ls : List (List Field)) (n c : ℕ) → line_by_line ls n (lines_of f) c ≡ Ok c
judge-last f e ls n c = ap (λ x. line_by_line ls n x c) (no_lines f e)

-- where no line has a fault, the verdict is the count
pub judged-count : (r : Result ℕ Refusal) (k : ℕ → Result ℕ Refusal) → ((n : ℕ) → k n ≡ Ok n) → and_then r k ≡ r
judged-count (Ok n) k h = h n
judged-count (Err e) k h = refl
