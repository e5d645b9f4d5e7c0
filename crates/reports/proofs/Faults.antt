-- Laws of the faults of bytes, line by line.
use borrow.Author.Tests.{clash}
use Rattle.std.proofs.lemmas.Bool.{eqb-true}
use Rattle.std.proofs.Common.{Bool, true, false, eqb, sym, ◌≡◌, ℕ, suc, ◌+◌, ◌<◌, ◌≤◌, List, [], ◌∷◌, ◌++◌, length, None, Ok, Err, Result, refl, ap, ◌∙◌, append_assoc, add-zero, arith}
use Rattle.basics.specs.declared.refusal.Refusal.{Refusal}
use Rattle.layouts.specs.declared.field.Field.{Field}
use Rattle.lines.specs.Judging.{judged}
use Rattle.files.specs.Lines.{line_end, lines_of, rest_of, FirstLine}
use Rattle.files.proofs.Cuts.{no_lines, all_rest}
use Rattle.files.proofs.FirstLines.{lines-are, rest-is}
use Rattle.reports.specs.Surveys.{fault_of, faults_in, rest_fault, faults_from, lines_in}

-- a line has at most one row
pub one-fault : (n : ℕ) (r : Result ℕ Refusal) → length (fault_of n r) ≤ 1
one-fault n (Ok j) = omega arith
one-fault n (Err e) = omega arith

-- the faults behind the first line
module _ (f l t : List ℕ) (h : FirstLine f l t) where
  pub faults-first : (ls : List (List Field)) (n : ℕ) → faults_from ls n f ≡ fault_of n (judged ls l) ++ faults_from ls (n + 1) t
  faults-first ls n =
      let m : n + suc (length (lines_of t)) ≡ n + 1 + length (lines_of t) = omega arith in
      let this = fault_of n (judged ls l) in
      (λ i. faults_in ls n (lines-are f l t h i) ++ rest_fault (n + length (lines-are f l t h i)) (rest-is f l t h i))
      ∙ append_assoc this (faults_in ls (n + 1) (lines_of t)) (rest_fault (n + suc (length (lines_of t))) (rest_of t))
      ∙ ap (λ j. this ++ (faults_in ls (n + 1) (lines_of t) ++ rest_fault j (rest_of t))) m

  pub lines-first : lines_in f ≡ 1 + lines_in t
  lines-first = omega (arith, ap length (lines-are f l t h), ap (λ x. length (rest_fault 0 x)) (rest-is f l t h))

-- and where no line ends
pub faults-rest : (ls : List (List Field)) (n : ℕ) (f : List ℕ) → line_end f ≡ None → faults_from ls n f ≡ rest_fault n f
faults-rest ls n f e =
    (λ i. faults_in ls n (no_lines f e i) ++ rest_fault (n + length (no_lines f e i)) (all_rest f e i)) ∙ ap (λ m. rest_fault m f) (add-zero n)

pub lines_rest : (f : List ℕ) → line_end f ≡ None → lines_in f ≡ length (rest_fault 0 f)
lines_rest f e = omega (arith, ap length (no_lines f e), ap (λ r. length (rest_fault 0 r)) (all_rest f e))

-- whether bytes stand there
pub rest-stands : (f : List ℕ) (n : ℕ) → 0 < length f → rest_fault n f ≡ record { line = n; field = 0; byte = 0; number = 22 } ∷ []
rest-stands [] n h = absurd (omega arith)
rest-stands (b ∷ bs) n h = refl

pub stands : (s : List ℕ) → false ≡ eqb (length s) 0 → 0 < length s
stands [] e = absurd (let z : ◌≡◌ {A = Bool} false true = e in clash z)
stands (b ∷ bs) e = omega arith

pub none-stands : (s : List ℕ) → true ≡ eqb (length s) 0 → s ≡ []
none-stands [] e = refl
none-stands (b ∷ bs) e = absurd (let z = eqb-true (length (b ∷ bs)) 0 (sym e) in omega arith)
