-- No number of a report is cut by its column.
use Rattle.std.proofs.Common.{◌≡◌, ℕ, ◌+◌, ◌<◌, ◌≤◌, true, List, [], ◌∷◌, ◌++◌, length, take, drop, Ok, Err, Result, sym, refl, ap, subst, arith, length-append, length-drop, length-take}
use Rattle.basics.specs.declared.refusal.Refusal.{Refusal}
use Rattle.layouts.specs.declared.field.Field.{Field}
use Rattle.layouts.specs.Layouts.{is_lawful}
use Rattle.lines.specs.Judging.{judged}
use Rattle.files.specs.Lines.{FirstLine}
use Rattle.files.proofs.Cuts.{Ends, by_lines}
use Rattle.reports.specs.declared.fault_row.FaultRow.{FaultRow}
use Rattle.reports.specs.Surveys.{fault_of, rest_fault, faults_from, lines_in}
use Rattle.reports.specs.Reports.{AllUncut, NumbersFit}
use Rattle.reports.proofs.Bounds.{judged-within}
use Rattle.reports.proofs.Faults.{one-fault, faults-first, faults-rest, lines-first, lines_rest}

uncut-append : (xs ys : List FaultRow) → AllUncut xs → AllUncut ys → AllUncut (xs ++ ys)
uncut-append [] ys a b = b
uncut-append (x ∷ xs) ys a b = (a.0, uncut-append xs ys a.1 b)

uncut-rest : (n : ℕ) (f : List ℕ) → n < 100000 → AllUncut (rest_fault n f)
uncut-rest n [] h = tt
uncut-rest n (b ∷ bs) h = (record { line = h; field = omega arith; byte = omega arith; number = omega arith }, tt)

few-rest : (n : ℕ) (f : List ℕ) → length (rest_fault n f) ≤ length f
few-rest n [] = omega arith
few-rest n (b ∷ bs) = omega arith

ends-first : (f : List ℕ) (k : ℕ) → Ends k f → FirstLine f (take k f) (drop (k + 2) f)
ends-first f k r = record { whole = r.whole; uncut = r.line }

module _ (ls : List (List Field)) (law : is_lawful ls ≡ true) where
  uncut-line : (n : ℕ) (line : List ℕ) (r : Result ℕ Refusal) → judged ls line ≡ r → n < 100000 → length line ≤ 65536 → AllUncut (fault_of n r)
  uncut-line n line (Ok j) e h l = tt
  uncut-line n line (Err x) e h l =
      let w = judged-within ls line x law e in
      let a = w.field' in
      let b = w.byte' in
      let c = w.number' in
      (record { line = h; field = omega arith; byte = omega arith; number = omega arith }, tt)

  abbrev Fits : List ℕ → Type 0
  Fits f = (n : ℕ) → n + length f ≤ 65537 → AllUncut (faults_from ls n f)

  fits : (f : List ℕ) → Fits f
  fits =
      by_lines Fits
      (λ f e n h. subst AllUncut (sym (faults-rest ls n f e)) (uncut-rest n f (omega arith)))
      (λ f k r more n h.
      let w = r.within in
      let line = take k f in
      let short : length line ≤ 65536 = omega (arith, length-take k f) in
      subst AllUncut (sym (faults-first f (take k f) (drop (k + 2) f) (ends-first f k r) ls n))
      (uncut-append (fault_of n (judged ls line)) (faults_from ls (n + 1) (drop (k + 2) f))
      (uncut-line n line (judged ls line) refl (omega arith) short)
      (more (n + 1) (omega (arith, length-drop (k + 2) f)))))

  few-faults : (f : List ℕ) (n : ℕ) → length (faults_from ls n f) ≤ length f
  few-faults =
      by_lines (λ f. (n : ℕ) → length (faults_from ls n f) ≤ length f)
      (λ f e n. omega (arith, ap length (faults-rest ls n f e), few-rest n f))
      (λ f k r more n.
      let w = r.within in
      let this = fault_of n (judged ls (take k f)) in
      let left = faults_from ls (n + 1) (drop (k + 2) f) in
      omega (arith, ap length (faults-first f (take k f) (drop (k + 2) f) (ends-first f k r) ls n), length-append this left, one-fault n (judged ls (take k f)), more (n + 1), length-drop (k + 2) f))

few-lines : (f : List ℕ) → lines_in f ≤ length f
few-lines =
    by_lines (λ f. lines_in f ≤ length f)
    (λ f e. omega (arith, lines_rest f e, few-rest 0 f))
    (λ f k r more. let w = r.within in omega (arith, lines-first f (take k f) (drop (k + 2) f) (ends-first f k r), length-drop (k + 2) f))

pub numbers_fit : (ls : List (List Field)) (f : List ℕ) → is_lawful ls ≡ true → length f ≤ 65536 → NumbersFit ls f
numbers_fit ls f law h =
    record { lines = omega (arith, few-lines f); bad = omega (arith, few-faults ls law f 1); faults = fits ls law f 1 (omega arith) }
