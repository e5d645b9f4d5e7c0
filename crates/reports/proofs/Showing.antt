-- Laws of the report.
use Rattle.std.proofs.Common.{◌≡◌, ℕ, ◌-◌, ◌≤◌, min, ltb, List, length, take, drop, sym, ap, ◌∙◌, arith, length-take}
use Rattle.std.proofs.lemmas.List.{take_at}
use Rattle.std.proofs.lemmas.Bool.{le-ltb, cond-false, cond_both}
use Rattle.layouts.specs.declared.field.Field.{Field}
use Rattle.reports.specs.declared.fault_row.FaultRow.{FaultRow}
use Rattle.reports.specs.Surveys.{faults_of, lines_in, laid_over}
use Rattle.reports.specs.Reports.{shown, too_long, report_of}
use Rattle.reports.proofs.Putting.{length-shown}

-- of a hundred rows, those that faults were put into
pub shown-rows : (rows faults : List FaultRow) (n : ℕ) → length rows ≡ 100 → n ≡ min (length faults) 100 → take (n - 0) (laid_over rows faults) ≡ take 100 faults
shown-rows rows faults n e m =
    let z : n - 0 ≡ length (take (length rows) faults) = omega (arith, length-take (length rows) faults) in
    take_at (take (length rows) faults) (drop (length faults) rows) (n - 0) (sym z) ∙ ap (λ k. take k faults) e

module _ (ls : List (List Field)) (f : List ℕ) where
  abbrev faults : List FaultRow
  faults = faults_of ls f

  pub report-shown : length f ≤ 65536 → report_of ls f ≡ shown (lines_in f) (length faults) (take 100 faults)
  report-shown h = cond-false (ltb 65536 (length f)) too_long (shown (lines_in f) (length faults) (take 100 faults)) (le-ltb 65536 (length f) h)

  pub report-short : length (report_of ls f) ≤ 4022
  report-short =
      cond_both (ltb 65536 (length f)) too_long (shown (lines_in f) (length faults) (take 100 faults)) (λ x. length x ≤ 4022)
      (λ e. omega arith)
      (λ e. omega (arith, length-shown (lines_in f) (length faults) (take 100 faults), length-take 100 faults))

  -- what a survey found, shown
  pub report-is : (rows old : List FaultRow) (lines bad n : ℕ) → length f ≤ 65536 → length old ≡ 100 → lines ≡ lines_in f → bad ≡ length faults → rows ≡ laid_over old faults → n ≡ min bad 100 → shown lines bad (take (n - 0) rows) ≡ report_of ls f
  report-is rows old lines bad n h o l b r m =
      (λ i. shown (l i) (b i) (take (n - 0) (r i)))
      ∙ ap (shown (lines_in f) (length faults)) (shown-rows old faults n o (m ∙ ap (λ x. min x 100) b))
      ∙ sym (report-shown h)
