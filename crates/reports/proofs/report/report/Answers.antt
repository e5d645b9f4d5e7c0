use Rattle.std.proofs.Common.{replicate, refl, ap, ◌∙◌, arith}
use Rattle.reports.specs.declared.fault_row.FaultRow.{FaultRow}
use Rattle.reports.specs.Reports.{answer_of, room_after}
use Rattle.reports.proofs.Showing.{report-is, report-short}
use Rattle.reports.proofs.Fitting.{numbers_fit}
use Rattle.reports.proofs.report.report.Goals as goal

no_row : FaultRow
no_row = record { line = 0; field = 0; byte = 0; number = 0 }

pub returns : goal.returns
unfolding no_row
returns g c =
    let M = g.S.LayoutSet.meaning c.args.set.now in
    let f = c.args.bytes.now in
    let out = c.args.out.now in
    let found = c.survey-found.result in
    let is =
    report-is M f c.survey-found.new.rows (replicate 100 no_row) found.lines found.bad c.min-shown.result (omega arith) refl c.survey-found.ensures.lines c.survey-found.ensures.bad c.survey-found.ensures.rows c.min-shown.ensures in
    record {
      answer = c.put_report.ensures.answer ∙ ap (λ t. answer_of t out) is;
      written = c.put_report.ensures.room ∙ ap (λ t. room_after t out) is;
      short = report-short M f;
      numbers_fit = numbers_fit M f (g.met.S.LayoutSet.lawful c.args.set.now);
    }
