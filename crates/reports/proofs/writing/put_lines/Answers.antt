use Rattle.std.proofs.Common.{◌+◌, ◌≤◌, length, get_or, drop, sym, ap, ◌∙◌, arith}
use Rattle.reports.specs.declared.fault_row.FaultRow.{FaultRow}
use Rattle.reports.specs.Reports.{fault_line, fault_lines, head_line, put_into}
use Rattle.reports.proofs.Putting.{put_at, put_next, put-nothing, lines_more, lines_end_lem}
use Rattle.reports.proofs.writing.put_lines.Goals as goal

no_row : FaultRow
no_row = record { line = 0; field = 0; byte = 0; number = 0 }

pub loop-row-preserved : goal.loop-row-preserved
unfolding no_row
loop-row-preserved c =
    let rows = c.args.rows.now in
    let i = c.loop-row.row-index in
    let at = c.loop-row.at in
    let room = c.loop-row.room in
    let line = fault_line (get_or rows i no_row) in
    let rest = fault_lines (drop (i + 1) rows) in
    let inside : at ≤ length room = omega arith in (
      omega arith,
      ap (put_at (at + 40) rest) (c.put_at-in-loop-row.ensures ∙ ap (λ x. put_at at x room) c.fault_line.ensures)
          ∙ put_next room line rest at inside
          ∙ ap (λ x. put_at at x room) (sym (lines_more rows i no_row c.loop-row-test.true))
          ∙ c.loop-row.invariant.1,
    )

pub returns : goal.returns
returns c =
    let rows = c.args.rows.now in
    let at = c.loop-row.at in
    let room = c.loop-row.room in
    let old = c.args.room.now in
    let head = head_line c.args.found.lines c.args.found.bad in
    sym (put-nothing room at)
    ∙ ap (λ x. put_at at x room) (sym (lines_end_lem rows c.loop-row.row-index c.loop-row-test.false))
    ∙ c.loop-row.invariant.1
    ∙ ap (put_at 22 (fault_lines rows)) (c.put_at.ensures ∙ ap (λ x. put_into x old) c.head_line.ensures)
    ∙ put_next old head (fault_lines rows) 0 (omega arith)
