use Rattle.std.proofs.Common.{◌+◌, length, set, sym, ap, ◌∙◌, arith, length-append}
use Rattle.lines.specs.Judging.{judged}
use Rattle.reports.specs.Surveys.{fault_of, rest_fault, faults_from, faults_of, laid}
use Rattle.reports.proofs.Laying.{laid-append, laid-over}
use Rattle.reports.proofs.Faults.{one-fault, faults-first, lines-first, faults-rest, lines_rest, rest-stands, stands, none-stands}
use Rattle.files.proofs.FirstLines.{long-is}
use Rattle.reports.proofs.survey.survey.Goals as goal

pub loop-line-preserved : goal.loop-line-preserved
loop-line-preserved g c =
    let M = g.S.LayoutSet.meaning c.args.set.now in
    let n = c.loop-line.lines + 1 in
    let line = c.in-Some.line.now in
    let t = c.next.new.self in
    let h = c.in-Some.ensures.steps in
    let this = fault_of n (judged M line) in
    let left = faults_from M (n + 1) t in
    let more = faults-first c.loop-line.left line t h M n in
    let lines = lines-first c.loop-line.left line t h in
    let long = long-is c.loop-line.left line t h in
    let few = one-fault n (judged M line) in
    let k = c.loop-line.invariant in
    record {
      fewer = omega arith;
      few = omega arith;
      lines = omega arith;
      bad = omega (arith, ap length more, length-append this left);
      rows =
          (λ i. laid (c.note_line-bad.ensures.rows i) (c.note_line-bad.ensures.count i) left)
          ∙ sym (laid-append c.loop-line.rows c.loop-line.bad this left)
          ∙ ap (laid c.loop-line.rows c.loop-line.bad) (sym more)
          ∙ c.loop-line.invariant.rows;
    }

pub returns-then-not-is_empty : goal.returns-then-not-is_empty
returns-then-not-is_empty g c =
    let M = g.S.LayoutSet.meaning c.args.set.now in
    let n = c.loop-line.lines + 1 in
    let f = c.loop-line.left in
    let h = c.in_default.ensures.steps in
    let some = ap length (sym (c.rest.ensures ∙ h.1)) in
    let stand = stands c.rest.result.now c.if-not-is_empty.ensures in
    let last = faults-rest M n f h.0 ∙ rest-stands f n (omega arith) in
    let row = ap (λ k. record { line = n; field = 0; byte = 0; number = k }) c.number.ensures.value in
    let k = c.loop-line.invariant in
    record {
      lines = omega (arith, lines_rest f h.0, ap length (rest-stands f 0 (omega arith)));
      bad = omega (arith, ap length last);
      rows = c.note.ensures ∙ ap (set c.loop-line.rows c.loop-line.bad) row ∙ ap (laid c.loop-line.rows c.loop-line.bad) (sym last) ∙ c.loop-line.invariant.rows ∙ laid-over c.args.rows.now (faults_of M c.args.bytes.now);
    }

pub returns-else-not-is_empty-clause-rows : goal.returns-else-not-is_empty-clause-rows
returns-else-not-is_empty-clause-rows g c =
    let M = g.S.LayoutSet.meaning c.args.set.now in
    let n = c.loop-line.lines + 1 in
    let f = c.loop-line.left in
    let h = c.in_default.ensures.steps in
    let none = sym (c.rest.ensures ∙ h.1) ∙ none-stands c.rest.result.now c.if-not-is_empty.ensures in
    let last = faults-rest M n f h.0 ∙ ap (rest_fault n) none in
    ap (laid c.loop-line.rows c.loop-line.bad) (sym last) ∙ c.loop-line.invariant.rows ∙ laid-over c.args.rows.now (faults_of M c.args.bytes.now)
