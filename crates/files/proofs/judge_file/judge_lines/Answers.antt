use Rattle.std.proofs.Common.{◌+◌, length, sym, ap, ◌∙◌, arith}
use Rattle.lines.specs.Judging.{and_then}
use Rattle.files.specs.Lines.{lines_of, written}
use Rattle.files.specs.Files.{line_by_line}
use Rattle.files.proofs.Cuts.{no_lines}
use Rattle.files.proofs.FirstLines.{lines-are, long-is, written-is}
use Rattle.files.proofs.Counting.{judge-more, judge-bad, judge-last, judged-count}
use Rattle.files.proofs.judge_file.judge_lines.Goals as goal

pub returns-in-Err : goal.returns-in-Err
returns-in-Err g c =
    let M = g.S.LayoutSet.meaning c.args.set.now in
    let f = c.args.bytes.now in
    let n = c.in_ok-whole_lines.field-0 in
    let bad = judge-bad c.loop-line.left c.in-Some.line.now c.next.new.self c.in-Some.ensures.steps M (c.loop-line.count + 1) n c.in-Err.e (sym c.judge_line.ensures ∙ c.in-Err.is) in
    sym (ap (λ r. and_then r (λ m. line_by_line M 1 (lines_of f) m)) (sym c.whole_lines.ensures ∙ c.in_ok-whole_lines.was) ∙ sym (c.loop-line.invariant.fault n) ∙ bad)

pub loop-line-preserved : goal.loop-line-preserved
loop-line-preserved g c =
    let M = g.S.LayoutSet.meaning c.args.set.now in
    let first = c.in-Some.ensures.steps in
    let lines = ap length (lines-are _ _ _ first) in
    let long = long-is _ _ _ first in
    let end = written-is _ _ _ first in
    let k = c.loop-line.invariant in
    record {
      few = omega arith;
      counted = omega arith;
      end = omega arith;
      fault = λ n. sym (judge-more c.loop-line.left c.in-Some.line.now c.next.new.self first M (c.loop-line.count + 1) n c.in_default-judge_line.field-0 (sym c.judge_line.ensures ∙ c.in_default-judge_line.is)) ∙ k.fault n;
    }

pub walked_lines-requires : goal.walked_lines-requires
walked_lines-requires g c =
    let none = no_lines c.loop-line.left c.in_default.ensures.steps.0 in
    let lines = ap length none in
    let end = ap (λ ls. length (written ls)) none in
    let k = c.loop-line.invariant in
    record { lines = omega arith; rest = omega (arith, ap length (c.rest.ensures ∙ c.in_default.ensures.steps.1)) }

pub returns : goal.returns
returns g c =
    let M = g.S.LayoutSet.meaning c.args.set.now in
    let f = c.args.bytes.now in
    c.walked_lines.ensures
    ∙ sym (judged-count _ (λ m. line_by_line M 1 (lines_of f) m) (λ n. sym (c.loop-line.invariant.fault n) ∙ judge-last c.loop-line.left c.in_default.ensures.steps.0 M (c.loop-line.count + 1) n))
