use Rattle.std.proofs.Common.{◌≡◌, ◌+◌, length, sym, ap, ◌∙◌, arith}
use Rattle.lines.specs.Judging.{and_then}
use Rattle.files.specs.Lines.{lines_of, written}
use Rattle.files.proofs.Cuts.{no_lines}
use Rattle.files.proofs.FileLaws.{counted-ok}
use Rattle.files.proofs.FirstLines.{lines-are, long-is, written-is}
use Rattle.files.proofs.Sums.{line_sums, summed-by-lines, sum_more, sum-bad, sum-last}
use Rattle.files.proofs.total.sum_lines.Goals as goal

pub loop-line-preserved : goal.loop-line-preserved
loop-line-preserved g c =
    let M = g.S.LayoutSet.meaning c.args.set.now in
    let cur = c.args.currency.letters in
    let first = c.in-Some.ensures.steps in
    let lines = ap length (lines-are _ _ _ first) in
    let long = long-is _ _ _ first in
    let end = written-is _ _ _ first in
    let k = c.loop-line.invariant in
    let paid = c.in-Ok.ensures.few in
    let few = k.few in
    let add = c.saturating_add-sum.ensures in
    record {
      within = omega arith;
      counted = omega arith;
      end = omega arith;
      few = omega arith;
      sum = λ most.
          let fits : c.saturating_add-sum.result ≡ c.loop-line.sum + c.in-Ok.paid = omega arith in
          let more = sum_more c.loop-line.left c.in-Some.line.now c.next.new.self first M cur (c.loop-line.count + 1) c.loop-line.sum c.in-Ok.paid (sym c.paid_in.ensures.paid ∙ c.in-Ok.is) in
          ap (line_sums M cur (c.loop-line.count + 1 + 1) (lines_of c.next.new.self)) fits ∙ sym more ∙ k.sum (omega arith);
    }

pub returns-in-Err-clause-sum : goal.returns-in-Err-clause-sum
returns-in-Err-clause-sum g c =
    let M = g.S.LayoutSet.meaning c.args.set.now in
    let f = c.args.bytes.now in
    let cur = c.args.currency.letters in
    let ok = sym c.whole_lines.ensures ∙ c.in_ok-whole_lines-in-Err.was in
    let first = c.in-Some.ensures.steps in
    let most = (counted-ok f _ ok).few' in
    let lines = ap length (lines-are _ _ _ first) in
    let counted = c.loop-line.invariant.counted in
    let bad = sum-bad c.loop-line.left c.in-Some.line.now c.next.new.self first M cur (c.loop-line.count + 1) c.loop-line.sum c.in-Err.e (sym c.paid_in.ensures.paid ∙ c.in-Err.is) in
    sym (sym (summed-by-lines M f cur) ∙ ap (λ r. and_then r (λ m. line_sums M cur 1 (lines_of f) 0)) ok ∙ sym (c.loop-line.invariant.sum (omega arith)) ∙ bad)

pub walked_lines-requires : goal.walked_lines-requires
walked_lines-requires g c =
    let none = no_lines c.loop-line.left c.in_default.ensures.steps.0 in
    let lines = ap length none in
    let end = ap (λ ls. length (written ls)) none in
    let k = c.loop-line.invariant in
    record { lines = omega arith; rest = omega (arith, ap length (c.rest.ensures ∙ c.in_default.ensures.steps.1)) }

pub returns : goal.returns
returns g c =
    let M = g.S.LayoutSet.meaning c.args.set.now in
    let f = c.args.bytes.now in
    let cur = c.args.currency.letters in
    let ok = sym c.walked_lines.ensures ∙ c.in_ok-walked_lines.was in
    let most = (counted-ok f _ ok).few' in
    let none = ap length (no_lines c.loop-line.left c.in_default.ensures.steps.0) in
    let counted = c.loop-line.invariant.counted in
    let few = c.loop-line.invariant.few in
    let last = sum-last c.loop-line.left c.in_default.ensures.steps.0 M cur (c.loop-line.count + 1) c.loop-line.sum in
    record {
      sum = sym (sym (summed-by-lines M f cur) ∙ ap (λ r. and_then r (λ m. line_sums M cur 1 (lines_of f) 0)) ok ∙ sym (c.loop-line.invariant.sum (omega arith)) ∙ last);
      few = omega arith;
    }
