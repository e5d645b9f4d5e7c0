use Rattle.std.proofs.Common.{length, ap, ◌∙◌, arith}
use Rattle.files.specs.Lines.{written}
use Rattle.files.proofs.Cuts.{no_lines, cutting}
use Rattle.files.proofs.FirstLines.{lines-are, long-is, written-is}
use Rattle.files.proofs.cut.count_lines.Goals as goal

pub loop-line-preserved : goal.loop-line-preserved
loop-line-preserved c =
    let first = c.in-Some.ensures.steps in
    let lines = ap length (lines-are _ _ _ first) in
    let long = long-is _ _ _ first in
    let end = written-is _ _ _ first in
    let k = c.loop-line.invariant in
    record { few = omega arith; counted = omega arith; end = omega arith }

pub returns : goal.returns
returns c =
    let none = no_lines c.loop-line.left c.in_default.ensures.steps.0 in
    let lines = ap length none in
    let end = ap (λ ls. length (written ls)) none in
    let k = c.loop-line.invariant in
    record { lines = omega arith; end = omega (arith, ap length (c.rest.ensures ∙ c.in_default.ensures.steps.1)); cutting = cutting c.args.bytes.now }
