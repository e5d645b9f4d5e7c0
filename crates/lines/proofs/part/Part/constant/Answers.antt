use Rattle.std.proofs.Common.{sym, ◌∙◌, arith}
use Rattle.basics.specs.Bytes.{these}
use Rattle.basics.proofs.ByteLaws.{first-of-some}
use Rattle.lines.proofs.Differences.{difference}
use Rattle.lines.proofs.part.Part.constant.Goals as goal

pub fault_at-requires : goal.fault_at-requires
fault_at-requires c =
    let d = sym (difference c.args.expected.now c.args.self.now.bytes.now c.requires) ∙ sym c.in-Some.ensures in
    let f = (first-of-some (these c.args.expected.now) c.args.self.now.bytes.now c.in-Some.k d).inside in
    omega arith

pub returns-in-Some : goal.returns-in-Some
returns-in-Some c = let d = sym (difference c.args.expected.now c.args.self.now.bytes.now c.requires) ∙ sym c.in-Some.ensures in grind arith

pub returns-in-None : goal.returns-in-None
returns-in-None c = let d = sym (difference c.args.expected.now c.args.self.now.bytes.now c.requires) ∙ sym c.in-None.ensures in grind arith
