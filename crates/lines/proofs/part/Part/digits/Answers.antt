use Rattle.std.proofs.Common.{sym}
use Rattle.lines.proofs.Steps.{digits-found, digits-shown}
use Rattle.lines.proofs.part.Part.digits.Goals as goal

pub returns-in-Some : goal.returns-in-Some
returns-in-Some c = digits-found c.args.self.now.field c.args.self.now.place c.args.self.now.bytes.now c.in-Some.n c.in-Some.ensures

pub returns : goal.returns
returns c = digits-shown c.args.self.now.field c.args.self.now.place c.args.self.now.bytes.now _ c.requires c.in_default.ensures (sym c.in_ok-clean.ensures)
