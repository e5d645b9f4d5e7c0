use Rattle.std.proofs.Common.{sym, arith}
use Rattle.basics.specs.Bytes.{anywhere, allowed}
use Rattle.basics.proofs.ByteLaws.{first-of-some}
use Rattle.lines.proofs.part.Part.clean.Goals as goal

pub fault_at-requires : goal.fault_at-requires
fault_at-requires c =
    let f = (first-of-some (anywhere (allowed c.args.class)) c.args.self.now.bytes.now c.in-Some.k (sym c.in-Some.ensures)).inside in
    omega arith
