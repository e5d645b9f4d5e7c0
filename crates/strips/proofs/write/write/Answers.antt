use Rattle.std.proofs.Common.{arith}
use Rattle.strips.proofs.WriteLaws.{layout-put, layouts-put}
use Rattle.strips.proofs.write.write.Goals as goal

pub loop-j-preserved : goal.loop-j-preserved
loop-j-preserved g c = grind (arith, layout-put (g.S.LayoutSet.meaning c.args.set.now) c.loop-j.j)

pub returns : goal.returns
returns g c = grind (arith, layout-put (g.S.LayoutSet.meaning c.args.set.now) c.loop-j.j, layouts-put (g.S.LayoutSet.meaning c.args.set.now))
