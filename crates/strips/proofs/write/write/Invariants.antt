use Rattle.std.proofs.Common.{◌≡◌, ◌-◌, ◌++◌, drop, vec_items}
use Rattle.strips.specs.Strips.{strips_of}
use Rattle.strips.proofs.write.write.Given as goal

abbrev pub invariant-loop-j : goal.invariant-loop-j
invariant-loop-j g l = vec_items l.out ++ strips_of (drop (l.j - 1) (g.S.LayoutSet.meaning l.set)) ≡ strips_of (g.S.LayoutSet.meaning l.set)
