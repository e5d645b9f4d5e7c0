use Rattle.std.proofs.Common.{◌≡◌, ◌-◌, drop}
use Rattle.lines.specs.Judging.{found}
use Rattle.lines.proofs.judge.find.Given as goal

abbrev pub invariant-loop-j : goal.invariant-loop-j
invariant-loop-j g l = found (drop (l.j - 1) (g.S.LayoutSet.meaning l.set)) l.j l.digits ≡ found (g.S.LayoutSet.meaning l.set) 1 l.digits
