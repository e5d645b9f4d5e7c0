use Rattle.std.proofs.Common.{◌≡◌, ◌+◌, ◌≤◌, length}
use Rattle.layouts.specs.Layouts.{layout_at}
use Rattle.lines.specs.Judging.{walked}
use Rattle.lines.proofs.judge.walk.Given as goal

-- the fault of the whole line is the fault of the fields that are left, from here on
abbrev pub invariant-loop-f : goal.invariant-loop-f
invariant-loop-f g l =
    record {
      counted : l.i + length l.f-iterator ≡ 1 + length (layout_at (g.S.LayoutSet.meaning l.set) l.j);
      inside : l.place ≤ length l.line;
      same : walked l.line l.j l.f-iterator l.i l.place ≡ walked l.line l.j (layout_at (g.S.LayoutSet.meaning l.set) l.j) 1 0;
    }
