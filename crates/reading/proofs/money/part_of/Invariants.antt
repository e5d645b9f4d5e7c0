use Rattle.std.proofs.Common.{◌≡◌, ◌≤◌, length, drop}
use Rattle.layouts.specs.Layouts.{layout_at}
use Rattle.lines.specs.Belongs.{Follows}
use Rattle.values.specs.Values.{cuts}
use Rattle.values.specs.Money.{part_of}
use Rattle.reading.proofs.money.part_of.Given as goal

-- the part is among those that are left
abbrev pub invariant-loop-f : goal.invariant-loop-f
invariant-loop-f g l =
    record {
      inside : l.before ≤ length l.line;
      follows : Follows l.f-iterator (drop l.before l.line);
      part : part_of l.kind l.f-iterator (cuts l.f-iterator (drop l.before l.line)) ≡ part_of l.kind (layout_at (g.S.LayoutSet.meaning l.set) l.j) (cuts (layout_at (g.S.LayoutSet.meaning l.set) l.j) l.line);
    }
