use Rattle.std.proofs.Common.{◌≡◌, ◌+◌, ◌*◌, ◌≤◌, length, drop}
use Rattle.layouts.specs.Layouts.{layout_at}
use Rattle.lines.specs.Belongs.{Follows}
use Rattle.values.specs.Values.{cuts}
use Rattle.values.specs.Rows.{rows_in, rows_of}
use Rattle.reading.proofs.fields.count_rows.Given as goal

-- what is counted, and the rows of what is left
abbrev pub invariant-loop-f : goal.invariant-loop-f
invariant-loop-f g l =
    record {
      inside : l.before ≤ length l.line;
      few : l.needed + 100 * length l.f-iterator ≤ 100 * length (layout_at (g.S.LayoutSet.meaning l.set) l.j);
      follows : Follows l.f-iterator (drop l.before l.line);
      sum : l.needed + length (rows_in l.f-iterator l.before (cuts l.f-iterator (drop l.before l.line))) ≡ length (rows_of (layout_at (g.S.LayoutSet.meaning l.set) l.j) l.line);
    }
