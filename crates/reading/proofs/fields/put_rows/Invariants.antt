use Rattle.std.proofs.Common.{◌≡◌, ◌+◌, ◌≤◌, length, drop}
use Rattle.layouts.specs.Layouts.{layout_at}
use Rattle.lines.specs.Belongs.{Follows}
use Rattle.values.specs.Values.{cuts}
use Rattle.values.specs.Rows.{rows_in, rows_of, laid}
use Rattle.reading.proofs.Walks.{Figured}
use Rattle.reading.proofs.fields.put_rows.Given as goal

-- the rows of what is left, laid from here on, give what all give
abbrev pub invariant-loop-f : goal.invariant-loop-f
invariant-loop-f g l =
    record {
      inside : l.before ≤ length l.line;
      figured : Figured l.f-iterator;
      follows : Follows l.f-iterator (drop l.before l.line);
      lent : l.stack.rows.ghost_name ≡ l.initial.stack.rows.ghost_name;
      long : length l.stack.rows.now ≡ length l.initial.stack.rows.now;
      sum : l.stack.used + length (rows_in l.f-iterator l.before (cuts l.f-iterator (drop l.before l.line))) ≡ length (rows_of (layout_at (g.S.LayoutSet.meaning l.set) l.j) l.line);
      rows : laid l.stack.rows.now l.stack.used (rows_in l.f-iterator l.before (cuts l.f-iterator (drop l.before l.line))) ≡ laid l.initial.stack.rows.now 0 (rows_of (layout_at (g.S.LayoutSet.meaning l.set) l.j) l.line);
    }
