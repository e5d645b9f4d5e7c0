use Rattle.std.proofs.Common.{◌≡◌, ◌+◌, ◌*◌, ◌≤◌, length}
use Rattle.layouts.specs.Layouts.{layout_at}
use Rattle.writing.proofs.SizeLaws.{FieldsAhead}
use Rattle.writing.proofs.check.check_fields.Given as goal

-- the fields so far can be written, and the others are still to be looked at
abbrev pub invariant-loop-k : goal.invariant-loop-k
invariant-loop-k g l =
    record {
      counted : l.k-iterator.count + length l.k-iterator.iter ≡ length (layout_at (g.S.LayoutSet.meaning l.set) l.j);
      small : l.bytes ≤ 65535 * l.k-iterator.count;
      within : l.rows ≤ length l.values.rows.now;
      ahead : FieldsAhead (layout_at (g.S.LayoutSet.meaning l.set) l.j) l.values.bytes.now l.values.rows.now (l.k-iterator.count + 1) l.rows l.bytes l.k-iterator.iter;
    }
