use Rattle.std.proofs.Common.{◌≡◌}
use Rattle.layouts.specs.Layouts.{layout_at}
use Rattle.comparing.specs.Comparing.{same_rows}
use Rattle.comparing.proofs.fields.same_fields.Given as goal

-- the rows that are left are equal under the fields that are left if all are
abbrev pub invariant-loop-f : goal.invariant-loop-f
invariant-loop-f g l = record { same : same_rows l.f-iterator l.left.bytes.now l.left.rows.now l.other_left.bytes.now l.other_left.rows.now ≡ same_rows (layout_at (g.S.LayoutSet.meaning l.set) l.j) l.values.bytes.now l.values.rows.now l.other.bytes.now l.other.rows.now }
