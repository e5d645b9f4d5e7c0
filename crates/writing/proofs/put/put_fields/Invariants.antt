use Rattle.std.proofs.Common.{◌+◌, ◌≤◌, length}
use Rattle.layouts.specs.Layouts.{layout_at}
use Rattle.writing.proofs.PutLaws.{FieldsSofar}
use Rattle.writing.proofs.put.put_fields.Given as goal

abbrev pub invariant-loop-f : goal.invariant-loop-f
invariant-loop-f g l =
    record {
      within : l.used ≤ length l.values.rows.now;
      sofar : FieldsSofar (layout_at (g.S.LayoutSet.meaning l.set) l.j) l.values.bytes.now l.values.rows.now l.initial.out l.out (length l.yielded + 1) l.used l.place l.f-iterator;
    }
