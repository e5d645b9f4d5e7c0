use Rattle.std.proofs.Common.{◌≤◌, length}
use Rattle.edi4_tour.proofs.tell_fields.Given as goal

abbrev pub invariant-loop-k : goal.invariant-loop-k
invariant-loop-k l = l.place ≤ length l.line
