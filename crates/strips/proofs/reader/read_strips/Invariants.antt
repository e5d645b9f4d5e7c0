use Rattle.std.proofs.Common.{◌≡◌, ◌-◌, ◌≤◌, length}
use Rattle.strips.specs.Loads.{read_from, read}
use Rattle.strips.specs.Readers.{reading_of}
use Rattle.strips.proofs.reader.read_strips.Given as goal

-- what is left, from here, comes to what the whole comes to
abbrev pub invariant-loop-letter : goal.invariant-loop-letter
invariant-loop-letter l =
    (length l.rest ≤ length l.strips)
    × (read_from 0 (length l.strips - length l.rest) (reading_of l.reader) l.rest ≡ read l.strips)

abbrev pub decreases-loop-letter : goal.decreases-loop-letter
decreases-loop-letter l = length l.rest
