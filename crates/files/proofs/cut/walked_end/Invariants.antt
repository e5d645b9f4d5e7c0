use Rattle.std.proofs.Common.{◌≡◌, ◌+◌, ◌-◌, ◌≤◌, length, drop}
use Rattle.std.specs.Option.{option_map}
use Rattle.files.specs.Lines.{line_end}
use Rattle.files.proofs.cut.walked_end.Given as goal

-- what is left, from here, has the answer of the whole
abbrev pub invariant-loop-i : goal.invariant-loop-i
invariant-loop-i l = (l.i ≤ length l.bytes) × (option_map (λ k. l.i + k) (line_end (drop l.i l.bytes)) ≡ line_end l.bytes)

abbrev pub decreases-loop-i : goal.decreases-loop-i
decreases-loop-i l = length l.bytes - l.i
