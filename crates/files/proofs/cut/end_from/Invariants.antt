use Rattle.std.proofs.Common.{◌≡◌, ◌+◌, ◌-◌, ◌≤◌, length, drop}
use Rattle.std.specs.Option.{option_map}
use Rattle.files.specs.Lines.{line_end}
use Rattle.files.proofs.cut.end_from.Given as goal

-- the first line end of what is left is that of the whole
abbrev pub invariant-loop-k : goal.invariant-loop-k
invariant-loop-k l = record {
  within : l.from ≤ length l.bytes;
  same : option_map (λ m. l.from + m) (line_end (drop l.from l.bytes)) ≡ option_map (λ m. l.place + m) (line_end (drop l.place l.bytes));
}

abbrev pub decreases-loop-k : goal.decreases-loop-k
decreases-loop-k l = length l.bytes - l.from
