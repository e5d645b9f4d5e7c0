use Rattle.std.proofs.Common.{◌≡◌, ◌≤◌, length, drop}
use Rattle.files.specs.Lines.{lines_of}
use Rattle.changes.specs.Places.{span}
use Rattle.changes.proofs.places.behind_lines.Given as goal

-- so many lines are passed, and this is what stands behind them
abbrev pub invariant-loop-passed : goal.invariant-loop-passed
invariant-loop-passed l =
    record {
      there : l._passed ≤ length (lines_of l.bytes);
      left : l.left ≡ drop (span l._passed l.bytes) l.bytes;
    }
