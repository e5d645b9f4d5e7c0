use Rattle.std.proofs.Common.{◌≡◌, ◌+◌, ◌≤◌, length}
use Rattle.files.specs.Lines.{lines_of, written}
use Rattle.files.proofs.cut.count_lines.Given as goal

-- what is counted and what is left are the whole
abbrev pub invariant-loop-line : goal.invariant-loop-line
invariant-loop-line l =
    record {
      few : l.lines + length l.left ≤ length l.bytes;
      counted : l.lines + length (lines_of l.left) ≡ length (lines_of l.bytes);
      end : length l.bytes + length (written (lines_of l.left)) ≡ length l.left + length (written (lines_of l.bytes));
    }

abbrev pub decreases-loop-line : goal.decreases-loop-line
decreases-loop-line l = length l.left
