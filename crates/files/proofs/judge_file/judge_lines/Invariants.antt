use Rattle.std.proofs.Common.{◌≡◌, ℕ, ◌+◌, ◌≤◌, length}
use Rattle.files.specs.Lines.{lines_of, written}
use Rattle.files.specs.Files.{line_by_line}
use Rattle.files.proofs.judge_file.judge_lines.Given as goal

-- what was gone over and what is left are the whole, and its fault is the fault of what is left
abbrev pub invariant-loop-line : goal.invariant-loop-line
invariant-loop-line g l =
    record {
      few : l.count + length l.left ≤ length l.bytes;
      counted : l.count + length (lines_of l.left) ≡ length (lines_of l.bytes);
      end : length l.bytes + length (written (lines_of l.left)) ≡ length l.left + length (written (lines_of l.bytes));
      fault : (n : ℕ) → line_by_line (g.S.LayoutSet.meaning l.set) (l.count + 1) (lines_of l.left) n ≡ line_by_line (g.S.LayoutSet.meaning l.set) 1 (lines_of l.bytes) n;
    }

abbrev pub decreases-loop-line : goal.decreases-loop-line
decreases-loop-line g l = length l.left
