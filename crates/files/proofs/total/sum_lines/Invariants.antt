use Rattle.std.proofs.Common.{◌≡◌, ◌+◌, ◌*◌, ◌≤◌, length}
use Rattle.files.specs.Lines.{lines_of, written}
use Rattle.files.proofs.Sums.{line_sums}
use Rattle.files.proofs.total.sum_lines.Given as goal

-- what was gone over and what is left are the whole; the sum so far, and what is left to add to it
abbrev pub invariant-loop-line : goal.invariant-loop-line
invariant-loop-line g l =
    record {
      within : l.count + length l.left ≤ length l.bytes;
      counted : l.count + length (lines_of l.left) ≡ length (lines_of l.bytes);
      end : length l.bytes + length (written (lines_of l.left)) ≡ length l.left + length (written (lines_of l.bytes));
      few : l.sum ≤ 999999999999999 * l.count;
      sum : l.count ≤ 1200 → line_sums (g.S.LayoutSet.meaning l.set) l.currency.letters (l.count + 1) (lines_of l.left) l.sum ≡ line_sums (g.S.LayoutSet.meaning l.set) l.currency.letters 1 (lines_of l.bytes) 0;
    }

abbrev pub decreases-loop-line : goal.decreases-loop-line
decreases-loop-line g l = length l.left
