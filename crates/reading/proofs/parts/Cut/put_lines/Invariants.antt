use Rattle.std.proofs.Common.{◌≡◌, ◌+◌, ◌-◌, ◌*◌, length, drop}
use Rattle.values.specs.Rows.{line_rows, laid}
use Rattle.reading.proofs.parts.Cut.put_lines.Given as goal

-- the rows of the lines that are left, laid from here on, give what all give
abbrev pub invariant-loop-k : goal.invariant-loop-k
invariant-loop-k l =
    record {
      lent : l.stack.rows.ghost_name ≡ l.initial.stack.rows.ghost_name;
      used : l.stack.used ≡ l.initial.stack.used + l.k;
      long : length l.stack.rows.now ≡ length l.initial.stack.rows.now;
      rows : laid l.stack.rows.now l.stack.used (line_rows (l.n - l.k) (l.self.before + 35 * l.k) (drop (35 * l.k) l.self.part.now)) ≡ laid l.initial.stack.rows.now l.initial.stack.used (line_rows l.n l.self.before l.self.part.now);
    }
