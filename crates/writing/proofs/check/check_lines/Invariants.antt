use Rattle.std.proofs.Common.{◌≤◌, length}
use Rattle.lines.specs.Rules.{text_test}
use Rattle.writing.proofs.SizeLaws.{LinesAhead}
use Rattle.writing.proofs.check.check_lines.Given as goal

-- so many lines can be written, and the others are still to be looked at
abbrev pub invariant-loop-k : goal.invariant-loop-k
invariant-loop-k l = (l.k ≤ length l.values.rows.now) × LinesAhead (text_test l.texts) l.n 0 l.values.bytes.now l.values.rows.now l.k
