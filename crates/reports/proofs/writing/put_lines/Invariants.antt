use Rattle.std.proofs.Common.{◌≡◌, ◌+◌, ◌*◌, drop}
use Rattle.reports.specs.Reports.{fault_lines}
use Rattle.reports.proofs.Putting.{put_at}
use Rattle.reports.proofs.writing.put_lines.Given as goal

-- what is put, and what is left to put from here, are the whole
abbrev pub invariant-loop-row : goal.invariant-loop-row
invariant-loop-row l =
    (l.at ≡ 22 + 40 * l.row-index)
    × (put_at l.at (fault_lines (drop l.row-index l.rows)) l.room ≡ put_at 22 (fault_lines l.rows) l.initial.room)
