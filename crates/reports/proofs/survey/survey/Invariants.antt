use Rattle.std.proofs.Common.{◌≡◌, ◌+◌, ◌≤◌, length}
use Rattle.reports.specs.Surveys.{faults_from, faults_of, lines_in, laid}
use Rattle.reports.proofs.survey.survey.Given as goal

-- what is counted and laid, and what is left, are the whole
abbrev pub invariant-loop-line : goal.invariant-loop-line
invariant-loop-line g l =
    record {
      fewer : l.bad ≤ l.lines;
      few : l.lines + length l.left ≤ length l.bytes;
      lines : l.lines + lines_in l.left ≡ lines_in l.bytes;
      bad : l.bad + length (faults_from (g.S.LayoutSet.meaning l.set) (l.lines + 1) l.left) ≡ length (faults_of (g.S.LayoutSet.meaning l.set) l.bytes);
      rows : laid l.rows l.bad (faults_from (g.S.LayoutSet.meaning l.set) (l.lines + 1) l.left) ≡ laid l.initial.rows 0 (faults_of (g.S.LayoutSet.meaning l.set) l.bytes);
    }

abbrev pub decreases-loop-line : goal.decreases-loop-line
decreases-loop-line g l = length l.left
