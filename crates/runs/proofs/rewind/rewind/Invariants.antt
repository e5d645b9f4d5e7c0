use Rattle.std.proofs.Common.{◌≡◌, ℕ, ◌+◌, ◌<◌, ◌≤◌, List, length}
use Rattle.drafts.specs.Drafts.{state}
use Rattle.history.specs.Runs.{UndoneTo}
use Rattle.runs.proofs.rewind.rewind.Given as goal

-- so many undos are accepted, each with a row less; once one is, the rows are known to be as long as their count
abbrev pub invariant-loop-undone : goal.invariant-loop-undone
invariant-loop-undone l =
    (fs : List (List ℕ))
    × UndoneTo (state l.initial.draft l.initial.file l.rows l.kept) fs (state l.draft l.file l.rows l.kept)
    × (l.undone ≡ length fs)
    × (l.undone + l.draft.rows ≡ l.initial.draft.rows)
    × (0 < l.undone → l.initial.draft.rows ≤ length l.rows)

abbrev pub decreases-loop-undone : goal.decreases-loop-undone
decreases-loop-undone l = l.draft.rows
