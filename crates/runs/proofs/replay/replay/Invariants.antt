use Rattle.std.proofs.Common.{◌≡◌, ◌≤◌, List, map, take}
use Rattle.drafts.specs.Drafts.{state}
use Rattle.history.specs.Runs.{Step, events, Run}
use Rattle.runs.specs.Calls.{act_of}
use Rattle.runs.specs.Replays.{new_draft, accepted_of}
use Rattle.runs.proofs.replay.replay.Given as goal

-- the calls so far are a run
abbrev pub invariant-loop-call : goal.invariant-loop-call
invariant-loop-call g l =
    (l.accepted ≤ l.call-index)
    × ((ps : List Step)
    × (map (λ p. p.act) ps ≡ map act_of (take l.call-index l.calls))
    × Run (g.S.LayoutSet.meaning l.set) (state new_draft l.initial.file l.initial.rows l.initial.kept) ps (state l.draft l.file l.rows l.kept)
    × (l.accepted ≡ accepted_of (events ps)))
