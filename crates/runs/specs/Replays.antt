-- What playing a list of calls on a new draft comes to.
use Rattle.std.specs.Prelude.{◌≡◌, ℕ, ◌+◌, cond, List, [], ◌∷◌, map}
use Rattle.layouts.specs.declared.field.Field.{Field}
use Rattle.changes.specs.declared.change_row.ChangeRow.{ChangeRow}
use Rattle.drafts.specs.declared.draft.Draft.{Draft}
use Rattle.drafts.specs.Drafts.{state}
use Rattle.history.specs.Acts.{Event}
use Rattle.history.specs.Runs.{Step, events, Run}
use Rattle.history.specs.Law.{Law}
use Rattle.runs.specs.declared.call.Call.{Call}
use Rattle.runs.specs.Calls.{act_of}

-- a new draft has its counts at 0
abbrev pub new_draft : Draft
new_draft = record { file = 0; rows = 0; kept = 0 }

abbrev pub accepted_of : List Event → ℕ
accepted_of [] = 0
accepted_of (e ∷ es) = cond e.accepted 1 0 + accepted_of es

-- the calls were made one after another, each met its promise, and the law holds of their run
pub record Played (ls : List (List Field)) (f : List ℕ) (r : List ChangeRow) (k : List ℕ) (calls : List Call) (d : Draft) (g : List ℕ) (q : List ChangeRow) (l : List ℕ) (accepted : ℕ) : Type 0 where
  pub steps : List Step
  pub in_order : map (λ p. p.act) steps ≡ map act_of calls
  pub run : Run ls (state new_draft f r k) steps (state d g q l)
  pub count : accepted ≡ accepted_of (events steps)
  pub law : Law ls steps (state d g q l)
