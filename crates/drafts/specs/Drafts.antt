-- A draft's state, and what its calls promise.
use Rattle.std.specs.Prelude.{ℕ, List, Result}
use Rattle.basics.specs.declared.refusal.Refusal.{Refusal}
use Rattle.changes.specs.declared.change_row.ChangeRow.{ChangeRow}
use Rattle.changes.specs.States.{State, Contents, Promise}
use Rattle.changes.specs.Calls.{asked}
use Rattle.drafts.specs.declared.draft.Draft.{Draft}

-- the counts of a draft, with its file memory, change rows and kept bytes
abbrev pub state : Draft → List ℕ → List ChangeRow → List ℕ → State
state d f r k = record { fileUsed = d.file; rowsUsed = d.rows; keptUsed = d.kept; file = f; rows = r; kept = k }

-- a call keeps its promise: the draft and the three memories before it, then after it, and the answer
abbrev pub Meets : (Contents → Result Contents Refusal) → Draft → List ℕ → List ChangeRow → List ℕ → Draft → List ℕ → List ChangeRow → List ℕ → Result (Unit {0}) Refusal → Type 0
Meets call d f r k e g q l answer = Promise (asked call (state d f r k)) (state d f r k) (state e g q l) answer
