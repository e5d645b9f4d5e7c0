-- Runs: lists of calls, accepted or refused, each on what the ones before it left.
use Rattle.std.specs.Prelude.{◌≡◌, ℕ, List, [], ◌∷◌, map, is_ok, Ok, Result}
use Rattle.basics.specs.declared.refusal.Refusal.{Refusal}
use Rattle.layouts.specs.declared.field.Field.{Field}
use Rattle.changes.specs.States.{State, Contents, Promise, used_file}
use Rattle.changes.specs.Calls.{asked, importing, adding, replacing, striking, undoing}
use Rattle.history.specs.Acts.{Act, imports, adds, replaces, strikes, undoes, Event}

-- what a call is to leave
abbrev pub called : List (List Field) → Act → Contents → Result Contents Refusal
called ls (imports d) = importing ls d
called ls (adds l) = adding ls l
called ls (replaces n l) = replacing ls n l
called ls (strikes n) = striking n
called ls undoes = undoing

-- a call that was made, and its answer
pub record Step : Type 0 where
  pub act : Act
  pub answer : Result (Unit {0}) Refusal

abbrev pub event_of : Step → Event
event_of p = record { act = p.act; accepted = is_ok p.answer }

abbrev pub events : List Step → List Event
events ps = map event_of ps

-- a new draft: its counts are 0, and the memory is of any size and content
abbrev pub New : State → Type 0
New s = (s.fileUsed ≡ 0) × (s.rowsUsed ≡ 0) × (s.keptUsed ≡ 0)

-- each call met its promise
abbrev pub Run : List (List Field) → State → List Step → State → Type 0
Run ls s [] t = s ≡ t
Run ls s (p ∷ ps) t = (u : State) × Promise (asked (called ls p.act) s) s u p.answer × Run ls u ps t

-- undo, called once for each of these files, is accepted, and leaves that file
abbrev pub UndoneTo : State → List (List ℕ) → State → Type 0
UndoneTo s [] t = s ≡ t
UndoneTo s (f ∷ fs) t = (u : State) × Promise (asked undoing s) s u (Ok tt) × (used_file u ≡ f) × UndoneTo u fs t
