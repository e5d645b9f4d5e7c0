-- The law over runs: what is found after every list of calls on a new draft.
use Rattle.std.specs.Prelude.{◌≡◌, ℕ, ◌+◌, ◌-◌, true, List, [], ◌∷◌, length, Ok, Err, Result}
use Rattle.basics.specs.declared.refusal.Refusal.{Refusal}
use Rattle.basics.specs.Money.{is_currency}
use Rattle.layouts.specs.declared.field.Field.{Field}
use Rattle.layouts.specs.Layouts.{is_lawful}
use Rattle.files.specs.Lines.{lines_of, written}
use Rattle.files.specs.Files.{Records, FileOf}
use Rattle.files.specs.Totals.{sum_of, total_of}
use Rattle.changes.specs.States.{State, Promise, used_file}
use Rattle.changes.specs.Calls.{asked, undoing, draft_refusal}
use Rattle.history.specs.Acts.{Event}
use Rattle.history.specs.History.{history, last_file, earlier}
use Rattle.history.specs.Accounts.{account}
use Rattle.history.specs.Runs.{Step, events, New, Run, UndoneTo}

-- the bytes are the writing of at most 1,200 records, CR LF behind each, and of no other list of records
pub record OneWriting (ls : List (List Field)) (f : List ℕ) : Type 0 where
  pub records : List (List ℕ)
  pub file : FileOf ls f records
  pub only : (others : List (List ℕ)) → Records ls others → f ≡ written others → others ≡ records

-- in each currency, what the lines pay is what came in less what went out, and `total` answers just that
pub record Balanced (ls : List (List Field)) (es : List Event) (f : List ℕ) : Type 0 where
  pub amounts : (currency : List ℕ) → sum_of ls currency (lines_of f) + (account ls currency es).taken ≡ (account ls currency es).brought
  pub total : (currency : List ℕ) → is_currency currency ≡ true → total_of ls f currency ≡ Ok ((account ls currency es).brought - (account ls currency es).taken)

-- Undo is accepted once for each earlier file, and leaves that file, whatever it leaves in free memory. With the first
-- file alone, which is empty, one undo more is refused with 36.
abbrev pub LeadsBack : State → List (List ℕ) → Type 0
LeadsBack t [] = ⊥
LeadsBack t (f ∷ []) = (used_file t ≡ []) × ((u : State) (answer : Result (Unit {0}) Refusal) → Promise (asked undoing t) t u answer → answer ≡ Err (draft_refusal 36))
LeadsBack t (f ∷ g ∷ fs) = (u : State) (answer : Result (Unit {0}) Refusal) → Promise (asked undoing t) t u answer → (answer ≡ Ok tt) × (used_file u ≡ g) × LeadsBack u (g ∷ fs)

-- what is found after a run that ended in the state t
pub record Law (ls : List (List Field)) (ps : List Step) (t : State) : Type 0 where
  pub last : used_file t ≡ last_file (history (events ps))
  pub writing : OneWriting ls (used_file t)
  pub balance : Balanced ls (events ps) (used_file t)
  pub back : LeadsBack t (history (events ps))

-- what holds of every run from a new draft
abbrev pub EveryRun : List (List Field) → (List Step → State → Type 0) → Type 0
EveryRun ls P = (s t : State) (ps : List Step) → New s → Run ls s ps t → P ps t

abbrev pub UsedBytesAreTheLastFile : List (List Field) → Type 0
UsedBytesAreTheLastFile ls = EveryRun ls (λ ps t. used_file t ≡ last_file (history (events ps)))

abbrev pub TheyAreTheWritingOfOneListOfRecords : List (List Field) → Type 0
TheyAreTheWritingOfOneListOfRecords ls = EveryRun ls (λ ps t. OneWriting ls (used_file t))

abbrev pub AmountsAreWhatCameInLessWhatWentOut : List (List Field) → Type 0
AmountsAreWhatCameInLessWhatWentOut ls = EveryRun ls (λ ps t. Balanced ls (events ps) (used_file t))

abbrev pub UndoLeadsBackThroughEveryFile : List (List Field) → Type 0
UndoLeadsBackThroughEveryFile ls = EveryRun ls (λ ps t. LeadsBack t (history (events ps)))

-- undo as often as it is accepted, so many times, from the state s to the state t, where refusal e comes
pub record UndoneUntil (s : State) (n : ℕ) (t : State) (e : Refusal) : Type 0 where
  pub files : List (List ℕ)
  pub each : UndoneTo s files t
  pub count : n ≡ length files
  pub refused : Promise (asked undoing t) t t (Err e)

-- after a run from a new draft: once for each change that stands, back through every file to no bytes, and then 36
pub record BackToNothing (ps : List Step) (s : State) (n : ℕ) (t : State) (e : Refusal) : Type 0 where
  pub each : UndoneTo s (earlier (history (events ps))) t
  pub count : n ≡ length (earlier (history (events ps)))
  pub empty : used_file t ≡ []
  pub nothingLeft : e ≡ draft_refusal 36

abbrev pub UndoesEveryStandingChange : State → ℕ → State → Refusal → Type 0
UndoesEveryStandingChange s n t e = (ls : List (List Field)) → is_lawful ls ≡ true → (r : State) (ps : List Step) → New r → Run ls r ps s → BackToNothing ps s n t e
