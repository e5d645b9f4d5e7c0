-- The chain of contents that undo goes back along: each holds a file of the history, down to the empty one.
use Rattle.std.proofs.Common.{◌≡◌, ℕ, ◌≤◌, true, List, [], ◌∷◌, length, Ok, Result, sym, ap, ◌∙◌, subst}
use Rattle.basics.specs.declared.refusal.Refusal.{Refusal}
use Rattle.layouts.specs.declared.field.Field.{Field}
use Rattle.files.specs.Lines.{lines_of}
use Rattle.files.specs.Files.{FileOf}
use Rattle.changes.specs.States.{State, Contents, within, contents, Promise}
use Rattle.changes.specs.Calls.{asked, undoing}
use Rattle.changes.proofs.CallLaws.{passed, asked-on}
use Rattle.changes.proofs.UndoLaws.{undo-none}
use Rattle.history.specs.Acts.{Act}
use Rattle.history.specs.History.{last_file}
use Rattle.history.specs.Law.{LeadsBack}
use Rattle.history.proofs.Changing.{new_file, Changes}

-- the file is f: a file of records that fits its memory
pub record Holds (ls : List (List Field)) (c : Contents) (f : List ℕ) : Type 0 where
  pub is : c.file ≡ f
  pub records : FileOf ls c.file (lines_of c.file)
  pub room : length c.file ≤ c.fileRoom

-- the latest change that stands is undone to contents from which the chain goes on
abbrev pub Chain : List (List Field) → Contents → List (List ℕ) → Type 0
Chain ls c [] = ⊥
Chain ls c (f ∷ []) = Holds ls c f × (length c.rows ≡ 0) × (f ≡ [])
Chain ls c (f ∷ g ∷ fs) = Holds ls c f × ((d : Contents) × (undoing c ≡ Ok d) × Chain ls d (g ∷ fs))

pub chain-holds : (ls : List (List Field)) (c : Contents) (fs : List (List ℕ)) → Chain ls c fs → Holds ls c (last_file fs)
chain-holds ls c [] h = absurd h
chain-holds ls c (f ∷ []) h = h.0
chain-holds ls c (f ∷ g ∷ fs) h = h.0

-- an accepted change is one link more
pub chain_more : (ls : List (List Field)) (a : Act) (c d : Contents) (f : List ℕ) (fs : List (List ℕ)) → Changes ls a c d → Chain ls c (f ∷ fs) → Chain ls d (new_file a f ∷ f ∷ fs)
chain_more ls a c d f fs m h =
    let is = (chain-holds ls c (f ∷ fs) h).is in
    (record { is = m.file ∙ ap (new_file a) is; records = m.records; room = m.room }, (c, m.undo, h))

-- a call on a draft that no memory is too short for
pub call-on : (call : Contents → Result Contents Refusal) (s t : State) (answer : Result (Unit {0}) Refusal) → within s ≡ true → Promise (asked call s) s t answer → Promise (call (contents s)) s t answer
call-on call s t answer ok p = subst (λ o. Promise o s t answer) (asked-on call s (passed (within s) 31 ok)) p

-- the chain leads back through the files
pub chain_back : (ls : List (List Field)) (t : State) (fs : List (List ℕ)) → within t ≡ true → Chain ls (contents t) fs → LeadsBack t fs
chain_back ls t [] ok h = h
chain_back ls t (f ∷ []) ok h =
    (h.0.is ∙ h.2, λ u answer p. (subst (λ o. Promise o t u answer) (undo-none (contents t) h.1) (call-on undoing t u answer ok p)).0)
chain_back ls t (f ∷ g ∷ fs) ok h =
    λ u answer p.
    let d = h.1.0 in
    let q = subst (λ o. Promise o t u answer) h.1.1 (call-on undoing t u answer ok p) in
    let rest = h.1.2 in
    (q.0, ap (λ c. c.file) q.1 ∙ (chain-holds ls d (g ∷ fs) rest).is, chain_back ls u (g ∷ fs) q.2 (subst (λ c. Chain ls c (g ∷ fs)) (sym q.1) rest))
