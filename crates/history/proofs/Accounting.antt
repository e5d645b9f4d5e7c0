-- The account of a run in one currency: what the last file pays is what came in less what went out, and each
-- change that stands accounts for the step between two files of the history.
use Rattle.std.proofs.Common.{◌≡◌, ℕ, ◌+◌, List, [], ◌∷◌, arith}
use Rattle.layouts.specs.declared.field.Field.{Field}
use Rattle.files.specs.Lines.{lines_of}
use Rattle.files.specs.Totals.{sum_of}
use Rattle.history.specs.History.{last_file}
use Rattle.history.specs.Accounts.{Moved, Account, booked, unbooked}

-- a change that moved so much leads from the file f to the file g
abbrev pub Moves : List (List Field) → List ℕ → Moved → List ℕ → List ℕ → Type 0
Moves ls currency m f g = sum_of ls currency (lines_of g) + m.taken ≡ sum_of ls currency (lines_of f) + m.brought

-- the changes that stand lead through the files
abbrev pub Standing : List (List Field) → List ℕ → List (List ℕ) → List Moved → Type 0
Standing ls currency [] ms = Unit {0}
Standing ls currency (f ∷ []) ms = Unit {0}
Standing ls currency (f ∷ g ∷ fs) [] = ⊥
Standing ls currency (f ∷ g ∷ fs) (m ∷ ms) = Moves ls currency m g f × Standing ls currency (g ∷ fs) ms

pub record Books (ls : List (List Field)) (currency : List ℕ) (fs : List (List ℕ)) (a : Account) : Type 0 where
  pub balance : sum_of ls currency (lines_of (last_file fs)) + a.taken ≡ a.brought
  pub changes : Standing ls currency fs a.standing

module _ (ls : List (List Field)) (currency : List ℕ) where
  pub books-more : (m : Moved) (a : Account) (f g : List ℕ) (fs : List (List ℕ)) → Moves ls currency m f g → Books ls currency (f ∷ fs) a → Books ls currency (g ∷ f ∷ fs) (booked m a)
  books-more m a f g fs e b = let old = b.balance in record { balance = omega arith; changes = (e, b.changes) }

  pub books-back : (brought taken : ℕ) (ms : List Moved) (f g : List ℕ) (fs : List (List ℕ)) → sum_of ls currency (lines_of f) + taken ≡ brought → Standing ls currency (f ∷ g ∷ fs) ms → Books ls currency (g ∷ fs) (unbooked brought taken ms)
  books-back brought taken [] f g fs e h = absurd h
  books-back brought taken (m ∷ ms) f g fs e h = let step = h.0 in record { balance = omega arith; changes = h.1 }
