-- The history of files: a list of files, the last one first. It begins with the empty file.
use Rattle.std.specs.Prelude.{ℕ, cond, List, [], ◌∷◌, ◌++◌}
use Rattle.changes.specs.Edits.{ended, replaced, struck}
use Rattle.history.specs.Acts.{Act, imports, adds, replaces, strikes, undoes, Event}

-- An accepted change enters a new file. An accepted undo takes the last one away, never the first.
abbrev pub entered : Act → List (List ℕ) → List (List ℕ)
entered a [] = []
entered (imports d) (f ∷ fs) = (f ++ d) ∷ f ∷ fs
entered (adds l) (f ∷ fs) = (f ++ ended l) ∷ f ∷ fs
entered (replaces n l) (f ∷ fs) = replaced n l f ∷ f ∷ fs
entered (strikes n) (f ∷ fs) = struck n f ∷ f ∷ fs
entered undoes (f ∷ []) = f ∷ []
entered undoes (f ∷ g ∷ fs) = g ∷ fs

-- A refused call alters nothing.
abbrev pub history_from : List (List ℕ) → List Event → List (List ℕ)
history_from fs [] = fs
history_from fs (e ∷ es) = history_from (cond e.accepted (entered e.act fs) fs) es

abbrev pub history : List Event → List (List ℕ)
history es = history_from ([] ∷ []) es

abbrev pub last_file : List (List ℕ) → List ℕ
last_file [] = []
last_file (f ∷ fs) = f

-- the files before the last one: each but the last comes from one change that stands
abbrev pub earlier : List (List ℕ) → List (List ℕ)
earlier [] = []
earlier (f ∷ fs) = fs
