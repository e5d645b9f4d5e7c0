-- The account of a run in one currency: what the accepted calls brought in and what they took out.
use Rattle.std.specs.Prelude.{ℕ, ◌+◌, cond, List, [], ◌∷◌}
use Rattle.layouts.specs.declared.field.Field.{Field}
use Rattle.files.specs.Lines.{lines_of}
use Rattle.files.specs.Totals.{worth, sum_of}
use Rattle.changes.specs.Edits.{line_of}
use Rattle.history.specs.Acts.{Act, imports, adds, replaces, strikes, undoes, Event}
use Rattle.history.specs.History.{entered, last_file}

-- what one change brought in and took out
pub record Moved : Type 0 where
  pub brought : ℕ
  pub taken : ℕ

abbrev pub moved : ℕ → ℕ → Moved
moved b t = record { brought = b; taken = t }

-- Import and add bring in what their lines pay. Strike takes out what line n of the file pays; replace does both.
abbrev pub moved_by : List (List Field) → List ℕ → Act → List ℕ → Moved
moved_by ls currency (imports d) f = moved (sum_of ls currency (lines_of d)) 0
moved_by ls currency (adds l) f = moved (worth ls currency l) 0
moved_by ls currency (replaces n l) f = moved (worth ls currency l) (worth ls currency (line_of n f))
moved_by ls currency (strikes n) f = moved 0 (worth ls currency (line_of n f))
moved_by ls currency undoes f = moved 0 0

-- all that came in and went out, and what each change that stands brought and took, the latest first
pub record Account : Type 0 where
  pub brought : ℕ
  pub taken : ℕ
  pub standing : List Moved

abbrev pub no_money : Account
no_money = record { brought = 0; taken = 0; standing = [] }

abbrev pub booked : Moved → Account → Account
booked m a = record { brought = a.brought + m.brought; taken = a.taken + m.taken; standing = m ∷ a.standing }

-- Undo takes out what its change brought, and brings back what it took.
abbrev pub unbooked : ℕ → ℕ → List Moved → Account
unbooked b t [] = record { brought = b; taken = t; standing = [] }
unbooked b t (m ∷ ms) = record { brought = b + m.taken; taken = t + m.brought; standing = ms }

abbrev pub posted : List (List Field) → List ℕ → Act → List ℕ → Account → Account
posted ls currency (imports d) f a = booked (moved_by ls currency (imports d) f) a
posted ls currency (adds l) f a = booked (moved_by ls currency (adds l) f) a
posted ls currency (replaces n l) f a = booked (moved_by ls currency (replaces n l) f) a
posted ls currency (strikes n) f a = booked (moved_by ls currency (strikes n) f) a
posted ls currency undoes f a = unbooked a.brought a.taken a.standing

-- beside the history of files, since a line that goes out is a line of the last file
abbrev pub account_from : List (List Field) → List ℕ → List (List ℕ) → Account → List Event → Account
account_from ls currency fs a [] = a
account_from ls currency fs a (e ∷ es) =
    account_from ls currency (cond e.accepted (entered e.act fs) fs) (cond e.accepted (posted ls currency e.act (last_file fs) a) a) es

abbrev pub account : List (List Field) → List ℕ → List Event → Account
account ls currency es = account_from ls currency ([] ∷ []) no_money es
