-- What taking a change back from the file bytes answers: f is what is used of the memory.
use Rattle.std.specs.Prelude.{◌≡◌, ℕ, ◌<◌, ◌≤◌, true, cond, List, length, take}
use Rattle.basics.specs.declared.refusal.Refusal.{Refusal}
use Rattle.changes.specs.declared.change_row.ChangeRow.{ChangeRow}
use Rattle.changes.specs.Calls.{draft_refusal, row_fits, file_before}

-- the row fits, there is room, and so many bytes of the memory are the file before the change
pub record TakenBack (r : ChangeRow) (old f memory after : List ℕ) (end : ℕ) : Type 0 where
  pub fits : row_fits r f ≡ true
  pub room : length (file_before r old f) ≤ length memory
  pub holds : take end after ≡ file_before r old f
  pub within : end ≤ length memory

-- 37 if the row does not fit, else 34, since there is no room: nothing is altered
pub record Stuck (r : ChangeRow) (old f memory after : List ℕ) (e : Refusal) : Type 0 where
  pub why : e ≡ cond (row_fits r f) (draft_refusal 34) (draft_refusal 37)
  pub room : row_fits r f ≡ true → length memory < length (file_before r old f)
  pub same : after ≡ memory
