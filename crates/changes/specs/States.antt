-- A draft with the memory that is lent to it, and what is used of that memory.
use Rattle.std.specs.Prelude.{◌≡◌, ℕ, Bool, true, ◌&&◌, List, length, take, Ok, Err, Result, nat_le}
use Rattle.basics.specs.declared.refusal.Refusal.{Refusal}
use Rattle.changes.specs.declared.change_row.ChangeRow.{ChangeRow}

-- the three counts of a draft, and the three memories as they are lent: file bytes, change rows, kept bytes
pub record State : Type 0 where
  pub fileUsed : ℕ
  pub rowsUsed : ℕ
  pub keptUsed : ℕ
  pub file : List ℕ
  pub rows : List ChangeRow
  pub kept : List ℕ

-- no memory is shorter than its count
abbrev pub within : State → Bool
within s = nat_le s.fileUsed (length s.file) && (nat_le s.rowsUsed (length s.rows) && nat_le s.keptUsed (length s.kept))

-- what is used of each memory, and how long each memory is
pub record Contents : Type 0 where
  pub file : List ℕ
  pub rows : List ChangeRow
  pub kept : List ℕ
  pub fileRoom : ℕ
  pub rowRoom : ℕ
  pub keptRoom : ℕ

abbrev pub used_file : State → List ℕ
used_file s = take s.fileUsed s.file

abbrev pub contents : State → Contents
contents s = record {
  file = used_file s;
  rows = take s.rowsUsed s.rows;
  kept = take s.keptUsed s.kept;
  fileRoom = length s.file;
  rowRoom = length s.rows;
  keptRoom = length s.kept;
}

-- What a call promises that is to leave these contents, or to be refused. The state before it is s, the state
-- after it t. A refusal alters nothing at all. An accepted call leaves exactly these contents, with no memory
-- shorter than its count.
abbrev pub Promise : Result Contents Refusal → State → State → Result (Unit {0}) Refusal → Type 0
Promise (Err e) s t answer = (answer ≡ Err e) × (t ≡ s)
Promise (Ok c) s t answer = (answer ≡ Ok tt) × (contents t ≡ c) × (within t ≡ true)
