-- What each of the five calls is to leave of a draft's contents, or why it is refused, by the order of the refusals.
use Rattle.std.specs.Prelude.{ℕ, ◌+◌, ◌-◌, Bool, false, cond, ◌&&◌, List, [], ◌∷◌, ◌++◌, length, take, drop, Ok, Err, Result, ◌==◌, nat_le, slice_index_or}
use Rattle.basics.specs.declared.refusal.Refusal.{Refusal}
use Rattle.basics.specs.Refusals.{refusal}
use Rattle.layouts.specs.declared.field.Field.{Field}
use Rattle.lines.specs.Judging.{and_then, judged}
use Rattle.files.specs.Lines.{lines_of}
use Rattle.files.specs.Files.{file_judged}
use Rattle.changes.specs.declared.change_row.ChangeRow.{ChangeRow}
use Rattle.changes.specs.Edits.{ended, has_line, line_of, replaced, struck, inserted}
use Rattle.changes.specs.States.{State, Contents, within, contents}

-- a refusal of the drafts is of layer 4 and names no place
abbrev pub draft_refusal : ℕ → Refusal
draft_refusal n = refusal n 4 0 0 0

-- refusal n, if what is required does not hold
abbrev pub required : Bool → ℕ → Result (Unit {0}) Refusal
required holds n = cond holds (Ok tt) (Err (draft_refusal n))

-- 31 comes first in every call
unfoldable pub asked : (Contents → Result Contents Refusal) → State → Result Contents Refusal
asked call s = and_then (required (within s) 31) (λ _. call (contents s))

abbrev pub row : ℕ → ℕ → ℕ → ℕ → ChangeRow
row kind n before kept = record { kind = kind; line = n; before = before; kept = kept }

-- a change leaves a new file, one row more, and the old line behind the kept bytes
unfoldable pub changed : Contents → ℕ → ℕ → List ℕ → List ℕ → Contents
changed c kind n f old = record {
  file = f;
  rows = c.rows ++ row kind n (length c.file) (length old) ∷ [];
  kept = c.kept ++ old;
  fileRoom = c.fileRoom;
  rowRoom = c.rowRoom;
  keptRoom = c.keptRoom;
}

-- 34, 35: what the change would leave is longer than the memory for it
abbrev pub rooms : Contents → ℕ → ℕ → Result (Unit {0}) Refusal
rooms c long old =
    and_then (required (nat_le long c.fileRoom) 34) (λ _. required (nat_le (length c.rows + 1) c.rowRoom && nat_le (length c.kept + old) c.keptRoom) 35)

unfoldable pub change : Contents → ℕ → ℕ → List ℕ → List ℕ → Result Contents Refusal
change c kind n f old = and_then (rooms c (length f) (length old)) (λ _. Ok (changed c kind n f old))

-- 33: the file would have over 1,200 lines
abbrev pub few : List ℕ → Result (Unit {0}) Refusal
few f = required (nat_le (length (lines_of f)) 1200) 33

-- lines at the end are a change of kind 1
unfoldable pub appended : Contents → List ℕ → Result Contents Refusal
appended c more = and_then (few (c.file ++ more)) (λ _. change c 1 0 (c.file ++ more) [])

-- the number of lines of a delivery, or its first fault: 21 where it is empty, else that of a file
unfoldable pub delivered : List (List Field) → List ℕ → Result ℕ Refusal
delivered ls d = cond (length d == 0) (Err (refusal 21 3 0 0 0)) (file_judged ls d)

unfoldable pub importing : List (List Field) → List ℕ → Contents → Result Contents Refusal
importing ls d c = and_then (delivered ls d) (λ _. appended c d)

unfoldable pub adding : List (List Field) → List ℕ → Contents → Result Contents Refusal
adding ls l c = and_then (judged ls l) (λ _. appended c (ended l))

-- a line that is replaced is a change of kind 2, and one that is struck a change of kind 3: both keep the old line
unfoldable pub replacing : List (List Field) → ℕ → List ℕ → Contents → Result Contents Refusal
replacing ls n l c =
    and_then (required (has_line n c.file) 32) (λ _. and_then (judged ls l) (λ _. change c 2 n (replaced n l c.file) (line_of n c.file)))

unfoldable pub striking : ℕ → Contents → Result Contents Refusal
striking n c = and_then (required (has_line n c.file) 32) (λ _. change c 3 n (struck n c.file) (line_of n c.file))

-- the row of the latest change that stands
abbrev pub last_row : Contents → ChangeRow
last_row c = slice_index_or c.rows (length c.rows - 1) (row 0 0 0 0)

-- 37: a row fits a file by its kind
abbrev pub row_fits : ChangeRow → List ℕ → Bool
row_fits r f =
    cond (r.kind == 1) (nat_le r.before (length f)) (cond (r.kind == 2) (has_line r.line f) (cond (r.kind == 3) (nat_le 1 r.line && nat_le r.line (length (lines_of f) + 1)) false))

-- the file before the change of a row: without the bytes at the end, with the old line back in its place
abbrev pub file_before : ChangeRow → List ℕ → List ℕ → List ℕ
file_before r old f = cond (r.kind == 1) (take r.before f) (cond (r.kind == 2) (replaced r.line old f) (inserted r.line old f))

-- without the row and its kept bytes
abbrev pub undone : Contents → ChangeRow → Contents
undone c r = record {
  file = file_before r (drop (length c.kept - r.kept) c.kept) c.file;
  rows = take (length c.rows - 1) c.rows;
  kept = take (length c.kept - r.kept) c.kept;
  fileRoom = c.fileRoom;
  rowRoom = c.rowRoom;
  keptRoom = c.keptRoom;
}

unfoldable pub taking_back : Contents → ChangeRow → Result Contents Refusal
taking_back c r =
    and_then (required (row_fits r c.file && nat_le r.kept (length c.kept)) 37) (λ _. and_then (required (nat_le (length (undone c r).file) c.fileRoom) 34) (λ _. Ok (undone c r)))

unfoldable pub undoing : Contents → Result Contents Refusal
undoing c = and_then (required (nat_le 1 (length c.rows)) 36) (λ _. taking_back c (last_row c))
