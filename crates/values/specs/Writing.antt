-- Rows written as a line, computed: row by row, field by field, in the order of the refusals.
use Rattle.std.specs.Prelude.{ℕ, zero, suc, ◌+◌, ◌-◌, ◌^◌, Bool, true, cond, ◌&&◌, List, [], ◌∷◌, ◌++◌, length, replicate, Some, None, Ok, Err, Option, Result, ◌==◌, nat_le, nat_lt}
use Rattle.basics.specs.declared.refusal.Refusal.{Refusal}
use Rattle.basics.specs.Refusals.{refusal}
use Rattle.basics.specs.Bytes.{all}
use Rattle.basics.specs.Decimals.{digits}
use Rattle.basics.specs.Texts.{trim}
use Rattle.layouts.specs.declared.field.Field.{Field}
use Rattle.layouts.specs.Kinds.{Part, constant, figures, letters, code, Shape, one, block, shape, count, line}
use Rattle.layouts.specs.Layouts.{layout_at}
use Rattle.lines.specs.Judging.{found}
use Rattle.values.specs.declared.row.ValueRow.{ValueRow}
use Rattle.values.specs.Rows.{text_at, inside}

-- a text filled up to w bytes with blanks
abbrev pub padded : ℕ → List ℕ → List ℕ
padded w t = t ++ replicate (w - length t) 32

-- a text for w bytes: not longer, no blank behind it, and filled up, its bytes and it pass
abbrev pub fitting : ℕ → (ℕ → Bool) → (List ℕ → Bool) → List ℕ → Bool
fitting w c ok t = nat_le (length t) w && (length (trim t) == length t && (all c (padded w t) && ok (padded w t)))

-- whether a row can be written as a part, and the bytes that it is written as
abbrev pub suits : Part → List ℕ → ValueRow → Bool
suits (constant bs) bytes r = true
suits (figures w ok n) bytes r = nat_lt r.number (10 ^ w) && ok r.number
suits (letters w c ok n) bytes r = inside bytes r && fitting w c ok (text_at bytes r)
suits (code c) bytes r = c r.number

abbrev pub written : Part → List ℕ → ValueRow → List ℕ
written (constant bs) bytes r = bs
written (figures w ok n) bytes r = digits w r.number
written (letters w c ok n) bytes r = padded w (text_at bytes r)
written (code c) bytes r = r.number ∷ []

-- what a step of writing gives: bytes and the rows that are left, or why it is refused
pub data Step (E : Type 0) : Type 0 where
  done : List ℕ → List ValueRow → Step E
  refused : E → Step E

-- one step behind another
abbrev pub before : {E : Type 0} → List ℕ → Step E → Step E
before a (done b rest) = done (a ++ b) rest
before a (refused e) = refused e

abbrev pub chain : {E : Type 0} → Step E → (List ValueRow → Step E) → Step E
chain (done a rest) k = before a (k rest)
chain (refused e) k = refused e

-- one row as a part: 42 if there is none, 43 if it does not suit
abbrev pub row_step : Part → List ℕ → List ValueRow → Step ℕ
row_step q bytes [] = refused 42
row_step q bytes (r ∷ rs) = cond (suits q bytes r) (done (written q bytes r) rs) (refused 43)

-- a constant part takes no row
abbrev pub part_step : Part → List ℕ → List ValueRow → Step ℕ
part_step (constant bs) bytes rs = done bs rs
part_step (figures w ok n) bytes rs = row_step (figures w ok n) bytes rs
part_step (letters w c ok n) bytes rs = row_step (letters w c ok n) bytes rs
part_step (code c) bytes rs = row_step (code c) bytes rs

abbrev pub line_steps : (List ℕ → Bool) → ℕ → List ℕ → List ValueRow → Step ℕ
line_steps ok zero bytes rs = done [] rs
line_steps ok (suc n) bytes rs = chain (row_step (line ok) bytes rs) (line_steps ok n bytes)

abbrev pub first_number : List ValueRow → ℕ
first_number [] = 0
first_number (r ∷ rs) = r.number

-- a block takes the row of its count, and then a row a line
abbrev pub field_step : Shape → List ℕ → List ValueRow → Step ℕ
field_step (one q) bytes rs = part_step q bytes rs
field_step (block high counts ok) bytes rs = chain (row_step (count counts) bytes rs) (line_steps ok (first_number rs) bytes)

-- a refusal of field i
abbrev pub placed : ℕ → Step ℕ → Step Refusal
placed i (done s rest) = done s rest
placed i (refused n) = refused (refusal n 2 0 i 0)

-- the fields from field i on
abbrev pub field_steps : ℕ → List Field → List ℕ → List ValueRow → Step Refusal
field_steps i [] bytes rs = done [] rs
field_steps i (f ∷ fs) bytes rs = chain (placed i (field_step (shape f) bytes rs)) (field_steps (i + 1) fs bytes)

-- then 44 if rows are left
abbrev pub finished : Step Refusal → Result (List ℕ) Refusal
finished (done s []) = Ok s
finished (done s (r ∷ rs)) = Err (refusal 44 2 0 0 0)
finished (refused e) = Err e

abbrev pub line_of : List Field → List ℕ → List ValueRow → Result (List ℕ) Refusal
line_of fs bytes rs = finished (field_steps 1 fs bytes rs)

-- the line of the layout that has these digits: 41 if none has
abbrev pub line_by : List (List Field) → Option ℕ → List ℕ → List ValueRow → Result (List ℕ) Refusal
line_by ls None bytes rs = Err (refusal 41 2 0 0 0)
line_by ls (Some j) bytes rs = line_of (layout_at ls j) bytes rs

abbrev pub line_for : List (List Field) → ℕ → List ℕ → List ValueRow → Result (List ℕ) Refusal
line_for ls n bytes rs = line_by ls (found ls 1 n) bytes rs
