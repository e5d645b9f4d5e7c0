-- What reading a line answers, and what it leaves in the rows.
use Rattle.std.specs.Prelude.{ℕ, ◌≤◌, cond, List, ◌++◌, length, drop, Some, None, Ok, Err, Option, Result, nat_lt}
use Rattle.basics.specs.declared.refusal.Refusal.{Refusal}
use Rattle.basics.specs.Refusals.{refusal}
use Rattle.layouts.specs.declared.field.Field.{Field}
use Rattle.layouts.specs.Kinds.{constant, figures, letters, code, Shape, one, block}
use Rattle.layouts.specs.Layouts.{layout_at, digits_of}
use Rattle.lines.specs.Judging.{judged}
use Rattle.values.specs.declared.row.ValueRow.{ValueRow}
use Rattle.values.specs.Rows.{rows_of}
use Rattle.reading.specs.declared.read.Reading.{Reading}

abbrev pub or_zero : Option ℕ → ℕ
or_zero None = 0
or_zero (Some n) = n

abbrev pub reading_of : List Field → List ℕ → Reading
reading_of l line = record { digits = or_zero (digits_of l); rows = length (rows_of l line) }

-- a line that follows the layout: 24 if there is no room for its rows
abbrev pub read_as : List Field → List ℕ → ℕ → Result Reading Refusal
read_as l line room = cond (nat_lt room (length (rows_of l line))) (Err (refusal 24 2 0 0 0)) (Ok (reading_of l line))

-- a line that is judged: its fault comes first
abbrev pub read_by : List (List Field) → List ℕ → ℕ → Result ℕ Refusal → Result Reading Refusal
read_by ls line room (Ok j) = read_as (layout_at ls j) line room
read_by ls line room (Err e) = Err e

abbrev pub answer_to : List (List Field) → List ℕ → ℕ → Result Reading Refusal
answer_to ls line room = read_by ls line room (judged ls line)

-- new rows in front of what stood behind them, if there is room
abbrev pub in_front : List ValueRow → List ValueRow → List ValueRow
in_front new old = cond (nat_lt (length old) (length new)) old (new ++ drop (length new) old)

abbrev pub rows_by : List (List Field) → List ℕ → List ValueRow → Result ℕ Refusal → List ValueRow
rows_by ls line old (Ok j) = in_front (rows_of (layout_at ls j) line) old
rows_by ls line old (Err e) = old

abbrev pub rows_after : List (List Field) → List ℕ → List ValueRow → List ValueRow
rows_after ls line old = rows_by ls line old (judged ls line)

-- digits whose number is read are at most 19
abbrev pub Narrow : Shape → Type 0
Narrow (one (constant bs)) = Unit {0}
Narrow (one (figures w ok n)) = w ≤ 19
Narrow (one (letters w c ok n)) = Unit {0}
Narrow (one (code c)) = Unit {0}
Narrow (block high counts ok) = Unit {0}
