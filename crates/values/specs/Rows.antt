-- Rows that hold values, and the values that rows show.
use Rattle.std.specs.Prelude.{◌≡◌, ℕ, zero, suc, ◌+◌, ◌-◌, Bool, true, ◌&&◌, List, [], ◌∷◌, ◌++◌, length, take, drop, nat_le, slice_index, slice_set}
use Rattle.basics.specs.Decimals.{number_of}
use Rattle.basics.specs.Texts.{trim}
use Rattle.layouts.specs.declared.field.Field.{Field}
use Rattle.layouts.specs.Kinds.{Part, constant, figures, letters, code, Shape, one, block, shape}
use Rattle.values.specs.declared.row.ValueRow.{ValueRow}
use Rattle.values.specs.Values.{Value, is_number, is_text, cuts}

abbrev pub number_row : ℕ → ValueRow
number_row n = record { number = n; place = 0; length = 0 }

-- the row of a text of a line, with p bytes before it
abbrev pub text_row : ℕ → List ℕ → ValueRow
text_row p s = record { number = 0; place = p + 1; length = length (trim s) }

-- the rows of a part with p bytes of the line before it
abbrev pub part_rows : Part → ℕ → List ℕ → List ValueRow
part_rows (constant bs) p s = []
part_rows (figures w ok n) p s = number_row (number_of s) ∷ []
part_rows (letters w c ok n) p s = text_row p s ∷ []
part_rows (code c) p s = number_row (slice_index s 0) ∷ []

abbrev pub line_rows : ℕ → ℕ → List ℕ → List ValueRow
line_rows zero p s = []
line_rows (suc n) p s = text_row p (take 35 s) ∷ line_rows n (p + 35) (drop 35 s)

abbrev pub field_rows : Shape → ℕ → List ℕ → List ValueRow
field_rows (one q) p s = part_rows q p s
field_rows (block high counts ok) p s = number_row (number_of (take 2 s)) ∷ line_rows (number_of (take 2 s)) (p + 2) (drop 2 s)

abbrev pub rows_in : List Field → ℕ → List (List ℕ) → List ValueRow
rows_in [] p ss = []
rows_in (f ∷ fs) p [] = []
rows_in (f ∷ fs) p (s ∷ ss) = field_rows (shape f) p s ++ rows_in fs (p + length s) ss

-- the rows of a line that follows the layout
abbrev pub rows_of : List Field → List ℕ → List ValueRow
rows_of fs line = rows_in fs 0 (cuts fs line)

-- the text that a row points to, and whether it lies within the bytes
abbrev pub text_at : List ℕ → ValueRow → List ℕ
text_at bytes r = take r.length (drop (r.place - 1) bytes)

abbrev pub inside : List ℕ → ValueRow → Bool
inside bytes r = nat_le 1 r.place && nat_le (r.place + r.length) (length bytes + 1)

-- a row over bytes shows a value; what the value does not use is set aside
abbrev pub Shows : List ℕ → ValueRow → Value → Type 0
Shows bytes r (is_number n) = r.number ≡ n
Shows bytes r (is_text t) = (inside bytes r ≡ true) × (text_at bytes r ≡ t)

-- the first rows show the values one by one, and these rows are left
abbrev pub ShowsThen : List ℕ → List ValueRow → List Value → List ValueRow → Type 0
ShowsThen bytes rs [] rest = rs ≡ rest
ShowsThen bytes [] (v ∷ vs) rest = ⊥
ShowsThen bytes (r ∷ rs) (v ∷ vs) rest = Shows bytes r v × ShowsThen bytes rs vs rest

-- the rows show exactly these values
abbrev pub ShowsAll : List ℕ → List ValueRow → List Value → Type 0
ShowsAll bytes rs vs = ShowsThen bytes rs vs []

-- rows laid over others from a place on
abbrev pub laid : List ValueRow → ℕ → List ValueRow → List ValueRow
laid rows used [] = rows
laid rows used (r ∷ rs) = laid (slice_set rows used r) (used + 1) rs
