-- The values of a record, field by field in the order of its layout.
use Rattle.std.specs.Prelude.{ℕ, zero, suc, ◌+◌, ◌*◌, List, [], ◌∷◌, ◌++◌, take, drop, slice_index}
use Rattle.basics.specs.Decimals.{number_of}
use Rattle.basics.specs.Texts.{trim}
use Rattle.layouts.specs.declared.field.Field.{Field}
use Rattle.layouts.specs.Kinds.{Part, constant, figures, letters, code, Shape, one, block, shape, width}

-- a value is a number or a text
pub data Value : Type 0 where
  is_number : ℕ → Value
  is_text : List ℕ → Value

-- digits give their number, letters their text without trailing blanks, a code its byte
abbrev pub part_values : Part → List ℕ → List Value
part_values (constant bs) s = []
part_values (figures w ok n) s = is_number (number_of s) ∷ []
part_values (letters w c ok n) s = is_text (trim s) ∷ []
part_values (code c) s = is_number (slice_index s 0) ∷ []

-- the texts of n lines
abbrev pub line_values : ℕ → List ℕ → List Value
line_values zero s = []
line_values (suc n) s = is_text (trim (take 35 s)) ∷ line_values n (drop 35 s)

-- a block gives its count, and then the text of each line
abbrev pub field_values : Shape → List ℕ → List Value
field_values (one q) s = part_values q s
field_values (block high counts ok) s = is_number (number_of (take 2 s)) ∷ line_values (number_of (take 2 s)) (drop 2 s)

-- how many bytes a field takes of what begins with it
abbrev pub extent : Shape → List ℕ → ℕ
extent (one q) s = width q
extent (block high counts ok) s = 2 + 35 * number_of (take 2 s)

-- a line cut into parts, one for each field
abbrev pub cuts : List Field → List ℕ → List (List ℕ)
cuts [] s = []
cuts (f ∷ fs) s = take (extent (shape f) s) s ∷ cuts fs (drop (extent (shape f) s) s)

abbrev pub values_in : List Field → List (List ℕ) → List Value
values_in [] ss = []
values_in (f ∷ fs) [] = []
values_in (f ∷ fs) (s ∷ ss) = field_values (shape f) s ++ values_in fs ss

-- the values of a line that follows the layout
abbrev pub values_of : List Field → List ℕ → List Value
values_of fs line = values_in fs (cuts fs line)
