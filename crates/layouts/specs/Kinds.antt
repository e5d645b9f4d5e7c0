-- The kinds of fields, one line a kind: how a field stands in a line. Judging, values and writing
-- all go by this table.
use Rattle.std.specs.Prelude.{ℕ, ◌+◌, ◌*◌, Bool, true, not, ◌||◌, List, ◌∷◌, length, replicate, ◌==◌}
use Rattle.basics.specs.declared.bytes.ByteClass.TheVariants as class
use Rattle.basics.specs.Bytes.{between, allowed, all, anywhere, these}
use Rattle.basics.specs.Decimals.{number_of, digits}
use Rattle.basics.specs.Days.{is_day}
use Rattle.basics.specs.Money.{is_amount}
use Rattle.layouts.specs.declared.field.Field.{Field}
use Rattle.layouts.specs.declared.field.Field.TheVariants.{Record, Range, Number, Zeros, Text, FilledText, Blanks, Day, DayOrZero, Amount, Currency, OneOf, Lines, AllOrNoLines}

-- a part of a line: these very bytes; so many digits, whose number passes a test or else gives a
-- refusal's number; so many bytes of a class, which pass a test or else give a refusal's number;
-- one byte of a class
pub data Part : Type 0 where
  constant : List ℕ → Part
  figures : ℕ → (ℕ → Bool) → ℕ → Part
  letters : ℕ → (ℕ → Bool) → (List ℕ → Bool) → ℕ → Part
  code : (ℕ → Bool) → Part

-- a field is one part, or a block: a count of two digits, at most this high, that passes a test,
-- and so many lines that each pass a test
pub data Shape : Type 0 where
  one : Part → Shape
  block : ℕ → (ℕ → Bool) → (List ℕ → Bool) → Shape

abbrev pub any_number : ℕ → Bool
any_number n = true

abbrev pub any_text : List ℕ → Bool
any_text s = true

-- not all blank
abbrev pub filled : List ℕ → Bool
filled s = not (all (allowed class.Blank) s)

abbrev pub is_day_or_zero : ℕ → Bool
is_day_or_zero n = n == 0 || is_day n

abbrev pub none_or : ℕ → ℕ → Bool
none_or m n = n == 0 || n == m

-- UBT and five digits
abbrev pub record_name : ℕ → List ℕ
record_name d = 85 ∷ 66 ∷ 84 ∷ digits 5 d

-- the table of kinds
abbrev pub shape : Field → Shape
shape (Record d) = one (constant (record_name d))
shape (Range low high) = one (figures 2 (between low high) 15)
shape (Number w) = one (figures w any_number 15)
shape (Zeros w) = one (constant (replicate w 48))
shape (Text w) = one (letters w (allowed class.Text) any_text 14)
shape (FilledText w) = one (letters w (allowed class.Text) filled 14)
shape (Blanks w) = one (constant (replicate w 32))
shape Day = one (figures 8 is_day 16)
shape DayOrZero = one (figures 8 is_day_or_zero 16)
shape Amount = one (figures 15 is_amount 17)
shape Currency = one (letters 3 (allowed class.Capital) any_text 14)
shape (OneOf a b c d) = one (code (allowed (class.OneOf a b c d)))
shape (Lines low high) = block high (between low high) any_text
shape (AllOrNoLines n) = block n (none_or n) filled

-- the parts of a block: its count, and each of its lines
abbrev pub count : (ℕ → Bool) → Part
count ok = figures 2 ok 15

abbrev pub line : (List ℕ → Bool) → Part
line ok = letters 35 (allowed class.Text) ok 14

-- how many bytes a part has
abbrev pub width : Part → ℕ
width (constant bs) = length bs
width (figures w ok n) = w
width (letters w c ok n) = w
width (code c) = 1

-- whether byte b may stand at index k of a part
abbrev pub allows : Part → ℕ → ℕ → Bool
allows (constant bs) = these bs
allows (figures w ok n) = anywhere (allowed class.Digit)
allows (letters w c ok n) = anywhere c
allows (code c) = anywhere c

-- whether the value of a part may stand, and the refusal's number if not
abbrev pub passes : Part → List ℕ → Bool
passes (constant bs) s = true
passes (figures w ok n) s = ok (number_of s)
passes (letters w c ok n) s = ok s
passes (code c) s = true

abbrev pub refused_by : Part → ℕ
refused_by (constant bs) = 13
refused_by (figures w ok n) = n
refused_by (letters w c ok n) = n
refused_by (code c) = 13

-- the most bytes that a field has: a block has its highest count
abbrev pub most : Shape → ℕ
most (one p) = width p
most (block high ok fit) = 2 + 35 * high
