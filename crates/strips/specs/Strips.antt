-- Layouts written in strips: for each field the letter of its kind and the kind's body, in which
-- figures are digits.
use Rattle.std.specs.Prelude.{ℕ, cond, List, [], ◌∷◌, ◌++◌, take, drop, Some, None, Option, ◌==◌, nat_le, slice_index}
use Rattle.std.specs.List.{flat_map}
use Rattle.std.specs.Option.{option_map}
use Rattle.basics.specs.declared.bytes.ByteClass.TheVariants as class
use Rattle.basics.specs.Bytes.{between, allowed, all}
use Rattle.basics.specs.Decimals.{value_of, digits}
use Rattle.layouts.specs.declared.field.Field.{Field}
use Rattle.layouts.specs.declared.field.Field.TheVariants as field
use Rattle.layouts.specs.Layouts.{letter}
use Rattle.strips.specs.declared.kind.Kind.{Kind}
use Rattle.strips.specs.declared.kind.Kind.TheVariants.{Record, Range, Number, Zeros, Text, FilledText, Blanks, Day, DayOrZero, Amount, Currency, OneOf, Lines, AllOrNoLines}

-- the kind that a letter names
abbrev pub kind_of : ℕ → Option Kind
kind_of k =
    cond (k == 85) (Some Record) (
    cond (k == 82) (Some Range) (
    cond (k == 78) (Some Number) (
    cond (k == 90) (Some Zeros) (
    cond (k == 84) (Some Text) (
    cond (k == 81) (Some FilledText) (
    cond (k == 66) (Some Blanks) (
    cond (k == 68) (Some Day) (
    cond (k == 89) (Some DayOrZero) (
    cond (k == 80) (Some Amount) (
    cond (k == 86) (Some Currency) (
    cond (k == 69) (Some OneOf) (
    cond (k == 76) (Some Lines) (
    cond (k == 87) (Some AllOrNoLines) None)))))))))))))

-- how many bytes the body of a kind has
abbrev pub body_width : Kind → ℕ
body_width Record = 5
body_width Range = 4
body_width Number = 2
body_width Zeros = 2
body_width Text = 3
body_width FilledText = 3
body_width Blanks = 3
body_width Day = 0
body_width DayOrZero = 0
body_width Amount = 0
body_width Currency = 0
body_width OneOf = 4
body_width Lines = 4
body_width AllOrNoLines = 2

-- the number that digits show, if it lies in these bounds
abbrev pub within : ℕ → ℕ → Option ℕ → Option ℕ
within low high None = None
within low high (Some n) = cond (between low high n) (Some n) None

abbrev pub number_in : ℕ → ℕ → List ℕ → Option ℕ
number_in low high s = within low high (value_of s)

-- two numbers, the first not above the second
abbrev pub in_order : Option ℕ → Option ℕ → Option (ℕ × ℕ)
in_order None o = None
in_order (Some a) None = None
in_order (Some a) (Some b) = cond (nat_le a b) (Some (a, b)) None

-- two numbers of two digits, neither above a bound
abbrev pub pair_in : ℕ → List ℕ → Option (ℕ × ℕ)
pair_in high s = in_order (number_in 0 high (take 2 s)) (number_in 0 high (take 2 (drop 2 s)))

-- four text bytes
abbrev pub codes_in : List ℕ → Option Field
codes_in s = cond (all (allowed class.Text) s) (Some (field.OneOf (slice_index s 0) (slice_index s 1) (slice_index s 2) (slice_index s 3))) None

-- the field that a kind and its body write, if the body keeps to the kind's rule
abbrev pub field_in : Kind → List ℕ → Option Field
field_in Record s = option_map field.Record (number_in 0 99999 s)
field_in Range s = option_map (λ p. field.Range p.0 p.1) (pair_in 99 s)
field_in Number s = option_map field.Number (number_in 1 19 s)
field_in Zeros s = option_map field.Zeros (number_in 1 99 s)
field_in Text s = option_map field.Text (number_in 1 999 s)
field_in FilledText s = option_map field.FilledText (number_in 1 999 s)
field_in Blanks s = option_map field.Blanks (number_in 1 999 s)
field_in Day s = Some field.Day
field_in DayOrZero s = Some field.DayOrZero
field_in Amount s = Some field.Amount
field_in Currency s = Some field.Currency
field_in OneOf s = codes_in s
field_in Lines s = option_map (λ p. field.Lines p.0 p.1) (pair_in 60 s)
field_in AllOrNoLines s = option_map field.AllOrNoLines (number_in 1 60 s)

-- the body that writes a field
abbrev pub body : Field → List ℕ
body (field.Record d) = digits 5 d
body (field.Range low high) = digits 2 low ++ digits 2 high
body (field.Number w) = digits 2 w
body (field.Zeros w) = digits 2 w
body (field.Text w) = digits 3 w
body (field.FilledText w) = digits 3 w
body (field.Blanks w) = digits 3 w
body field.Day = []
body field.DayOrZero = []
body field.Amount = []
body field.Currency = []
body (field.OneOf a b c d) = a ∷ b ∷ c ∷ d ∷ []
body (field.Lines low high) = digits 2 low ++ digits 2 high
body (field.AllOrNoLines n) = digits 2 n

abbrev pub strip_of : Field → List ℕ
strip_of f = letter f ∷ body f

-- the strips of layouts, end to end
abbrev pub strips_of : List (List Field) → List ℕ
strips_of ls = flat_map (flat_map strip_of) ls
