-- What a layout set means: a list of layouts, each a list of fields; and which of them are lawful.
-- Places count from 1.
use Rattle.std.specs.Prelude.{ℕ, zero, suc, ◌+◌, Bool, true, false, cond, not, ◌&&◌, List, [], ◌∷◌, length, Some, None, Option, ◌==◌, nat_le, nat_lt}
use Rattle.basics.specs.declared.bytes.ByteClass.TheVariants as class
use Rattle.basics.specs.Bytes.{between, allowed}
use Rattle.layouts.specs.declared.field.Field.{Field}
use Rattle.layouts.specs.declared.field.Field.TheVariants.{Record, Range, Number, Zeros, Text, FilledText, Blanks, Day, DayOrZero, Amount, Currency, OneOf, Lines, AllOrNoLines}
use Rattle.layouts.specs.Kinds.{shape, most}

-- what stands at place i of a list
abbrev pub place : {A : Type 0} → List A → ℕ → Option A
place [] i = None
place (x ∷ xs) zero = None
place (x ∷ xs) (suc zero) = Some x
place (x ∷ xs) (suc (suc i)) = place xs (suc i)

abbrev pub or_empty : Option (List Field) → List Field
or_empty None = []
or_empty (Some l) = l

-- layout j of a set, or the layout of no fields
abbrev pub layout_at : List (List Field) → ℕ → List Field
layout_at ls j = or_empty (place ls j)

abbrev pub field_at : List (List Field) → ℕ → ℕ → Option Field
field_at ls j i = place (layout_at ls j) i

-- the letter of a field's kind
abbrev pub letter : Field → ℕ
letter (Record d) = 85
letter (Range low high) = 82
letter (Number w) = 78
letter (Zeros w) = 90
letter (Text w) = 84
letter (FilledText w) = 81
letter (Blanks w) = 66
letter Day = 68
letter DayOrZero = 89
letter Amount = 80
letter Currency = 86
letter (OneOf a b c d) = 69
letter (Lines low high) = 76
letter (AllOrNoLines n) = 87

-- the figures of a field are those that its kind allows
abbrev pub figured : Field → Bool
figured (Record d) = nat_lt d 100000
figured (Range low high) = nat_le low high && nat_lt high 100
figured (Number w) = between 1 19 w
figured (Zeros w) = between 1 99 w
figured (Text w) = between 1 999 w
figured (FilledText w) = between 1 999 w
figured (Blanks w) = between 1 999 w
figured Day = true
figured DayOrZero = true
figured Amount = true
figured Currency = true
figured (OneOf a b c d) = allowed class.Text a && (allowed class.Text b && (allowed class.Text c && allowed class.Text d))
figured (Lines low high) = nat_le low high && nat_le high 60
figured (AllOrNoLines n) = between 1 60 n

-- how many fields are of a kind
abbrev pub times : ℕ → List Field → ℕ
times k [] = 0
times k (f ∷ fs) = cond (letter f == k) 1 0 + times k fs

-- the bytes of a line with every block at its highest count
abbrev pub full_width : List Field → ℕ
full_width [] = 0
full_width (f ∷ fs) = most (shape f) + full_width fs

-- fields behind the first: none is U, and their figures are allowed
abbrev pub later : List Field → Bool
later [] = true
later (f ∷ fs) = not (letter f == 85) && figured f && later fs

-- U first and nowhere else, one P and one V, at most 64 fields and at most 2,400 bytes
abbrev pub lawful_layout : List Field → Bool
lawful_layout [] = false
lawful_layout (f ∷ fs) =
    (letter f == 85) && figured f && later fs && times 80 fs == 1 && times 86 fs == 1 && nat_le (length (f ∷ fs)) 64 && nat_le (full_width (f ∷ fs)) 2400

-- the number that a layout's U field has
abbrev pub record_of : Field → Option ℕ
record_of (Record d) = Some d
record_of (Range low high) = None
record_of (Number w) = None
record_of (Zeros w) = None
record_of (Text w) = None
record_of (FilledText w) = None
record_of (Blanks w) = None
record_of Day = None
record_of DayOrZero = None
record_of Amount = None
record_of Currency = None
record_of (OneOf a b c d) = None
record_of (Lines low high) = None
record_of (AllOrNoLines n) = None

abbrev pub digits_of : List Field → Option ℕ
digits_of [] = None
digits_of (f ∷ fs) = record_of f

abbrev pub same_number : Option ℕ → Option ℕ → Bool
same_number None o = false
same_number (Some a) None = false
same_number (Some a) (Some b) = a == b

-- no layout has these digits
abbrev pub none_named : Option ℕ → List (List Field) → Bool
none_named o [] = true
none_named o (l ∷ ls) = not (same_number o (digits_of l)) && none_named o ls

-- every layout is lawful, and no two have the same digits
abbrev pub lawful_layouts : List (List Field) → Bool
lawful_layouts [] = true
lawful_layouts (l ∷ ls) = lawful_layout l && none_named (digits_of l) ls && lawful_layouts ls

-- 1 to 8 lawful layouts with different digits
abbrev pub is_lawful : List (List Field) → Bool
is_lawful ls = nat_le 1 (length ls) && nat_le (length ls) 8 && lawful_layouts ls
