-- The built-in set: a payment, an advice with its texts, an advice without texts, a foreign cheque.
use Rattle.std.specs.Prelude.{List, [], ◌∷◌}
use Rattle.layouts.specs.declared.field.Field.{Field}
use Rattle.layouts.specs.declared.field.Field.TheVariants.{Record, Range, Number, Zeros, Text, FilledText, Blanks, Day, DayOrZero, Amount, Currency, OneOf, Lines, AllOrNoLines}

abbrev pub payment : List Field
payment = Record 4500 ∷ Range 0 0 ∷ FilledText 35 ∷ Amount ∷ Currency ∷ OneOf 78 78 78 78 ∷ Day ∷ Text 20 ∷ FilledText 35 ∷ OneOf 78 78 78 78 ∷ Number 3 ∷ Text 20 ∷ Text 35 ∷ Text 35 ∷ Number 3 ∷ Lines 0 4 ∷ Lines 0 41 ∷ AllOrNoLines 3 ∷ Blanks 153 ∷ OneOf 32 78 32 78 ∷ Blanks 2 ∷ Text 35 ∷ []

abbrev pub advice : List Field
advice = Record 4601 ∷ Range 1 2 ∷ FilledText 35 ∷ Amount ∷ Currency ∷ OneOf 74 78 74 78 ∷ Day ∷ Text 20 ∷ Number 10 ∷ Number 2 ∷ Number 19 ∷ Number 3 ∷ Lines 0 4 ∷ Lines 0 41 ∷ Lines 0 3 ∷ Blanks 145 ∷ Zeros 6 ∷ Blanks 2 ∷ Text 16 ∷ Number 16 ∷ Number 12 ∷ Day ∷ Text 25 ∷ Text 3 ∷ Text 3 ∷ []

abbrev pub short_advice : List Field
short_advice = Record 4602 ∷ Range 1 3 ∷ FilledText 35 ∷ Amount ∷ Currency ∷ OneOf 74 78 74 78 ∷ Day ∷ Text 20 ∷ Number 10 ∷ Number 2 ∷ Number 19 ∷ Number 3 ∷ Text 16 ∷ Number 16 ∷ Number 12 ∷ Day ∷ Text 25 ∷ Text 3 ∷ Text 3 ∷ DayOrZero ∷ Text 25 ∷ []

abbrev pub cheque : List Field
cheque = Record 5401 ∷ Range 1 2 ∷ FilledText 35 ∷ Amount ∷ Currency ∷ OneOf 74 78 74 78 ∷ Day ∷ Text 20 ∷ Text 11 ∷ Number 12 ∷ OneOf 77 78 77 78 ∷ Blanks 1 ∷ FilledText 2 ∷ OneOf 67 68 67 68 ∷ Blanks 145 ∷ Zeros 6 ∷ Blanks 2 ∷ Lines 3 4 ∷ Lines 0 4 ∷ Lines 0 3 ∷ Text 40 ∷ Range 0 2 ∷ Number 12 ∷ Number 15 ∷ Text 16 ∷ Number 16 ∷ Number 12 ∷ Day ∷ Text 25 ∷ Text 3 ∷ Text 3 ∷ []

abbrev pub built_in : List (List Field)
built_in = payment ∷ advice ∷ short_advice ∷ cheque ∷ []
