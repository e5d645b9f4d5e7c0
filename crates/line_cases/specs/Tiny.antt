-- The tiny set: an amount and a currency; the same and at most two lines.
use Rattle.std.specs.Prelude.{List, [], ◌∷◌}
use Rattle.layouts.specs.declared.field.Field.{Field}
use Rattle.layouts.specs.declared.field.Field.TheVariants.{Record, Amount, Currency, Lines}

abbrev pub tiny : List (List Field)
tiny = (Record 99900 ∷ Amount ∷ Currency ∷ []) ∷ (Record 99901 ∷ Amount ∷ Currency ∷ Lines 0 2 ∷ []) ∷ []
