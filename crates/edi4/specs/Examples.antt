-- The small set of the worked examples: one layout, a record with an amount and a currency.
use Rattle.std.specs.Prelude.{List, [], ◌∷◌}
use Rattle.layouts.specs.declared.field.Field.{Field}
use Rattle.layouts.specs.declared.field.Field.TheVariants.{Record, Amount, Currency}

abbrev pub small_layout : List Field
small_layout = Record 99900 ∷ Amount ∷ Currency ∷ []

abbrev pub small : List (List Field)
small = small_layout ∷ []
