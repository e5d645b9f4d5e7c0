-- The amount and the currency of a record: a layout has one field of each.
use Rattle.std.specs.Prelude.{◌≡◌, ℕ, cond, List, [], ◌∷◌, ◌++◌, Ok, ◌==◌}
use Rattle.basics.specs.Decimals.{number_of}
use Rattle.layouts.specs.declared.field.Field.{Field}
use Rattle.layouts.specs.Layouts.{letter, layout_at}
use Rattle.lines.specs.Judging.{judged}
use Rattle.values.specs.Values.{Value, is_number, is_text, cuts, values_of}

-- the part of the first field of a kind
abbrev pub part_of : ℕ → List Field → List (List ℕ) → List ℕ
part_of k [] ss = []
part_of k (f ∷ fs) [] = []
part_of k (f ∷ fs) (s ∷ ss) = cond (letter f == k) s (part_of k fs ss)

-- the number in the P field of a line, and the bytes in its V field
abbrev pub amount_of : List Field → List ℕ → ℕ
amount_of fs line = number_of (part_of 80 fs (cuts fs line))

abbrev pub currency_of : List Field → List ℕ → List ℕ
currency_of fs line = part_of 86 fs (cuts fs line)

-- one of the values
pub record Among (v : Value) (vs : List Value) : Type 0 where
  pub before : List Value
  pub after : List Value
  pub whole : vs ≡ before ++ v ∷ after

-- a line of layout j with this amount and this currency, which are values of the line
pub record HasMoney (ls : List (List Field)) (line : List ℕ) (amount : ℕ) (currency : List ℕ) : Type 0 where
  pub number : ℕ
  pub accepted : judged ls line ≡ Ok number
  pub amount-is : amount ≡ amount_of (layout_at ls number) line
  pub currency-is : currency ≡ currency_of (layout_at ls number) line
  pub amount-read : Among (is_number amount) (values_of (layout_at ls number) line)
  pub currency-read : Among (is_text currency) (values_of (layout_at ls number) line)
