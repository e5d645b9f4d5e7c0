-- The record of a set that rows show.
use Rattle.std.specs.Prelude.{◌≡◌, ℕ, List, Some}
use Rattle.layouts.specs.declared.field.Field.{Field}
use Rattle.layouts.specs.Layouts.{place, digits_of}
use Rattle.lines.specs.Belongs.{Follows}
use Rattle.values.specs.declared.row.ValueRow.{ValueRow}
use Rattle.values.specs.Values.{Value, values_of}
use Rattle.values.specs.Rows.{ShowsAll}

-- the line is a record of the set with these digits and these values
pub record IsRecord (ls : List (List Field)) (n : ℕ) (vs : List Value) (line : List ℕ) : Type 0 where
  pub number : ℕ
  pub layout : List Field
  pub at : place ls number ≡ Some layout
  pub has : digits_of layout ≡ Some n
  pub follows : Follows layout line
  pub values : values_of layout line ≡ vs

-- the rows over the bytes show the values of this record
pub record ShowsRecord (ls : List (List Field)) (n : ℕ) (bytes : List ℕ) (rs : List ValueRow) (line : List ℕ) : Type 0 where
  pub values : List Value
  pub is : IsRecord ls n values line
  pub shown : ShowsAll bytes rs values

-- two lines are the same record: a record of the set with the same digits and the same values
pub record SameRecord (ls : List (List Field)) (s t : List ℕ) : Type 0 where
  pub digits : ℕ
  pub values : List Value
  pub one : IsRecord ls digits values s
  pub other : IsRecord ls digits values t
