-- Numbers in decimal digits.
use Rattle.std.specs.Prelude.{ℕ, zero, suc, ◌+◌, ◌-◌, ◌*◌, ◌/◌, ◌%◌, cond, ◌&&◌, List, [], ◌∷◌, ◌++◌, length, Some, None, Option, nat_le}
use Rattle.basics.specs.declared.bytes.ByteClass.TheVariants.{Digit}
use Rattle.basics.specs.Bytes.{allowed, all}

-- the number n with the digits bs behind it
abbrev pub number_from : ℕ → List ℕ → ℕ
number_from n [] = n
number_from n (b ∷ bs) = number_from (n * 10 + (b - 48)) bs

-- the number that digits show
abbrev pub number_of : List ℕ → ℕ
number_of bs = number_from 0 bs

abbrev pub value_of : List ℕ → Option ℕ
value_of bs = cond (nat_le (length bs) 19 && all (allowed Digit) bs) (Some (number_of bs)) None

-- the last w digits of n
abbrev pub digits : ℕ → ℕ → List ℕ
digits zero n = []
digits (suc w) n = digits w (n / 10) ++ ((48 + n % 10) ∷ [])
