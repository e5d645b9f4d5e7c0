-- Amounts and currencies.
use Rattle.std.specs.Prelude.{ℕ, ◌/◌, ◌%◌, Bool, ◌&&◌, List, ◌++◌, length, ◌==◌, codes}
use Rattle.std.specs.Fmt.{decimal}
use Rattle.basics.specs.declared.bytes.ByteClass.TheVariants.{Capital}
use Rattle.basics.specs.Bytes.{between, allowed, all}

-- hundredths that can be paid
abbrev pub is_amount : ℕ → Bool
is_amount n = between 1 999999999999999 n

-- three capital letters
abbrev pub is_currency : List ℕ → Bool
is_currency s = length s == 3 && all (allowed Capital) s

-- hundredths, printed as wholes and two digits behind a point
abbrev pub with_point : ℕ → List ℕ
with_point n = decimal (n / 100) ++ (codes "." ++ (decimal (n / 10 % 10) ++ decimal (n % 10)))
