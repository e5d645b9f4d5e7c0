-- Days of the Gregorian calendar, from year 1 to 9999, as numbers YYYYMMDD.
use Rattle.std.specs.Prelude.{ℕ, ◌/◌, ◌%◌, Bool, cond, not, ◌&&◌, ◌||◌, ◌==◌}
use Rattle.basics.specs.Bytes.{between}

abbrev pub leap : ℕ → Bool
leap y = (y % 4 == 0 && not (y % 100 == 0)) || y % 400 == 0

-- how many days a month has
abbrev pub days_in : ℕ → ℕ → ℕ
days_in y m = cond (m == 2) (cond (leap y) 29 28) (cond (m == 4 || (m == 6 || (m == 9 || m == 11))) 30 31)

abbrev pub is_date : ℕ → ℕ → ℕ → Bool
is_date y m d = between 1 9999 y && (between 1 12 m && between 1 (days_in y m) d)

abbrev pub is_day : ℕ → Bool
is_day n = is_date (n / 10000) (n / 100 % 100) (n % 100)
