-- The difference of two files in a currency.
use Rattle.std.specs.Prelude.{ℕ, cond, List, ℤ, pos, ◌-ℤ◌, Ok, Err, Result, ◌==◌}
use Rattle.basics.specs.declared.refusal.Refusal.{Refusal}
use Rattle.basics.specs.Refusals.{refusal}
use Rattle.basics.specs.Money.{is_currency}
use Rattle.layouts.specs.declared.field.Field.{Field}
use Rattle.files.specs.declared.difference.FileFault.{FileFault}
use Rattle.files.specs.declared.difference.WhichFile.{WhichFile}
use Rattle.files.specs.declared.difference.WhichFile.TheVariants.{Neither, First, Second}
use Rattle.files.specs.Totals.{summed}

-- the file of a number: 1 the first, 2 the second, 0 neither
abbrev pub file : ℕ → WhichFile
file n = cond (n == 0) Neither (cond (n == 1) First Second)

abbrev pub fault_in : ℕ → Refusal → FileFault
fault_in n e = record { refusal = e; file = file n }

-- the first total less the second: the first file's fault, else the second's
abbrev pub less : Result ℕ Refusal → Result ℕ Refusal → Result ℤ FileFault
less (Err e) r = Err (fault_in 1 e)
less (Ok a) (Err e) = Err (fault_in 2 e)
less (Ok a) (Ok b) = Ok (pos a -ℤ pos b)

-- 39 names no file
abbrev pub difference_of : List (List Field) → List ℕ → List ℕ → List ℕ → Result ℤ FileFault
difference_of ls first second currency =
    cond (is_currency currency) (less (summed ls first currency) (summed ls second currency)) (Err (fault_in 0 (refusal 39 3 0 0 0)))
