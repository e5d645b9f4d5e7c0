use Rattle.std.proofs.Common.{◌≡◌, ◌^◌, ◌<◌, drop}
use Rattle.basics.specs.declared.bytes.ByteClass.TheVariants.{Digit}
use Rattle.basics.specs.Bytes.{allowed, all}
use Rattle.basics.specs.Decimals.{number_from, number_of}
use Rattle.basics.proofs.decimal.value.Given as goal

-- what is left, behind the digits so far, shows the whole number
abbrev pub invariant-loop-b : goal.invariant-loop-b
invariant-loop-b l =
    (number_from l.n (drop l.b-index l.part) ≡ number_of l.part)
    × (l.n < 10 ^ l.b-index)
    × (all (allowed Digit) (drop l.b-index l.part) ≡ all (allowed Digit) l.part)
