use Rattle.std.proofs.Common.{◌≡◌, ◌++◌, length, drop}
use Rattle.basics.specs.Decimals.{digits}
use Rattle.basics.proofs.decimal.put.Given as goal

-- what is left of the number, before what is written, is the whole
abbrev pub invariant-loop-i : goal.invariant-loop-i
invariant-loop-i l = digits l.i l.rest ++ drop l.i l.out ≡ digits (length l.initial.out) l.initial.n
