use Rattle.std.proofs.Common.{◌≡◌, drop}
use Rattle.basics.specs.Bytes.{allowed, anywhere, first_forbidden}
use Rattle.basics.proofs.bytes.first_forbidden.Given as goal

-- what is left, from here, has the answer of the whole
abbrev pub invariant-loop-k : goal.invariant-loop-k
invariant-loop-k l = first_forbidden (anywhere (allowed l.class)) l.k (drop l.k l.part) ≡ first_forbidden (anywhere (allowed l.class)) 0 l.part
