use Rattle.std.proofs.Common.{◌≡◌, ◌&&◌, drop}
use Rattle.basics.specs.Bytes.{allowed, all}
use Rattle.basics.proofs.bytes.allows_all.Given as goal

-- what came so far, with what is left, has the answer of the whole
abbrev pub invariant-loop-b : goal.invariant-loop-b
invariant-loop-b l = (l.ok && all (allowed l.class) (drop l.b-index l.part)) ≡ all (allowed l.class) l.part
