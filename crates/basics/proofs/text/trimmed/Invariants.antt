use Rattle.std.proofs.Common.{◌≡◌, length}
use Rattle.basics.specs.Texts.{trim}
use Rattle.basics.proofs.text.trimmed.Given as goal

abbrev pub invariant-loop-last : goal.invariant-loop-last
invariant-loop-last l = trim l.rest ≡ trim l.text

abbrev pub decreases-loop-last : goal.decreases-loop-last
decreases-loop-last l = length l.rest
