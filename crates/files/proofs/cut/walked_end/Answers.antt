use Rattle.std.proofs.Common.{◌≡◌, ◌+◌, get_or, sym, ap, ◌∙◌, arith}
use Rattle.std.specs.Option.{option_map}
use Rattle.files.proofs.Places.{unmoved, end-here, end_more, end_none}
use Rattle.files.proofs.cut.walked_end.Goals as goal
use Rattle.files.proofs.cut.walked_end.Goals.{else-bytes-i-eq-CR-via-then-bytes-i-eq-CR+else-bytes-i-eq-LF, else-bytes-i-eq-CR-via-else-bytes-i-eq-CR}

pub loop-i-init : goal.loop-i-init
loop-i-init c = (omega arith, unmoved _)

pub returns-then-bytes-i-eq-LF : goal.returns-then-bytes-i-eq-LF
returns-then-bytes-i-eq-LF c =
    sym (end-here c.args.bytes.now c.loop-i.i c.loop-i-test.true c.if-bytes-i-eq-CR.true c.if-bytes-i-eq-LF.true) ∙ c.loop-i.invariant.1

pub loop-i-preserved : goal.loop-i-preserved
loop-i-preserved c =
    let f = c.args.bytes.now in
    let i = c.loop-i.i in
    let not : get_or f i 0 ≡ 13 → get_or f (i + 1) 0 ≡ 10 → ⊥ =
    elim c.else-bytes-i-eq-CR.branch [
      | else-bytes-i-eq-CR-via-then-bytes-i-eq-CR+else-bytes-i-eq-LF w ↦ λ p q. w.if-bytes-i-eq-LF.false q
      | else-bytes-i-eq-CR-via-else-bytes-i-eq-CR w ↦ λ p q. w.if-bytes-i-eq-CR.false p
    ] in
    (omega arith, sym (end_more f i c.loop-i-test.true not) ∙ c.loop-i.invariant.1)

pub returns : goal.returns
returns c =
    let i = c.loop-i.i in
    sym (ap (option_map (λ k. i + k)) (end_none c.args.bytes.now i c.loop-i-test.false)) ∙ c.loop-i.invariant.1
