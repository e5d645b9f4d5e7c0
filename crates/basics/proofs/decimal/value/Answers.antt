use Rattle.std.proofs.Common.{get_or, sym, arith}
use Rattle.basics.proofs.DigitLaws.{digit-is, fits}
use Rattle.basics.proofs.decimal.value.Goals as goal

pub overflow_mul-n : goal.overflow_mul-n
overflow_mul-n c = omega (arith, fits c.loop-b.n c.loop-b.b-index 0 c.loop-b.invariant.1 (omega arith) (omega arith))

pub overflow_add-n : goal.overflow_add-n
overflow_add-n c =
    let d = digit-is (get_or c.args.part.now c.loop-b.b-index 0) (sym c.if-not-allows.ensures) in
    omega (arith, fits c.loop-b.n c.loop-b.b-index c.from.result c.loop-b.invariant.1 (omega arith) (omega arith))
