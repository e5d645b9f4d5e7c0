use Rattle.std.proofs.Common.{sym, arith}
use Rattle.comparing.proofs.SameSteps.{texts-within}
use Rattle.comparing.proofs.same.same_block.Goals as goal

pub overflow_add-result : goal.overflow_add-result
overflow_add-result c =
    let few = (texts-within c.in_ok-n.field-0.now.number _ _ _ _ (sym c.if-same_texts.ensures)).0 in
    omega arith
