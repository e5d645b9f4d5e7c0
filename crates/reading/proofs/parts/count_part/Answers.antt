use Rattle.std.proofs.Common.{◌+◌, sym, ap, ◌∙◌, arith}
use Rattle.reading.proofs.RowSteps.{is_block}
use Rattle.reading.proofs.parts.count_part.Goals as goal

pub returns-in-Block : goal.returns-in-Block
returns-in-Block c =
    let b = is_block c.args.form c.in-Block.field-0 c.in-Block.field-1 c.in-Block.field-2 c.args.part.now c.in-Block.is c.requires in
    let f = b.counted.few in
    let n = c.number_in.ensures in
    record { few = omega arith; rows = λ before. ap (λ x. 1 + x) n ∙ sym (b.many before) }
