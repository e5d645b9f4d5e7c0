use Rattle.std.proofs.Common.{◌+◌, sym, ap, ◌∙◌, arith}
use Rattle.reading.proofs.RowSteps.{is_block, is-figures}
use Rattle.reading.proofs.parts.Cut.put.Goals as goal

pub number_in-requires : goal.number_in-requires
number_in-requires c =
    let f = is-figures c.args.form c.in-Figures.field-0 c.in-Figures.field-1 c.args.self.now.part.now c.in-Figures.is c.requires.lawful.0 c.requires.lawful.1 in
    (f.0, f.1)

pub put_block-requires-clause-room : goal.put_block-requires-clause-room
put_block-requires-clause-room c =
    let b = is_block c.args.form c.in-Block.field-0 c.in-Block.field-1 c.in-Block.field-2 c.args.self.now.part.now c.in-Block.is c.requires.lawful.0 in
    let m = b.many c.args.self.now.before in
    let r = c.requires.room in
    omega arith

pub returns-in-Block-clause-used : goal.returns-in-Block-clause-used
returns-in-Block-clause-used c =
    let b = is_block c.args.form c.in-Block.field-0 c.in-Block.field-1 c.in-Block.field-2 c.args.self.now.part.now c.in-Block.is c.requires.lawful.0 in
    c.put_block.ensures.used ∙ ap (λ n. c.args.stack.now.used + n) (sym (b.many c.args.self.now.before))
