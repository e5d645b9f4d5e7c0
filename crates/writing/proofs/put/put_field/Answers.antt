use Rattle.std.proofs.Common.{length, sym, ap, ◌∙◌, arith}
use Rattle.values.specs.Forms.{shape_of}
use Rattle.values.specs.Writing.{field_step}
use Rattle.writing.specs.Pieces.{part_of}
use Rattle.writing.specs.Sizes.{is_done, bytes_of}
use Rattle.writing.specs.declared.piece.Piece.TheVariants as piece
use Rattle.writing.proofs.PutLaws.{row-wide}
use Rattle.writing.proofs.put.put_field.Goals as goal

pub put_row-requires : goal.put_row-requires
put_row-requires c =
    let q = part_of (piece.Figures c.in-Figures.w c.in-Figures.rule) in
    let h = ap (λ x. is_done (field_step (shape_of x) c.args.values.now.bytes.now c.args.values.now.rows.now)) (sym c.in-Figures.is) ∙ c.requires.suits in
    let e = ap (λ x. length (bytes_of (field_step (shape_of x) c.args.values.now.bytes.now c.args.values.now.rows.now))) c.in-Figures.is in
    let w = row-wide q c.args.values.now.bytes.now c.args.values.now.rows.now h in
    record { suits = h; room = omega (arith, c.requires.room) }

pub put_row-requires-in-Letters : goal.put_row-requires-in-Letters
put_row-requires-in-Letters c =
    let q = part_of (piece.Letters c.in-Letters.w c.in-Letters.class c.in-Letters.rule) in
    let h = ap (λ x. is_done (field_step (shape_of x) c.args.values.now.bytes.now c.args.values.now.rows.now)) (sym c.in-Letters.is) ∙ c.requires.suits in
    let e = ap (λ x. length (bytes_of (field_step (shape_of x) c.args.values.now.bytes.now c.args.values.now.rows.now))) c.in-Letters.is in
    let w = row-wide q c.args.values.now.bytes.now c.args.values.now.rows.now h in
    record { suits = h; room = omega (arith, c.requires.room) }
