use Rattle.std.proofs.Common.{length, sym, ap, ◌∙◌, arith}
use Rattle.values.specs.Forms.{shape_of}
use Rattle.values.specs.Writing.{field_step, placed}
use Rattle.writing.specs.Pieces.{part_of}
use Rattle.writing.specs.Sizes.{sized}
use Rattle.writing.specs.declared.piece.Piece.TheVariants as piece
use Rattle.writing.proofs.SizeLaws.{row_small}
use Rattle.writing.proofs.check.check_field.Goals as goal

pub returns-in-Figures : goal.returns-in-Figures
returns-in-Figures c =
    let rs = c.args.values.now.rows.now in
    record {
      small = row_small (part_of (piece.Figures c.in-Figures.w c.in-Figures.rule)) (length rs) c.args.field c.args.values.now.bytes.now rs c.check_row.result 65535 c.check_row.ensures (omega arith);
      size = c.check_row.ensures ∙ sym (ap (λ x. sized (length rs) (placed c.args.field (field_step (shape_of x) c.args.values.now.bytes.now rs))) c.in-Figures.is);
    }

pub returns-in-Letters : goal.returns-in-Letters
returns-in-Letters c =
    let rs = c.args.values.now.rows.now in
    record {
      small = row_small (part_of (piece.Letters c.in-Letters.w c.in-Letters.class c.in-Letters.rule)) (length rs) c.args.field c.args.values.now.bytes.now rs c.check_row-in-Letters.result 65535 c.check_row-in-Letters.ensures (omega arith);
      size = c.check_row-in-Letters.ensures ∙ sym (ap (λ x. sized (length rs) (placed c.args.field (field_step (shape_of x) c.args.values.now.bytes.now rs))) c.in-Letters.is);
    }

pub returns-in-Block : goal.returns-in-Block
returns-in-Block c =
    let rs = c.args.values.now.rows.now in
    record {
      small = c.check_block.ensures.small;
      size = c.check_block.ensures.size c.in-Block.field-0 ∙ sym (ap (λ x. sized (length rs) (placed c.args.field (field_step (shape_of x) c.args.values.now.bytes.now rs))) c.in-Block.is);
    }
