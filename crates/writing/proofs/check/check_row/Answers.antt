use Rattle.std.proofs.Common.{ap, length, get_or, drop, sym, ◌∙◌, arith}
use Rattle.std.proofs.lemmas.List.{length-drop}
use Rattle.values.specs.declared.row.ValueRow.{ValueRow}
use Rattle.values.specs.Writing.{suits, row_step, written}
use Rattle.writing.specs.Pieces.{part_of}
use Rattle.writing.proofs.StepLaws.{row-right, length-written}
use Rattle.writing.proofs.SizeLaws.{size-done}
use Rattle.writing.proofs.check.check_row.Goals as goal

pub returns : goal.returns
returns c =
    let d : ValueRow = record { number = 0; place = 0; length = 0 } in
    let q = part_of c.args.piece in
    let rs = c.args.values.now.rows.now in
    let item = c.in-Some.ensures.item.3 in
    let some = item.0 in
    let ok = ap (suits q c.args.values.now.bytes.now) (sym (item.1 d)) ∙ sym c.if-not-suits.ensures in
    let n = length-drop 1 rs in
    size-done (length rs) c.args.field (row_step q c.args.values.now.bytes.now rs) (written q c.args.values.now.bytes.now (get_or rs 0 d)) (drop 1 rs) c.width.result 1
    (row-right q c.args.values.now.bytes.now rs d (omega arith) ok)
    (c.width.ensures ∙ sym (length-written q c.args.values.now.bytes.now (get_or rs 0 d) ok))
    (omega arith)
