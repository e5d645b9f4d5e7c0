use Rattle.std.proofs.Common.{length, get_or, ap, ◌∙◌, arith}
use Rattle.values.specs.Writing.{line_steps, placed}
use Rattle.writing.specs.Sizes.{sized}
use Rattle.std.proofs.lemmas.Result.{err_from_is_err_and}
use Rattle.lines.specs.Rules.{number_test, number_refusal, text_test}
use Rattle.values.specs.declared.row.ValueRow.{ValueRow}
use Rattle.writing.proofs.SizeLaws.{count-stop, count-done, block-stop, block-done, first-is}
use Rattle.writing.proofs.check.check_block.Goals as goal

pub returns-in_err-check_row : goal.returns-in_err-check_row
returns-in_err-check_row c =
    let p = err_from_is_err_and c.from_residual.result c.from_residual.ensures.1 in
    rw (p.1, p.2)
    (record {
      small = tt;
      size = λ high. count-stop (number_test c.args.counts) (text_test c.args.texts) (number_refusal c.args.counts) c.args.field c.args.values.now.bytes.now c.args.values.now.rows.now _ c.in_err-check_row.ensures;
    })

pub returns-in_err-lines : goal.returns-in_err-lines
returns-in_err-lines c =
    let p = err_from_is_err_and c.from_residual-in_err-lines.result c.from_residual-in_err-lines.ensures.1 in
    let rs = c.args.values.now.rows.now in
    let d : ValueRow = record { number = 0; place = 0; length = 0 } in
    let k = count-done (number_test c.args.counts) (text_test c.args.texts) (number_refusal c.args.counts) c.args.field c.args.values.now.bytes.now rs c.in_ok-check_row.field-0 c.in_ok-check_row.ensures in
    rw (p.1, p.2)
    (record {
      small = tt;
      size = λ high. block-stop (number_test c.args.counts) (text_test c.args.texts) (number_refusal c.args.counts) c.args.field c.args.values.now.bytes.now rs (get_or rs 0 d).number _ _ k (first-is rs d k.some) c.skip.ensures.rows (c.in_err-lines.ensures ∙ ap (λ b. sized (length c.skip.result.rows.now) (placed c.args.field (line_steps (text_test c.args.texts) (get_or rs 0 d).number b c.skip.result.rows.now))) c.skip.ensures.bytes);
    })

pub overflow_add-result : goal.overflow_add-result
overflow_add-result c =
    let rs = c.args.values.now.rows.now in
    let d : ValueRow = record { number = 0; place = 0; length = 0 } in
    let k = count-done (number_test c.args.counts) (text_test c.args.texts) (number_refusal c.args.counts) c.args.field c.args.values.now.bytes.now rs c.in_ok-check_row.field-0 c.in_ok-check_row.ensures in
    let b = block-done (number_test c.args.counts) (text_test c.args.texts) (number_refusal c.args.counts) c.args.field c.args.values.now.bytes.now rs (get_or rs 0 d).number _ c.in_ok-lines.lines k (first-is rs d k.some) c.skip.ensures.rows (c.in_ok-lines.ensures ∙ ap (λ b. sized (length c.skip.result.rows.now) (placed c.args.field (line_steps (text_test c.args.texts) (get_or rs 0 d).number b c.skip.result.rows.now))) c.skip.ensures.bytes) in
    omega (arith, b.0, k.few d)

pub returns : goal.returns
returns c =
    let rs = c.args.values.now.rows.now in
    let d : ValueRow = record { number = 0; place = 0; length = 0 } in
    let k = count-done (number_test c.args.counts) (text_test c.args.texts) (number_refusal c.args.counts) c.args.field c.args.values.now.bytes.now rs c.in_ok-check_row.field-0 c.in_ok-check_row.ensures in
    let b = block-done (number_test c.args.counts) (text_test c.args.texts) (number_refusal c.args.counts) c.args.field c.args.values.now.bytes.now rs (get_or rs 0 d).number _ c.in_ok-lines.lines k (first-is rs d k.some) c.skip.ensures.rows (c.in_ok-lines.ensures ∙ ap (λ b. sized (length c.skip.result.rows.now) (placed c.args.field (line_steps (text_test c.args.texts) (get_or rs 0 d).number b c.skip.result.rows.now))) c.skip.ensures.bytes) in
    record { small = omega (arith, b.0, k.few d); size = λ high. b.2 }
