use Rattle.std.proofs.Common.{length, ap, ◌∙◌}
use Rattle.layouts.specs.Kinds.{line}
use Rattle.values.specs.Writing.{row_step, placed}
use Rattle.writing.specs.Sizes.{sized}
use Rattle.std.proofs.lemmas.Result.{err_from_is_err_and}
use Rattle.lines.specs.Rules.{text_test}
use Rattle.writing.proofs.SizeLaws.{lines_more, lines-stop}
use Rattle.writing.proofs.check.check_lines.Goals as goal

pub returns-in_err-check_row : goal.returns-in_err-check_row
returns-in_err-check_row c =
    let p = err_from_is_err_and c.from_residual.result c.from_residual.ensures.1 in
    rw (p.1, p.2)
    (lines-stop (text_test c.args.texts) c.args.n c.args.field c.args.values.now.bytes.now c.args.values.now.rows.now c.loop-k.k _ _ c.loop-k-test.true c.skip.ensures.rows c.loop-k.invariant.1
    (c.in_err-check_row.ensures ∙ ap (λ b. sized (length c.skip.result.rows.now) (placed c.args.field (row_step (line (text_test c.args.texts)) b c.skip.result.rows.now))) c.skip.ensures.bytes))

pub loop-k-preserved : goal.loop-k-preserved
loop-k-preserved c =
    lines_more (text_test c.args.texts) c.args.n c.args.field c.args.values.now.bytes.now c.args.values.now.rows.now c.loop-k.k _ _ c.loop-k-test.true c.skip.ensures.rows c.loop-k.invariant.1
    (c.in_ok-check_row.ensures ∙ ap (λ b. sized (length c.skip.result.rows.now) (placed c.args.field (row_step (line (text_test c.args.texts)) b c.skip.result.rows.now))) c.skip.ensures.bytes)
