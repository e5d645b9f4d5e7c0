use Rattle.std.proofs.Common.{ap, sym, ◌∙◌}
use Rattle.std.proofs.lemmas.Result.{err_from_is_err_and}
use Rattle.lines.specs.Rules.{number_test, text_test}
use Rattle.lines.specs.Judging.{numbered}
use Rattle.lines.proofs.Steps.{block_refused}
use Rattle.lines.proofs.field_check.Start.block.Goals as goal

pub returns-in_err-n : goal.returns-in_err-n
returns-in_err-n c high =
    let x = err_from_is_err_and c.from_residual-in_err-n.result c.from_residual-in_err-n.ensures.1 in
    let test = number_test c.args.counts in
    let i = c.args.self.now.field in
    let p = c.args.self.now.place in
    let h = c.in_ok-part.ensures in
    let s = c.in_ok-part.field-0 in
    let e = sym c.in_err-n.was ∙ c.number.ensures
    ∙ ap (λ k. numbered test k s.field s.place s.bytes.now) c.requires
    ∙ ap (λ k. numbered test 15 k s.place s.bytes.now) h.3
    ∙ ap (λ k. numbered test 15 i k s.bytes.now) h.4 in
    rw (x.1, x.2) (block_refused high test (text_test c.args.texts) i p c.args.self.now.line.now s.bytes.now h.0 h.1 h.2 _ e)
