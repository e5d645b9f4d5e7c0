use Rattle.std.proofs.Common.{Ok, length, sym, ap, ◌∙◌, ◌+◌}
use Rattle.std.proofs.lemmas.Result.{err_from_is_err_and}
use Rattle.lines.specs.Rules.{number_test, number_refusal}
use Rattle.lines.specs.Judging.{and_then}
use Rattle.lines.proofs.Steps.{part-figures}
use Rattle.lines.proofs.part.Part.figures.Goals as goal

pub returns-in_err-number : goal.returns-in_err-number
returns-in_err-number c =
    let x = err_from_is_err_and c.from_residual.result c.from_residual.ensures.1 in
    let r = c.args.rule in
    let i = c.args.self.now.field in
    let p = c.args.self.now.place in
    let s = c.args.self.now.bytes.now in
    let all = part-figures (length s) (number_test r) (number_refusal r) i p s in
    rw (x.1, x.2) (sym (all ∙ ap (λ t. and_then t (λ m. Ok (p + length s))) (sym c.in_err-number.ensures)))
