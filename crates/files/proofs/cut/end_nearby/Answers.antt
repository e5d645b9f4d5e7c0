use Rattle.std.proofs.Common.{◌+◌, sym, ap, ◌∙◌, arith}
use Rattle.std.specs.Option.{option_map}
use Rattle.files.proofs.Places.{looked, found-fits}
use Rattle.files.proofs.cut.end_nearby.Goals as goal

pub overflow_add-result : goal.overflow_add-result
overflow_add-result c =
    let fits = found-fits c.args.bytes.now c.args.place c.requires c.in_ok-k.k (sym c.in_ok-k.was ∙ looked c.args.bytes.now c.args.place c.requires c.min-end.result c.walked_end.result c.min-end.ensures c.walked_end.ensures) in
    omega arith

pub returns-in_err-k : goal.returns-in_err-k
returns-in_err-k c =
    c.from_residual.ensures ∙ ap (option_map (λ k. c.args.place + k)) (sym c.in_err-k.was ∙ looked c.args.bytes.now c.args.place c.requires c.min-end.result c.walked_end.result c.min-end.ensures c.walked_end.ensures)

pub returns : goal.returns
returns c =
    ap (option_map (λ k. c.args.place + k)) (sym c.in_ok-k.was ∙ looked c.args.bytes.now c.args.place c.requires c.min-end.result c.walked_end.result c.min-end.ensures c.walked_end.ensures)
