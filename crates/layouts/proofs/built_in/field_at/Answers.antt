use Rattle.std.proofs.Common.{◌≡◌, suc, arith, rules, ap, ◌∙◌}
use Rattle.std.proofs.lemmas.Grind.{common_steps}
use Rattle.layouts.specs.Layouts.{place}
use Rattle.layouts.proofs.Places.{place-zero, got}
use Rattle.layouts.proofs.built_in.field_at.Goals as goal

pub returns-in_err-checked_sub : goal.returns-in_err-checked_sub
returns-in_err-checked_sub c = grind (arith, common_steps, place-zero c.args.table.now)

pub returns : goal.returns
returns c =
    let i : suc c.in_ok-checked_sub.field-0 ≡ c.args.i = omega (arith, c.in_ok-checked_sub.ensures) in
    c.copied.ensures ∙ got c.args.table.now c.in_ok-checked_sub.field-0 c.get.result (search rules) ∙ ap (place c.args.table.now) i
