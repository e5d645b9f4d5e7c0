use Rattle.std.proofs.Common.{length, sym, ap, ◌∙◌, arith}
use Rattle.std.proofs.lemmas.Grind.{common_steps}
use Rattle.layouts.specs.Layouts.{layout_at}
use Rattle.layouts.proofs.Places.{left-after, place-within, drop-at-none}
use Rattle.layouts.proofs.Laws.{lawful-fields}
use Rattle.layouts.proofs.fields.FieldsIterator.next.Goals as goal

pub returns-in_err-field-clause-steps : goal.returns-in_err-field-clause-steps
returns-in_err-field-clause-steps g c =
    grind (arith, common_steps, drop-at-none (layout_at (g.S.LayoutSet.meaning c.self.inside.set.now) c.self.inside.layout) c.self.inside.next)

pub overflow_add-self : goal.overflow_add-self
overflow_add-self g c =
    let few = lawful-fields (g.S.LayoutSet.meaning c.self.inside.set.now) c.self.inside.layout (g.met.S.LayoutSet.lawful c.self.inside.set.now) in
    let here = place-within (layout_at (g.S.LayoutSet.meaning c.self.inside.set.now) c.self.inside.layout) c.self.inside.next c.in_ok-field.field (sym c.field.ensures ∙ c.in_ok-field.was) in
    omega arith

pub returns-clause-steps : goal.returns-clause-steps
returns-clause-steps g c =
    sym c.self.view_is
    ∙ left-after (layout_at (g.S.LayoutSet.meaning c.self.inside.set.now) c.self.inside.layout) c.self.inside.next c.in_ok-field.field (sym c.field.ensures ∙ c.in_ok-field.was)

pub returns-clause-goes : goal.returns-clause-goes
returns-clause-goes g c =
    let e = sym c.self.view_is
    ∙ left-after (layout_at (g.S.LayoutSet.meaning c.self.inside.set.now) c.self.inside.layout) c.self.inside.next c.in_ok-field.field (sym c.field.ensures ∙ c.in_ok-field.was) in
    grind (arith, common_steps, ap length e)
