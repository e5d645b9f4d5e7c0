use Rattle.std.proofs.Common.{◌+◌, length, drop, inl, ap, sym, ◌∙◌, subst, arith}
use Rattle.layouts.specs.Layouts.{layout_at}
use Rattle.layouts.proofs.Laws.{lawful-fields}
use Rattle.values.specs.Forms.{shape_of}
use Rattle.values.specs.Writing.{field_step, field_steps, placed}
use Rattle.writing.specs.Sizes.{sized}
use Rattle.writing.proofs.StepLaws.{Ahead}
use Rattle.writing.proofs.SizeLaws.{fields-more}
use Rattle.writing.proofs.check.check_fields.Goals as goal

pub loop-k-init-derived : goal.loop-k-init-derived
loop-k-init-derived g c =
    let few = lawful-fields (g.S.LayoutSet.meaning c.args.set.now) c.args.j (g.met.S.LayoutSet.lawful c.args.set.now) in
    let it = c.into_iter-k-iterator.ensures.into_iter_gives in
    let left = ap length (ap (λ x. x.iter) it ∙ c.enumerate-k-items.ensures.source ∙ c.fields_of.ensures) in
    let none = ap (λ x. x.count) it ∙ c.enumerate-k-items.ensures.count in
    ((tt, tt, inl (omega arith)), tt)

pub overflow_add-bytes : goal.overflow_add-bytes
overflow_add-bytes g c =
    let few = lawful-fields (g.S.LayoutSet.meaning c.args.set.now) c.args.j (g.met.S.LayoutSet.lawful c.args.set.now) in
    let counted = c.loop-k.invariant.counted in
    omega (arith, c.loop-k.invariant.small, c.in_ok-next.ensures.small)

pub loop-k-preserved : goal.loop-k-preserved
loop-k-preserved g c =
    let l = layout_at (g.S.LayoutSet.meaning c.args.set.now) c.args.j in
    let bytes = c.args.values.now.bytes.now in
    let rs = c.args.values.now.rows.now in
    let us = c.skip.result.rows.now in
    let x = shape_of c.from.result in
    let s = c.in-Some.ensures.steps in
    let z = c.in_ok-next.next in
    let e =
    c.in_ok-next.ensures.size
    ∙ ap (λ b. sized (length us) (placed (c.in-Some.k + 1) (field_step x b us))) c.skip.ensures.bytes
    ∙ ap (λ m. sized (length us) (placed (m + 1) (field_step x bytes us))) s.1 in
    let m = fields-more l bytes rs (c.loop-k.k-iterator.count + 1) c.loop-k.rows c.loop-k.bytes c.loop-k.k-iterator.iter c.in-Some.f c.next.new.self.iter x us s.0 c.from.ensures c.skip.ensures.rows z c.loop-k.invariant.within c.loop-k.invariant.ahead e in
    let left = ap length s.0 in
    let next = s.2 in
    let small = c.in_ok-next.ensures.small in
    let low = c.loop-k.invariant.small in
    let counted = c.loop-k.invariant.counted in
    record {
      counted = omega arith;
      small = omega arith;
      within = m.0;
      ahead = subst (λ k. Ahead (field_steps 1 l bytes rs) (c.loop-k.bytes + z.bytes) (field_steps (k + 1) c.next.new.self.iter bytes (drop (c.loop-k.rows + z.rows) rs))) (sym s.2) m.1;
    }
