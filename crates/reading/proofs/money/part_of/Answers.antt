use Rattle.std.proofs.Common.{eqb, drop, sym, ap, ◌∙◌, subst, ne_eqb}
use Rattle.lines.specs.Belongs.{Follows}
use Rattle.values.specs.Forms.{shape_of}
use Rattle.values.specs.Values.{cuts}
use Rattle.values.specs.Money.{part_of}
use Rattle.reading.proofs.Walks.{turn, part-later}
use Rattle.reading.proofs.money.part_of.Goals as goal

pub loop-f-preserved : goal.loop-f-preserved
loop-f-preserved g c =
    let line = c.args.line.now in
    let p = c.loop-f.before in
    let fs = c.next.new.self in
    let f = c.in-Some.f in
    let x = shape_of c.from.result in
    let s = c.part_at-part.result.now in
    let h = subst (λ fs. Follows fs (drop p line)) c.in-Some.ensures.steps c.loop-f.invariant.follows in
    let n = turn f fs line p x s c.loop-f.invariant.inside c.from.ensures h c.part_at-part.ensures in
    let t = ap (λ n. eqb n c.args.kind) (sym c.letter_of.ensures) ∙ ne_eqb _ _ c.if-letter_of-kind.false in
    let later = part-later f fs line p x s c.args.kind c.from.ensures h c.part_at-part.ensures t in
    record {
      inside = n.inside;
      follows = n.after;
      part = sym (ap (λ l. part_of c.args.kind l (cuts l (drop p line))) c.in-Some.ensures.steps ∙ later) ∙ c.loop-f.invariant.part;
    }
