use Rattle.std.proofs.Common.{◌+◌, ◌∷◌, length, drop, ap, subst, arith}
use Rattle.layouts.proofs.Laws.{lawful-fields}
use Rattle.lines.specs.Belongs.{Follows}
use Rattle.values.specs.Forms.{shape_of}
use Rattle.values.specs.Values.{cuts}
use Rattle.values.specs.Rows.{field_rows, rows_in}
use Rattle.reading.proofs.Walks.{turn, length-split}
use Rattle.reading.proofs.fields.count_rows.Goals as goal

pub count_part-needed-requires : goal.count_part-needed-requires
count_part-needed-requires g c =
    let h = subst (λ fs. Follows fs (drop c.loop-f.before c.args.line.now)) c.in-Some.ensures.steps c.loop-f.invariant.follows in
    (turn c.in-Some.f c.next.new.self c.args.line.now c.loop-f.before (shape_of c.from-form.result) c.part_at-part.result.now c.loop-f.invariant.inside c.from-form.ensures h c.part_at-part.ensures).lawful

pub overflow_add-needed : goal.overflow_add-needed
overflow_add-needed g c =
    let ls = g.S.LayoutSet.meaning c.args.set.now in
    let m = lawful-fields ls c.args.j (g.met.S.LayoutSet.lawful c.args.set.now) in
    let left = ap length c.in-Some.ensures.steps in
    omega (arith, c.loop-f.invariant.few, c.count_part-needed.ensures.few)

pub loop-f-preserved : goal.loop-f-preserved
loop-f-preserved g c =
    let line = c.args.line.now in
    let p = c.loop-f.before in
    let fs = c.next.new.self in
    let f = c.in-Some.f in
    let x = shape_of c.from-form.result in
    let s = c.part_at-part.result.now in
    let left = ap length c.in-Some.ensures.steps in
    let h = subst (λ fs. Follows fs (drop p line)) c.in-Some.ensures.steps c.loop-f.invariant.follows in
    let t = turn f fs line p x s c.loop-f.invariant.inside c.from-form.ensures h c.part_at-part.ensures in
    let few = c.count_part-needed.ensures.few in
    let many = c.count_part-needed.ensures.rows p in
    let all = length-split (rows_in (f ∷ fs) p (cuts (f ∷ fs) (drop p line))) (field_rows x p s) (rows_in fs (p + length s) (cuts fs (drop (p + length s) line))) t.rows in
    let whole = ap (λ l. length (rows_in l p (cuts l (drop p line)))) c.in-Some.ensures.steps in
    let sum = c.loop-f.invariant.sum in
    record { inside = t.inside; few = omega arith; follows = t.after; sum = omega arith }
