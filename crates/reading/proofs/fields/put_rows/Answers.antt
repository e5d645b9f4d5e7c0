use Rattle.std.proofs.Common.{◌≡◌, ◌+◌, ◌∷◌, ◌++◌, length, drop, sym, refl, ap, ◌∙◌, subst, arith, rules}
use Rattle.layouts.specs.Layouts.{layout_at}
use Rattle.lines.specs.Belongs.{Follows}
use Rattle.values.specs.Forms.{shape_of}
use Rattle.values.specs.Values.{cuts}
use Rattle.values.specs.Rows.{field_rows, rows_in, rows_of, laid}
use Rattle.reading.proofs.RowSteps.{laid-front, length-laid}
use Rattle.reading.proofs.Walks.{Figured, all_figured, figured-rest, narrow_first, turn, laid_more, length-split}
use Rattle.reading.proofs.fields.put_rows.Goals as goal

pub loop-f-init : goal.loop-f-init
loop-f-init g c =
    let ls = g.S.LayoutSet.meaning c.args.set.now in
    let all = c.into_iter-f-iterator.ensures.into_iter_gives ∙ c.fields_of-f-items.ensures in
    let none = c.over-stack.ensures.used in
    let sum = ap (λ fs. length (rows_in fs 0 (cuts fs c.args.line.now))) all in
    record {
      inside = omega arith;
      figured = subst Figured (sym all) (all_figured ls c.args.j (g.met.S.LayoutSet.lawful c.args.set.now));
      follows = subst (λ fs. Follows fs c.args.line.now) (sym all) c.requires.follows;
      lent = refl;
      long = refl;
      sum = omega arith;
      rows = ap (λ u. laid c.over-stack.result.rows.now u (rows_in c.into_iter-f-iterator.result 0 (cuts c.into_iter-f-iterator.result c.args.line.now))) none ∙ ap (λ fs. laid c.over-stack.result.rows.now 0 (rows_in fs 0 (cuts fs c.args.line.now))) all;
    }

pub put-requires-clause-lawful : goal.put-requires-clause-lawful
put-requires-clause-lawful g c =
    let line = c.args.line.now in
    let p = c.loop-f.before in
    let fs = c.next.new.self in
    let f = c.in-Some.f in
    let x = shape_of c.from-form.result in
    let h = subst (λ fs. Follows fs (drop p line)) c.in-Some.ensures.steps c.loop-f.invariant.follows in
    let t = turn f fs line p x c.part_at-part.result.now c.loop-f.invariant.inside c.from-form.ensures h c.part_at-part.ensures in
    (t.lawful, narrow_first f fs x (subst Figured c.in-Some.ensures.steps c.loop-f.invariant.figured) c.from-form.ensures)

pub loop-f-preserved : goal.loop-f-preserved
loop-f-preserved g c =
    let line = c.args.line.now in
    let p = c.loop-f.before in
    let fs = c.next.new.self in
    let f = c.in-Some.f in
    let x = shape_of c.from-form.result in
    let s = c.part_at-part.result.now in
    let h = subst (λ fs. Follows fs (drop p line)) c.in-Some.ensures.steps c.loop-f.invariant.follows in
    let t = turn f fs line p x s c.loop-f.invariant.inside c.from-form.ensures h c.part_at-part.ensures in
    let whole = rows_in (f ∷ fs) p (cuts (f ∷ fs) (drop p line)) in
    let ys = field_rows x p s in
    let zs = rows_in fs (p + length s) (cuts fs (drop (p + length s) line)) in
    let all = length-split whole ys zs t.rows in
    let same = ap (λ l. rows_in l p (cuts l (drop p line))) c.in-Some.ensures.steps in
    let long = ap length same in
    let sum = c.loop-f.invariant.sum in
    let u = c.put.ensures.used in
    record {
      inside = t.inside;
      figured = figured-rest f fs (subst Figured c.in-Some.ensures.steps c.loop-f.invariant.figured);
      follows = t.after;
      lent = c.put.ensures.lent ∙ c.loop-f.invariant.lent;
      long = ap length c.put.ensures.rows ∙ length-laid c.loop-f.stack.rows.now c.loop-f.stack.used ys ∙ c.loop-f.invariant.long;
      sum = omega arith;
      rows =
          laid_more (laid c.over-stack.result.rows.now 0 (rows_of (layout_at (g.S.LayoutSet.meaning c.args.set.now) c.args.j) line)) c.loop-f.stack.rows.now c.put.new.stack.rows.now ys zs whole c.loop-f.stack.used c.put.new.stack.used t.rows c.put.ensures.rows u
          (sym (ap (laid c.loop-f.stack.rows.now c.loop-f.stack.used) same) ∙ c.loop-f.invariant.rows);
    }

pub returns : goal.returns
returns g c =
    let line = c.args.line.now in
    let rows = rows_of (layout_at (g.S.LayoutSet.meaning c.args.set.now) c.args.j) line in
    let left = c.in-None.ensures.steps.0 in
    let e : c.loop-f.stack.rows.now ≡ rows ++ drop (length rows) c.args.rows.now =
    sym (ap (λ fs. laid c.loop-f.stack.rows.now c.loop-f.stack.used (rows_in fs c.loop-f.before (cuts fs (drop c.loop-f.before line)))) left)
    ∙ c.loop-f.invariant.rows
    ∙ ap (λ old. laid old 0 rows) c.over-stack.ensures.same
    ∙ laid-front c.args.rows.now rows c.requires.room in
    search (rules, e)
