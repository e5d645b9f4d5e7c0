use Rattle.std.proofs.Common.{◌≡◌, ◌+◌, length, Ok, sym, ap, ◌∙◌, arith}
use Rattle.layouts.specs.Kinds.{shape}
use Rattle.layouts.proofs.Laws.{lawful-fields}
use Rattle.lines.specs.Judging.{and_then, field_end, walked}
use Rattle.lines.proofs.Sound.{ended}
use Rattle.lines.proofs.judge.walk.Goals as goal

pub overflow_add-i : goal.overflow_add-i
overflow_add-i g c =
    let few = lawful-fields (g.S.LayoutSet.meaning c.args.set.now) c.args.j (g.met.S.LayoutSet.lawful c.args.set.now) in
    let left = ap length c.in-Some.ensures.steps in
    omega arith

pub loop-f-preserved : goal.loop-f-preserved
loop-f-preserved g c =
    let line = c.args.line.now in
    let left = ap length c.in-Some.ensures.steps in
    let e : field_end (shape c.in-Some.f) c.loop-f.i c.loop-f.place line ≡ Ok c.in_ok-place.place = sym c.field.ensures ∙ c.in_ok-place.was in
    record {
      counted = omega arith;
      inside = (ended (shape c.in-Some.f) c.loop-f.i c.loop-f.place line c.in_ok-place.place c.loop-f.invariant.inside e).within;
      same =
          sym
          (ap (λ fs. walked line c.args.j fs c.loop-f.i c.loop-f.place) c.in-Some.ensures.steps
          ∙ ap (λ r. and_then r (λ m. walked line c.args.j c.next.new.self (c.loop-f.i + 1) m)) e)
          ∙ c.loop-f.invariant.same;
    }
