use Rattle.std.proofs.Common.{◌+◌, true, false, Some, sym, ap, ◌∙◌, arith}
use Rattle.layouts.specs.Layouts.{same_number}
use Rattle.lines.specs.Judging.{record_at}
use Rattle.lines.proofs.Walks.{found_turn, found-past}
use Rattle.lines.proofs.judge.find.Goals as goal

pub returns-then-has_digits : goal.returns-then-has_digits
returns-then-has_digits g c =
    let n = c.layouts-j-end.ensures in
    let e = ap (λ o. same_number (Some c.args.digits) (record_at o)) (sym c.field.ensures) ∙ sym c.if-has_digits.ensures in
    sym (found_turn (g.S.LayoutSet.meaning c.args.set.now) c.args.digits c.loop-j.j (omega arith) (omega arith) true e) ∙ c.loop-j.invariant

pub loop-j-preserved : goal.loop-j-preserved
loop-j-preserved g c =
    let n = c.layouts-j-end.ensures in
    let e = ap (λ o. same_number (Some c.args.digits) (record_at o)) (sym c.field.ensures) ∙ sym c.if-has_digits.ensures in
    sym (found_turn (g.S.LayoutSet.meaning c.args.set.now) c.args.digits c.loop-j.j (omega arith) (omega arith) false e) ∙ c.loop-j.invariant

pub returns-else-has_digits : goal.returns-else-has_digits
returns-else-has_digits g c =
    let n = c.layouts-j-end.ensures in
    let e = ap (λ o. same_number (Some c.args.digits) (record_at o)) (sym c.field.ensures) ∙ sym c.if-has_digits.ensures in
    sym
    (found_turn (g.S.LayoutSet.meaning c.args.set.now) c.args.digits c.loop-j.j (omega arith) (omega arith) false e
    ∙ found-past (g.S.LayoutSet.meaning c.args.set.now) c.args.digits (c.loop-j.j + 1) (omega arith) (omega arith))
    ∙ c.loop-j.invariant
