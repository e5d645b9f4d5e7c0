use Rattle.std.proofs.Common.{◌<◌, ◌≤◌, length, Ok, Err, sym, ap, ◌∙◌, arith}
use Rattle.layouts.specs.Layouts.{layout_at}
use Rattle.lines.specs.Judging.{found}
use Rattle.values.specs.Writing.{line_for}
use Rattle.writing.specs.Sizes.{bytes_of, in_front}
use Rattle.writing.proofs.Outcomes.{checked, line-whole, says-long, says-done}
use Rattle.writing.proofs.write.write_line.Goals as goal

pub returns-then-size-out : goal.returns-then-size-out
returns-then-size-out g c =
    let ls = g.S.LayoutSet.meaning c.args.set.now in
    let j = c.in-Some.j in
    let bytes = c.args.values.now.bytes.now in
    let rs = c.args.values.now.rows.now in
    let out = c.args.out.now in
    let z = c.in_ok-size.size in
    let k = checked (layout_at ls j) bytes rs z c.in_ok-size.ensures in
    let w = k.bytes' in
    let whole = line-whole ls c.args.digits bytes rs j (ap (found ls 1) (sym c.from.ensures) ∙ sym c.in-Some.ensures) z k c.if-size-values.false in
    let long : length out < length k.wrote = omega arith in
    let s = says-long out (line_for ls c.args.digits bytes rs) k.wrote whole long in
    record { answer = ap Err c.new-then-size-out.ensures ∙ s.0; memory = s.1 }

pub returns : goal.returns
returns g c =
    let ls = g.S.LayoutSet.meaning c.args.set.now in
    let j = c.in-Some.j in
    let bytes = c.args.values.now.bytes.now in
    let rs = c.args.values.now.rows.now in
    let out = c.args.out.now in
    let z = c.in_ok-size.size in
    let k = checked (layout_at ls j) bytes rs z c.in_ok-size.ensures in
    let w = k.bytes' in
    let whole = line-whole ls c.args.digits bytes rs j (ap (found ls 1) (sym c.from.ensures) ∙ sym c.in-Some.ensures) z k c.if-size-values.false in
    let room : length k.wrote ≤ length out = omega arith in
    let s = says-done out (line_for ls c.args.digits bytes rs) k.wrote whole room in
    record { answer = ap Ok w ∙ s.0; memory = c.put_fields.ensures ∙ ap (λ x. in_front (bytes_of x) out) k.is ∙ s.1 }
