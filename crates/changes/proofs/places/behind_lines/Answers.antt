use Rattle.std.proofs.Common.{◌≡◌, ◌+◌, ◌-◌, length, drop, Some, sym, ap, ◌∙◌, arith, length-drop}
use Rattle.std.proofs.lemmas.List.{take_rest, drop-drop}
use Rattle.files.specs.Lines.{line_end}
use Rattle.files.proofs.FirstLines.{first-at, back-is}
use Rattle.changes.specs.Places.{span}
use Rattle.changes.proofs.PlaceLaws.{there, span_more, span-within, none-there, behind-there, behind-none}
use Rattle.changes.proofs.places.behind_lines.Goals as goal

pub loop-passed-preserved : goal.loop-passed-preserved
loop-passed-preserved c =
    let f = c.args.bytes.now in
    let p = c.loop-passed._passed in
    let line = c.in_ok-next.field-0.now in
    let k = length line in
    let h = c.in_ok-next.ensures.steps in
    let left = c.loop-passed.invariant.left in
    let e = sym (first-at c.loop-passed.left line c.next.new.self h) ∙ ap line_end (left ∙ sym (take_rest f (span p f))) in
    let t = there p k f e in
    record {
      there = omega arith;
      left =
          sym (back-is c.loop-passed.left line c.next.new.self h)
          ∙ ap (drop (k + 2)) left
          ∙ drop-drop (k + 2) (span p f) f
          ∙ ap (λ n. drop n f) (sym (span_more p k f e));
    }

pub returns-in_err-next : goal.returns-in_err-next
returns-in_err-next c =
    let f = c.args.bytes.now in
    let p = c.loop-passed._passed in
    let few = none-there p f (sym c.in_err-next.ensures.steps.0 ∙ ap line_end (c.loop-passed.invariant.left ∙ sym (take_rest f (span p f)))) in
    rw c.from_residual.ensures (record { place = sym (behind-none c.args.m f (omega arith)); inside = tt })

pub returns : goal.returns
returns c =
    let f = c.args.bytes.now in
    let same : c.loop-passed._passed ≡ c.args.m = omega arith in
    let t = c.loop-passed.invariant.there in
    let within = span-within c.args.m f in
    let long = ap length (c.rest.ensures ∙ c.loop-passed.invariant.left ∙ ap (λ m. drop (span m f) f) same) ∙ length-drop (span c.args.m f) f in
    let at : length f - length c.rest.result.now ≡ span c.args.m f = omega arith in
    record { place = ap Some at ∙ sym (behind-there c.args.m f (omega arith)); inside = omega arith }
