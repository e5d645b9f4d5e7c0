use Rattle.std.proofs.Common.{◌≡◌, ◌+◌, ◌-◌, ◌*◌, ◌<◌, length, Err, sym, ap, ◌∙◌, arith, length-append}
use Rattle.std.specs.Slice.Iter.{chunks_exact_rest}
use Rattle.basics.specs.Refusals.{refusal}
use Rattle.lines.specs.Rules.{text_test}
use Rattle.lines.specs.Judging.{each_line}
use Rattle.lines.proofs.Steps.{line-wrong, line-right}
use Rattle.lines.proofs.part.Part.each_line.Goals as goal

pub loop-k-preserved : goal.loop-k-preserved
loop-k-preserved c =
    let s = c.in-Some.ensures.steps in
    let k = c.loop-k.k-iterator.count in
    let q = c.args.self.now.place + 35 * k in
    let rest = chunks_exact_rest c.next.new.self.iter in
    let size = c.loop-k.invariant.size in
    let left = c.loop-k.invariant.left in
    let w = s.0.1.1 ∙ size in
    let long = ap length s.0.1.0 ∙ length-append c.in-Some.line.now rest in
    let next = s.2 in
    let at : c.args.self.now.place + 35 * c.next.new.self.count ≡ q + 35 = omega arith in
    record {
      size = s.0.0 ∙ size;
      left = omega arith;
      same = λ n h.
          let more : k < n = omega arith in
          let right = line-right (text_test c.args.rule) n c.args.self.now.field q k (chunks_exact_rest c.loop-k.k-iterator.iter) c.in-Some.line.now rest more s.0.1.0 w (sym c.if-not-passes.ensures) in
          (λ j. each_line (text_test c.args.rule) (n - s.2 j) c.args.self.now.field (at j) rest) ∙ sym right ∙ c.loop-k.invariant.same n h;
    }

pub returns-then-not-passes : goal.returns-then-not-passes
returns-then-not-passes c n h =
    let s = c.in-Some.ensures.steps in
    let k = c.loop-k.k-iterator.count in
    let q = c.args.self.now.place + 35 * k in
    let rest = chunks_exact_rest c.next.new.self.iter in
    let size = c.loop-k.invariant.size in
    let left = c.loop-k.invariant.left in
    let w = s.0.1.1 ∙ size in
    let long = ap length s.0.1.0 ∙ length-append c.in-Some.line.now rest in
    let more : k < n = omega arith in
    let wrong = line-wrong (text_test c.args.rule) n c.args.self.now.field q k (chunks_exact_rest c.loop-k.k-iterator.iter) c.in-Some.line.now rest more s.0.1.0 w (sym c.if-not-passes.ensures) in
    ap Err (c.fault_at.ensures ∙ ap (λ m. refusal 14 2 0 c.args.self.now.field (c.args.self.now.place + 35 * m + 1)) s.1) ∙ sym wrong ∙ c.loop-k.invariant.same n h
