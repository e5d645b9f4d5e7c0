use Rattle.std.proofs.Common.{◌≡◌, arith, true, false, Err, sym, ap, ◌∙◌, ◌+◌}
use Rattle.basics.specs.Refusals.{layer}
use Rattle.lines.specs.Rules.{number_test, number_refusal}
use Rattle.lines.proofs.Steps.{numbered-at}
use Rattle.lines.proofs.part.Part.number.Goals as goal

pub returns-then-not-passes : goal.returns-then-not-passes
returns-then-not-passes c =
    let r = c.args.rule in
    let i = c.args.self.now.field in
    let p = c.args.self.now.place in
    let s = c.args.self.now.bytes.now in
    let first : p + 0 + 1 ≡ p + 1 = omega arith in
    ap Err (c.fault_at.ensures ∙ ap (λ b. record { reason = c.reason.result; layer = layer 2; line = 0; field = i; byte = b }) first ∙ ap (λ x. record { reason = x; layer = layer 2; line = 0; field = i; byte = p + 1 }) c.reason.ensures)
    ∙ sym (numbered-at (number_test r) (number_refusal r) i p s c.in_ok-n.n false c.in_ok-n.ensures (sym c.if-not-passes.ensures))

pub returns : goal.returns
returns c =
    let r = c.args.rule in
    sym (numbered-at (number_test r) (number_refusal r) c.args.self.now.field c.args.self.now.place c.args.self.now.bytes.now c.in_ok-n.n true c.in_ok-n.ensures (sym c.if-not-passes.ensures))
