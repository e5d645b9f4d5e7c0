use Rattle.std.proofs.Common.{◌-◌, length, replicate, is_some, sym, ap, ◌∙◌, arith}
use Rattle.std.proofs.lemmas.Bool.{not-true, not-false}
use Rattle.basics.specs.Bytes.{allowed, all}
use Rattle.basics.proofs.ByteLaws.{forbidden-test}
use Rattle.writing.proofs.Fitting.{not-of-class, asks-rule}
use Rattle.writing.proofs.suits.fits.Goals as goal

pub returns-then-is_some : goal.returns-then-is_some
returns-then-is_some c =
    let t = c.args.text.now in
    let k = allowed c.args.class in
    let f = forbidden-test k 0 t in
    sym (not-of-class c.args.w k c.args.rule t (not-true (all k t) (sym f ∙ ap (λ o. is_some o) (sym c.first_forbidden.ensures) ∙ sym c.if-is_some.ensures)))

pub returns : goal.returns
returns c =
    let t = c.args.text.now in
    let k = allowed c.args.class in
    let f = forbidden-test k 0 t in
    let clean = not-false (all k t) (sym f ∙ ap (λ o. is_some o) (sym c.first_forbidden.ensures) ∙ sym c.if-is_some.ensures) in
    c.passes.ensures
    ∙ sym (asks-rule c.args.w k c.args.rule t (omega arith) (sym (ap length c.trimmed.ensures) ∙ c.if-trimmed-text.false) clean (ap (λ m. all k (replicate (m - length t) 32)) (sym c.from-2.ensures) ∙ sym c.if-not-takes_blanks.ensures))
