use Rattle.std.proofs.Common.{◌≡◌, ℕ, Bool, true, false, drop, rules, refl, ◌∙◌, arith}
use borrow.Author.Tests.{tests}
use Rattle.std.specs.List.{list_all, range_with_len}
use Rattle.std.proofs.lemmas.Bool.{MatchBool-at_true, MatchBool-at_false}
use Rattle.std.proofs.lemmas.Iterator.{cases_from_all, YieldsList-from_range}
use Rattle.std.proofs.lemmas.List.Recursion.{and_is}
use Rattle.comparing.specs.Comparing.{same_text}
use Rattle.comparing.proofs.SameSteps.{texts-by-place}
use Rattle.comparing.proofs.same.same_texts.Goals as goal

pub returns : goal.returns
returns c =
    let n = c.args.n in
    let bytes = c.args.values.now.bytes.now in
    let rs = c.args.values.now.rows.now in
    let others = c.args.other.now.bytes.now in
    let ss = c.args.other.now.rows.now in
    let same : ℕ → Bool = λ k. same_text bytes (drop k rs) others (drop k ss) in
    let told = cases_from_all _ _ _ (λ k. same k ≡ true) (λ k. same k ≡ false) c.all.ensures.ran (YieldsList-from_range 0 n n refl (omega arith)) (λ x q k. search (rules, tests)) (λ x q k. search (rules, tests)) in
    and_is (list_all same) same refl (λ x xs. refl) (range_with_len 0 n) 0 c.all.result (λ e i l. MatchBool-at_true _ _ e told i 0 (omega arith) l) (λ e. let h = MatchBool-at_false _ _ e told in (h.0, h.1, h.2 0))
    ∙ texts-by-place n 0 bytes rs others ss
