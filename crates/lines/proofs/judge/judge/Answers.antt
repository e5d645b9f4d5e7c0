use Rattle.std.proofs.Common.{sym, ◌∙◌}
use Rattle.lines.proofs.Judged.{judged-belongs, belongs-judged}
use Rattle.lines.proofs.Refused.{judged-refuses, refuses-judged}
use Rattle.lines.proofs.judge.judge.Goals as goal

pub returns : goal.returns
returns g c =
    let ls = g.S.LayoutSet.meaning c.args.set.now in
    let law = g.met.S.LayoutSet.lawful c.args.set.now in
    let line = c.args.line.now in
    let e = c.judge_fields.ensures in
    record {
      answer_is_the_first_fault = e;
      accepted_exactly_when_it_belongs = λ j. (λ h. judged-belongs ls line j (sym e ∙ h), λ b. e ∙ belongs-judged ls line j law b);
      refused_exactly_as_the_rules_say = λ x. (λ h. judged-refuses ls line x law (sym e ∙ h), λ h. e ∙ refuses-judged ls line x law h);
    }
