use Rattle.std.proofs.Common.{◌≡◌, Decides, rules, sym}
use Rattle.comparing.proofs.Equal.{tells-records}
use Rattle.comparing.proofs.records.same_record.Goals as goal

pub returns-clause-equal_digits_and_values : goal.returns-clause-equal_digits_and_values
returns-clause-equal_digits_and_values g c =
    let same : Decides c.eq.result (c.args.line.now ≡ c.args.other.now) = search rules in
    tells-records (g.S.LayoutSet.meaning c.args.set.now) _ _ (g.met.S.LayoutSet.lawful c.args.set.now) _ (sym c.in_ok-judge.ensures.answer_is_the_first_fault) c.eq.result same
