use Rattle.comparing.proofs.SameLaws.{tells-values, tells-lines}
use Rattle.comparing.proofs.rows.same_values.Goals as goal

pub returns-clause-equal_numbers_and_texts : goal.returns-clause-equal_numbers_and_texts
returns-clause-equal_numbers_and_texts g c =
    tells-values _ c.args.digits _ _ _ _ (g.met.S.LayoutSet.lawful c.args.set.now) c.compare.result c.compare.ensures

pub returns-clause-equal_values_mean_equal_lines : goal.returns-clause-equal_values_mean_equal_lines
returns-clause-equal_values_mean_equal_lines g c =
    tells-lines _ c.args.digits _ _ _ _ (g.met.S.LayoutSet.lawful c.args.set.now) c.compare.result c.compare.ensures
