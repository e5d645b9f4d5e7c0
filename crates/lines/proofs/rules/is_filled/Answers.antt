use Rattle.std.proofs.Common.{rules, not, eqb, sym, ◌∙◌}
use Rattle.std.proofs.lemmas.Iterator.{YieldsList-from_slice}
use Rattle.std.proofs.lemmas.Iterator.Search.{any_from_yields_List}
use Rattle.lines.proofs.Texts.{filled_is_any}
use Rattle.lines.proofs.rules.is_filled.Goals as goal

pub returns : goal.returns
returns c =
    any_from_yields_List (λ b. not (eqb b 32)) _ _ _ c.any.ensures.ran (YieldsList-from_slice c.args.part.now cc) (λ x b q k. search rules)
    ∙ sym (filled_is_any c.args.part.now)
