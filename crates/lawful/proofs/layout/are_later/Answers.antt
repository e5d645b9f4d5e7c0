use Rattle.std.proofs.Common.{rules, not, ◌&&◌, eqb, sym, ◌∙◌}
use Rattle.std.proofs.lemmas.Iterator.{YieldsList-from_slice}
use Rattle.std.proofs.lemmas.Iterator.Search.{all_from_yields_List}
use Rattle.layouts.specs.Layouts.{letter, figured}
use Rattle.lawful.proofs.LawfulLaws.{later_is_all}
use Rattle.lawful.proofs.layout.are_later.Goals as goal

pub returns : goal.returns
returns c =
    all_from_yields_List (λ f. not (eqb (letter f) 85) && figured f) _ _ _ c.all.ensures.ran (YieldsList-from_slice c.args.fields.now cc) (λ x b q k. search rules)
    ∙ sym (later_is_all c.args.fields.now)
