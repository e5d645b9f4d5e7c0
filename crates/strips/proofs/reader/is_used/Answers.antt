use Rattle.std.proofs.Common.{rules, vec_items, sym, ◌∙◌}
use Rattle.std.proofs.lemmas.Iterator.{YieldsList-from_slice}
use Rattle.std.proofs.lemmas.Iterator.Search.{any_from_yields_List}
use Rattle.layouts.specs.Layouts.{record_of, digits_of, same_number}
use Rattle.strips.proofs.ReaderLaws.{used_is_any}
use Rattle.strips.proofs.reader.is_used.Goals as goal

pub returns : goal.returns
returns c =
    any_from_yields_List (λ v. same_number (record_of c.args.field) (digits_of (vec_items v))) _ _ _ c.any.ensures.ran (YieldsList-from_slice c.args.layouts.now cc) (λ x b q k. search rules)
    ∙ sym (used_is_any (record_of c.args.field) c.args.layouts.now)
