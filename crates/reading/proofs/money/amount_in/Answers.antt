use Rattle.std.proofs.Common.{sym, ap, ◌∙◌}
use borrow.Author.Tests.{clash}
use Rattle.std.proofs.lemmas.Bool.{some_since}
use Rattle.basics.specs.Money.{is_amount}
use Rattle.reading.proofs.Moneys.{amount-digits}
use Rattle.reading.proofs.money.amount_in.Goals as goal

pub unwrap-requires : goal.unwrap-requires
unwrap-requires c =
    let is = amount-digits c.args.part.now c.value.result c.unwrap_or-hundredths.result c.requires c.value.ensures c.unwrap_or-hundredths.ensures in
    some_since c.new.result _ _ c.new.ensures (λ no. clash (sym no ∙ ap is_amount is ∙ c.requires.value))
