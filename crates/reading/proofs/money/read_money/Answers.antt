use Rattle.std.proofs.Common.{sym, ap, ◌∙◌, subst}
use Rattle.basics.specs.Decimals.{number_of}
use Rattle.basics.specs.Money.{is_amount, is_currency}
use Rattle.layouts.specs.Kinds.{figures}
use Rattle.lines.specs.Belongs.{Fit}
use Rattle.reading.proofs.Moneys.{accepted-follows, accepted-money, has-money}
use Rattle.reading.proofs.money.read_money.Goals as goal

pub part_of-requires : goal.part_of-requires
part_of-requires g c =
    accepted-follows (g.S.LayoutSet.meaning c.args.set.now) c.args.line.now c.in_ok-j.j (sym c.in_ok-j.ensures.answer_is_the_first_fault)

pub amount_in-amount-requires : goal.amount_in-amount-requires
amount_in-amount-requires g c =
    let m = accepted-money (g.S.LayoutSet.meaning c.args.set.now) c.args.line.now c.in_ok-j.j (g.met.S.LayoutSet.lawful c.args.set.now) (sym c.in_ok-j.ensures.answer_is_the_first_fault) in
    subst (Fit (figures 15 is_amount 17)) (sym c.part_of.ensures) m.digits

pub part_of-requires-2 : goal.part_of-requires-2
part_of-requires-2 g c =
    accepted-follows (g.S.LayoutSet.meaning c.args.set.now) c.args.line.now c.in_ok-j.j (sym c.in_ok-j.ensures.answer_is_the_first_fault)

pub currency_in-currency-requires : goal.currency_in-currency-requires
currency_in-currency-requires g c =
    let m = accepted-money (g.S.LayoutSet.meaning c.args.set.now) c.args.line.now c.in_ok-j.j (g.met.S.LayoutSet.lawful c.args.set.now) (sym c.in_ok-j.ensures.answer_is_the_first_fault) in
    ap is_currency c.part_of-2.ensures ∙ m.currency

pub returns : goal.returns
returns g c =
    has-money (g.S.LayoutSet.meaning c.args.set.now) c.args.line.now c.in_ok-j.j c.amount_in-amount.result.hundredths c.currency_in-currency.result.letters (g.met.S.LayoutSet.lawful c.args.set.now) (sym c.in_ok-j.ensures.answer_is_the_first_fault)
    (c.amount_in-amount.ensures ∙ ap number_of c.part_of.ensures)
    (c.currency_in-currency.ensures ∙ c.part_of-2.ensures)
