-- What an answer says of a value that is there.
use Rattle.std.proofs.Common.{◌≡◌, ℕ, true, List, Ok, Option, unwrap_or, sym, ap, ◌∙◌, subst, arith}
use Rattle.basics.specs.Decimals.{number_of, value_of}
use Rattle.basics.specs.Money.{is_amount}
use Rattle.basics.proofs.DigitLaws.{value-some}
use Rattle.layouts.specs.Kinds.{figures}
use Rattle.lines.specs.Belongs.{Fit, Follows}
use Rattle.layouts.specs.declared.field.Field.{Field}
use Rattle.layouts.specs.Layouts.{layout_at, or_empty, lawful_layout, is_lawful}
use Rattle.layouts.proofs.Laws.{lawful-layouts}
use Rattle.lines.specs.Judging.{judged}
use Rattle.lines.proofs.Judged.{judged-belongs}
use Rattle.lines.proofs.Names.{lawful-at}
use Rattle.values.specs.Values.{is_number, is_text, values_of}
use Rattle.values.specs.Money.{amount_of, currency_of, Among, HasMoney}
use Rattle.values.proofs.PartLaws.{digits_of_lem}
use Rattle.values.proofs.MoneyLaws.{InLine, in-line}
use Rattle.reading.proofs.Outcomes.{belongs-follows}

-- the number of a P field
pub amount-digits : (s : List ℕ) (o : Option ℕ) (n : ℕ) → Fit (figures 15 is_amount 17) s → o ≡ value_of s → n ≡ unwrap_or o 0 → n ≡ number_of s
amount-digits s o n f v is = let w = f.wide in is ∙ ap (λ x. unwrap_or x 0) (v ∙ value-some s (omega arith) (digits_of_lem 15 is_amount 17 s f))

-- an accepted line follows its layout, and has an amount and a currency
pub accepted-follows : (ls : List (List Field)) (line : List ℕ) (j : ℕ) → judged ls line ≡ Ok j → Follows (layout_at ls j) line
accepted-follows ls line j e = belongs-follows ls j line (judged-belongs ls line j e)

pub accepted-money : (ls : List (List Field)) (line : List ℕ) (j : ℕ) → is_lawful ls ≡ true → judged ls line ≡ Ok j → InLine (layout_at ls j) line
accepted-money ls line j law e =
    let b = judged-belongs ls line j e in
    let at = b.at in
    let lawful = lawful-at ls j b.layout (lawful-layouts ls law) at in
    in-line (layout_at ls j) line (ap lawful_layout (ap or_empty at) ∙ lawful) (accepted-follows ls line j e)

pub has-money : (ls : List (List Field)) (line : List ℕ) (j amount : ℕ) (currency : List ℕ) → is_lawful ls ≡ true → judged ls line ≡ Ok j → amount ≡ amount_of (layout_at ls j) line → currency ≡ currency_of (layout_at ls j) line → HasMoney ls line amount currency
has-money ls line j amount currency law e a c =
    let m = accepted-money ls line j law e in
    record {
      number = j;
      accepted = e;
      amount-is = a;
      currency-is = c;
      amount-read = subst (λ n. Among (is_number n) (values_of (layout_at ls j) line)) (sym a) m.amount-read;
      currency-read = subst (λ t. Among (is_text t) (values_of (layout_at ls j) line)) (sym c) m.currency-read;
    }
