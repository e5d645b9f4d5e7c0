-- Records of the same digits and values are the same line.
use Rattle.std.proofs.Common.{◌≡◌, ℕ, Bool, true, List, Ok, Decides, refl, ap, subst}
use Rattle.layouts.specs.declared.field.Field.{Field}
use Rattle.layouts.specs.Layouts.{is_lawful, digits_of}
use Rattle.layouts.proofs.Laws.{lawful-layouts}
use Rattle.lines.specs.Judging.{judged}
use Rattle.lines.proofs.Judged.{judged-belongs}
use Rattle.lines.proofs.Names.{headed, lawful-at}
use Rattle.values.specs.Values.{Value, values_of}
use Rattle.values.specs.Records.{IsRecord, SameRecord}
use Rattle.values.proofs.RecordLaws.{values-tell}

module _ (ls : List (List Field)) (line other : List ℕ) where
  -- a line that is accepted is a record
  is-record : is_lawful ls ≡ true → (j : ℕ) → judged ls line ≡ Ok j → (n : ℕ) × ((vs : List Value) × IsRecord ls n vs line)
  is-record law j e =
      let b = judged-belongs ls line j e in
      let l = b.layout in
      let h = headed l (lawful-at ls j l (lawful-layouts ls law) b.at) in
      (h.number, (values_of l line, record { number = j; layout = l; at = b.at; has = ap digits_of h.is; follows = b.follows; values = refl }))

  pub tells-records : is_lawful ls ≡ true → (j : ℕ) → judged ls line ≡ Ok j → (b : Bool) → Decides b (line ≡ other) → Decides b (SameRecord ls line other)
  tells-records law j e b d =
      let r = is-record law j e in (
        λ t. record { digits = r.0; values = r.1.0; one = r.1.1; other = subst (IsRecord ls r.0 r.1.0) (d.0 t) r.1.1 },
        λ s. d.1 (values-tell ls s.digits s.values line other law s.one s.other),
      )
