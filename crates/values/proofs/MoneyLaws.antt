-- A record's amount and currency: they stand in the one field of their kind, keep its rule, and are read from there.
use Rattle.std.proofs.Common.{◌≡◌, ℕ, ◌+◌, ◌≤◌, true, false, cond, ◌&&◌, eqb, leb, List, [], ◌∷◌, ◌++◌, length, sym, refl, ap, ◌∙◌, subst, append_assoc, arith}
use borrow.Author.Tests.{clash}
use Rattle.std.proofs.lemmas.Bool.{and_parts, and_from, leb-true, eqb-true, eq-eqb, ne_eqb}
use Rattle.basics.specs.declared.bytes.ByteClass.TheVariants as class
use Rattle.basics.specs.Bytes.{allowed, all}
use Rattle.basics.specs.Decimals.{number_of}
use Rattle.basics.specs.Money.{is_amount, is_currency}
use Rattle.basics.specs.Texts.{front, trim}
use Rattle.basics.proofs.ByteLaws.{at_all}
use Rattle.layouts.specs.declared.field.Field.{Field}
use Rattle.layouts.specs.declared.field.Field.TheVariants.{Record, Range, Number, Zeros, Text, FilledText, Blanks, Day, DayOrZero, Amount, Currency, OneOf, Lines, AllOrNoLines}
use Rattle.layouts.specs.Kinds.{shape, figures}
use Rattle.layouts.specs.Layouts.{letter, later, figured, times, full_width, lawful_layout}
use Rattle.lines.specs.Belongs.{Fit, Writes, Parts, Follows}
use Rattle.values.specs.Values.{Value, is_number, is_text, cuts, field_values, values_in, values_of}
use Rattle.values.specs.Money.{part_of, amount_of, currency_of, Among}
use Rattle.values.proofs.RecordLaws.{cut-follows}

-- a field of the kind, and its part; what it gives is among the values
record Sought (k : ℕ) (fs : List Field) (ss : List (List ℕ)) : Type 0 where
  pub field : Field
  pub kind : eqb (letter field) k ≡ true
  pub writes : Writes field (part_of k fs ss)
  pub before : List Value
  pub after : List Value
  pub values : values_in fs ss ≡ before ++ (field_values (shape field) (part_of k fs ss) ++ after)

sought : (k : ℕ) (fs : List Field) (ss : List (List ℕ)) → 1 ≤ times k fs → Parts fs ss → Sought k fs ss
sought k [] ss h p = absurd (omega arith)
sought k (f ∷ fs) [] h p = absurd p
sought k (f ∷ fs) (s ∷ ss) h p =
    elim (eqb (letter f) k) as (λ t. eqb (letter f) k ≡ t → 1 ≤ cond t 1 0 + times k fs → Sought k (f ∷ fs) (s ∷ ss)) [
      | true ↦ λ t m.
          let e : part_of k (f ∷ fs) (s ∷ ss) ≡ s = ap (λ b. cond b s (part_of k fs ss)) t in
          record {
            field = f;
            kind = t;
            writes = subst (Writes f) (sym e) p.0;
            before = [];
            after = values_in fs ss;
            values = ap (λ x. field_values (shape f) x ++ values_in fs ss) (sym e);
          }
      | false ↦ λ t m.
          let r = sought k fs ss (omega arith) p.1 in
          let e : part_of k (f ∷ fs) (s ∷ ss) ≡ part_of k fs ss = ap (λ b. cond b s (part_of k fs ss)) t in
          record {
            field = r.field;
            kind = r.kind;
            writes = subst (Writes r.field) (sym e) r.writes;
            before = field_values (shape f) s ++ r.before;
            after = r.after;
            values =
                ap (λ x. field_values (shape f) s ++ x) r.values
                ∙ sym (append_assoc (field_values (shape f) s) r.before (field_values (shape r.field) (part_of k fs ss) ++ r.after))
                ∙ ap (λ x. (field_values (shape f) s ++ r.before) ++ (field_values (shape r.field) x ++ r.after)) (sym e);
          }
    ]
    refl h

is-amount : (f : Field) → eqb (letter f) 80 ≡ true → f ≡ Amount
is-amount (Record d) e = absurd (clash e)
is-amount (Range a b) e = absurd (clash e)
is-amount (Number w) e = absurd (clash e)
is-amount (Zeros w) e = absurd (clash e)
is-amount (Text w) e = absurd (clash e)
is-amount (FilledText w) e = absurd (clash e)
is-amount (Blanks w) e = absurd (clash e)
is-amount Day e = absurd (clash e)
is-amount DayOrZero e = absurd (clash e)
is-amount Amount e = refl
is-amount Currency e = absurd (clash e)
is-amount (OneOf a b c d) e = absurd (clash e)
is-amount (Lines a b) e = absurd (clash e)
is-amount (AllOrNoLines n) e = absurd (clash e)

is-currency : (f : Field) → eqb (letter f) 86 ≡ true → f ≡ Currency
is-currency (Record d) e = absurd (clash e)
is-currency (Range a b) e = absurd (clash e)
is-currency (Number w) e = absurd (clash e)
is-currency (Zeros w) e = absurd (clash e)
is-currency (Text w) e = absurd (clash e)
is-currency (FilledText w) e = absurd (clash e)
is-currency (Blanks w) e = absurd (clash e)
is-currency Day e = absurd (clash e)
is-currency DayOrZero e = absurd (clash e)
is-currency Amount e = absurd (clash e)
is-currency Currency e = refl
is-currency (OneOf a b c d) e = absurd (clash e)
is-currency (Lines a b) e = absurd (clash e)
is-currency (AllOrNoLines n) e = absurd (clash e)

-- a lawful layout has one field of each
record Once (l : List Field) : Type 0 where
  pub amount : 1 ≤ times 80 l
  pub currency : 1 ≤ times 86 l

once : (l : List Field) → lawful_layout l ≡ true → Once l
once [] e = absurd (clash e)
once (f ∷ fs) e =
    let u = eqb (letter f) 85 in
    let a = and_parts (u && figured f && later fs && eqb (times 80 fs) 1 && eqb (times 86 fs) 1 && leb (length (f ∷ fs)) 64) (leb (full_width (f ∷ fs)) 2400) e in
    let b = and_parts (u && figured f && later fs && eqb (times 80 fs) 1 && eqb (times 86 fs) 1) (leb (length (f ∷ fs)) 64) a.0 in
    let v = and_parts (u && figured f && later fs && eqb (times 80 fs) 1) (eqb (times 86 fs) 1) b.0 in
    let p = and_parts (u && figured f && later fs) (eqb (times 80 fs) 1) v.0 in
    let x = eqb-true (times 80 fs) 1 p.1 in
    let y = eqb-true (times 86 fs) 1 v.1 in
    record { amount = omega arith; currency = omega arith }

-- what stands in the P field, and in the V field
pub record InLine (l : List Field) (line : List ℕ) : Type 0 where
  pub amount : is_amount (amount_of l line) ≡ true
  pub digits : Fit (figures 15 is_amount 17) (part_of 80 l (cuts l line))
  pub currency : is_currency (currency_of l line) ≡ true
  pub amount-read : Among (is_number (amount_of l line)) (values_of l line)
  pub currency-read : Among (is_text (currency_of l line)) (values_of l line)

amount-at : (l : List Field) (ss : List (List ℕ)) → Sought 80 l ss → Fit (figures 15 is_amount 17) (part_of 80 l ss) × Among (is_number (number_of (part_of 80 l ss))) (values_in l ss)
amount-at l ss r =
    let is = is-amount r.field r.kind in
    let s = part_of 80 l ss in (
      subst (λ f. Writes f s) is r.writes,
      record { before = r.before; after = r.after; whole = r.values ∙ ap (λ f. r.before ++ (field_values (shape f) s ++ r.after)) is },
    )

-- three capitals have no blank behind them
whole : (b : ℕ) (bs : List ℕ) → 65 ≤ b → front b bs ≡ b ∷ bs
whole b [] l = ap (λ t. cond t [] (b ∷ [])) (ne_eqb b 32 (λ e. omega arith))
whole b (x ∷ xs) l = refl

trim-capitals : (s : List ℕ) → all (allowed class.Capital) s ≡ true → trim s ≡ s
trim-capitals [] e = refl
trim-capitals (b ∷ bs) e =
    let p = and_parts (allowed class.Capital b) (all (allowed class.Capital) bs) e in
    let l = leb-true 65 b (and_parts (leb 65 b) (leb b 90) p.0).0 in
    ap (front b) (trim-capitals bs p.1) ∙ whole b bs (omega arith)

currency-at : (l : List Field) (ss : List (List ℕ)) → Sought 86 l ss → (is_currency (part_of 86 l ss) ≡ true) × Among (is_text (part_of 86 l ss)) (values_in l ss)
currency-at l ss r =
    let is = is-currency r.field r.kind in
    let s = part_of 86 l ss in
    let fit = subst (λ f. Writes f s) is r.writes in
    let w = fit.wide in
    let capitals = at_all (allowed class.Capital) s (λ j h. fit.clean j (omega arith)) in (
      and_from (eqb (length s) 3) (all (allowed class.Capital) s) (eq-eqb (length s) 3 w) capitals,
      record {
        before = r.before;
        after = r.after;
        whole = r.values ∙ ap (λ f. r.before ++ (field_values (shape f) s ++ r.after)) is ∙ ap (λ t. r.before ++ (is_text t ∷ r.after)) (trim-capitals s capitals);
      },
    )

pub in-line : (l : List Field) (line : List ℕ) → lawful_layout l ≡ true → Follows l line → InLine l line
in-line l line law h =
    let ss = cuts l line in
    let parts : Parts l ss = subst (Parts l) (sym (cut-follows l line h)) h.each in
    let o = once l law in
    let a = amount-at l ss (sought 80 l ss o.amount parts) in
    let c = currency-at l ss (sought 86 l ss o.currency parts) in
    record { amount = a.0.value; digits = a.0; currency = c.0; amount-read = a.1; currency-read = c.1 }
