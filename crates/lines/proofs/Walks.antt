-- One turn of the walk over the fields, and of the look for the layout.
use Rattle.std.proofs.Common.{◌≡◌, ℕ, ◌+◌, ◌-◌, ◌<◌, ◌≤◌, Bool, cond, List, [], ◌∷◌, length, get_or, drop, Some, None, sym, refl, ap, ◌∙◌, add-one, arith}
use Rattle.std.proofs.lemmas.List.{drop_more, drop_all}
use Rattle.layouts.specs.declared.field.Field.{Field}
use Rattle.layouts.specs.Layouts.{place, or_empty, field_at, digits_of, same_number}
use Rattle.layouts.proofs.Places.{place_at}
use Rattle.lines.specs.Judging.{record_at, found}

pub digits-first : (l : List Field) → digits_of l ≡ record_at (place l 1)
digits-first [] = refl
digits-first (f ∷ fs) = refl

module _ (ls : List (List Field)) (n k : ℕ) where
  first-digits : k < length ls → digits_of (get_or ls k []) ≡ record_at (field_at ls (k + 1) 1)
  first-digits h =
      digits-first (get_or ls k []) ∙ ap (λ o. record_at (place (or_empty o) 1)) (sym (ap (place ls) (add-one k) ∙ place_at ls k [] h))

  look : k < length ls → found (drop k ls) (k + 1) n ≡ cond (same_number (Some n) (record_at (field_at ls (k + 1) 1))) (Some (k + 1)) (found (drop (k + 1) ls) (k + 1 + 1) n)
  look h =
      ap (λ t. found t (k + 1) n) (drop_more ls k [] h)
      ∙ ap (λ o. cond (same_number (Some n) o) (Some (k + 1)) (found (drop (k + 1) ls) (k + 1 + 1) n)) (first-digits h)

-- the same, counted from 1
module _ (ls : List (List Field)) (n j : ℕ) (one : 1 ≤ j) where
  pub found_turn : j ≤ length ls → (t : Bool) → same_number (Some n) (record_at (field_at ls j 1)) ≡ t → found (drop (j - 1) ls) j n ≡ cond t (Some j) (found (drop (j + 1 - 1) ls) (j + 1) n)
  found_turn h t e =
      let to : j - 1 + 1 ≡ j = omega arith in
      let on : j - 1 + 1 ≡ j + 1 - 1 = omega arith in
      ap (λ m. found (drop (j - 1) ls) m n) (sym to)
      ∙ look ls n (j - 1) (omega arith)
      ∙ ap (λ m. cond (same_number (Some n) (record_at (field_at ls m 1))) (Some m) (found (drop (j - 1 + 1) ls) (m + 1) n)) to
      ∙ ap (λ m. cond (same_number (Some n) (record_at (field_at ls j 1))) (Some j) (found (drop m ls) (j + 1) n)) on
      ∙ ap (λ b. cond b (Some j) (found (drop (j + 1 - 1) ls) (j + 1) n)) e

  pub found-past : length ls < j → found (drop (j - 1) ls) j n ≡ None
  found-past h = ap (λ t. found t j n) (drop_all (j - 1) ls (omega arith))
