-- The layout that a line names is the only one of its digits.
use Rattle.std.proofs.Common.{◌≡◌, ℕ, zero, suc, ◌+◌, ◌-◌, ◌<◌, ◌≤◌, Bool, true, false, cond, not, ◌&&◌, leb, List, [], ◌∷◌, length, take, drop, Some, None, Option, sym, refl, ap, ◌∙◌, subst, add-zero, arith, length-drop}
use borrow.Author.Tests.{clash}
use Rattle.std.proofs.lemmas.List.{length-take-le}
use Rattle.std.proofs.lemmas.Bool.{and_parts, eqb-true, eq-eqb, ltb-true, not-true}
use Rattle.basics.specs.declared.bytes.ByteClass.TheVariants.{Digit}
use Rattle.basics.specs.Bytes.{allowed, all}
use Rattle.basics.specs.Decimals.{number_of, value_of, digits}
use Rattle.basics.proofs.ByteLaws.{absurd-none, same_some}
use Rattle.basics.proofs.DigitLaws.{digits_are, length_digits, number-back, digits-back, value-some}
use Rattle.layouts.specs.declared.field.Field.{Field}
use Rattle.layouts.specs.declared.field.Field.TheVariants.{Record, Range, Number, Zeros, Text, FilledText, Blanks, Day, DayOrZero, Amount, Currency, OneOf, Lines, AllOrNoLines}
use Rattle.layouts.specs.Layouts.{place, lawful_layouts, lawful_layout, none_named, digits_of, same_number}
use Rattle.layouts.proofs.Laws.{layouts-law, layout-law}
use Rattle.lines.specs.Judging.{found, found_by, named}
use Rattle.lines.specs.Refuses.{Named}

-- a lawful layout begins with its name
pub record Headed (l : List Field) : Type 0 where
  pub number : ℕ
  pub few : number < 100000
  pub fields : List Field
  pub is : l ≡ Record number ∷ fields

unnamed : {B : Type 0} → false ≡ true → B
unnamed e = absurd (clash e)

pub headed : (l : List Field) → lawful_layout l ≡ true → Headed l
headed [] e = unnamed e
headed (Record d ∷ fs) e = record { number = d; few = ltb-true d 100000 (layout-law (Record d) fs e).figured'; fields = fs; is = refl }
headed (Range a b ∷ fs) e = unnamed e
headed (Number w ∷ fs) e = unnamed e
headed (Zeros w ∷ fs) e = unnamed e
headed (Text w ∷ fs) e = unnamed e
headed (FilledText w ∷ fs) e = unnamed e
headed (Blanks w ∷ fs) e = unnamed e
headed (Day ∷ fs) e = unnamed e
headed (DayOrZero ∷ fs) e = unnamed e
headed (Amount ∷ fs) e = unnamed e
headed (Currency ∷ fs) e = unnamed e
headed (OneOf a b c d ∷ fs) e = unnamed e
headed (Lines a b ∷ fs) e = unnamed e
headed (AllOrNoLines n ∷ fs) e = unnamed e

pub lawful-at : (ls : List (List Field)) (j : ℕ) (l : List Field) → lawful_layouts ls ≡ true → place ls j ≡ Some l → lawful_layout l ≡ true
lawful-at [] j l ok at = absurd-none at
lawful-at (k ∷ ls) zero l ok at = absurd-none at
lawful-at (k ∷ ls) (suc zero) l ok at = subst (λ t. lawful_layout t ≡ true) (same_some at) (layouts-law k ls ok).lawful
lawful-at (k ∷ ls) (suc (suc j)) l ok at = lawful-at ls (suc j) l (layouts-law k ls ok).rest at

pub positive : (ls : List (List Field)) (j : ℕ) (l : List Field) → place ls j ≡ Some l → 1 ≤ j
positive [] j l at = absurd-none at
positive (k ∷ ls) zero l at = absurd-none at
positive (k ∷ ls) (suc j) l at = omega arith

-- five digits show a number exactly if they are its digits
pub value-shown : (s : List ℕ) (n : ℕ) → length s ≡ 5 → value_of s ≡ Some n → s ≡ digits 5 n
value-shown s n five e =
    elim (leb (length s) 19 && all (allowed Digit) s) as (λ t. (leb (length s) 19 && all (allowed Digit) s) ≡ t → cond t (Some (number_of s)) None ≡ Some n → s ≡ digits 5 n) [
      | true ↦ λ t h.
          let parts = and_parts (leb (length s) 19) (all (allowed Digit) s) t in
          let is : number_of s ≡ n = same_some h in
          sym (digits-back s parts.1) ∙ ap (λ w. digits w (number_of s)) five ∙ ap (digits 5) is
      | false ↦ λ t h. absurd-none h
    ]
    refl e

pub shown-value : (s : List ℕ) (n : ℕ) → n < 100000 → s ≡ digits 5 n → value_of s ≡ Some n
shown-value s n few e =
    let five = length_digits 5 n in
    ap value_of e ∙ value-some (digits 5 n) (omega arith) (digits_are 5 n) ∙ ap Some (number-back 5 n few)

-- a layout whose digits no later one has is not the one that a later one's digits find
other : (d : ℕ) (ls : List (List Field)) (j : ℕ) (l : List Field) (b : ℕ) → none_named (Some d) ls ≡ true → place ls j ≡ Some l → digits_of l ≡ Some b → d ≡ b → ⊥
other d [] j l b none at is e = absurd-none at
other d (k ∷ ls) zero l b none at is e = absurd-none at
other d (k ∷ ls) (suc zero) l b none at is e =
    let apart = not-true (same_number (Some d) (digits_of k)) (and_parts (not (same_number (Some d) (digits_of k))) (none_named (Some d) ls) none).0 in
    clash (sym apart ∙ ap (λ o. same_number (Some d) o) (ap digits_of (same_some at) ∙ is) ∙ eq-eqb d b e)
other d (k ∷ ls) (suc (suc j)) l b none at is e = other d ls (suc j) l b (and_parts (not (same_number (Some d) (digits_of k))) (none_named (Some d) ls) none).1 at is e

fails : (b : Bool) → (b ≡ true → ⊥) → b ≡ false
fails true h = absurd (h refl)
fails false h = refl

-- the layout at place j is the first that has its digits
pub found_at : (ls : List (List Field)) (j i : ℕ) (l : List Field) (b : ℕ) → lawful_layouts ls ≡ true → place ls j ≡ Some l → digits_of l ≡ Some b → found ls i b ≡ Some (i + (j - 1))
found_at [] j i l b ok at is = absurd-none at
found_at (k ∷ ls) zero i l b ok at is = absurd-none at
found_at (k ∷ ls) (suc zero) i l b ok at is =
    ap (λ t. cond t (Some i) (found ls (i + 1) b)) (ap (λ o. same_number (Some b) o) (ap digits_of (same_some at) ∙ is) ∙ eq-eqb b b refl) ∙ ap Some (sym (add-zero i))
found_at (k ∷ ls) (suc (suc j)) i l b ok at is =
    let law = layouts-law k ls ok in
    let h = headed k law.lawful in
    let d = h.number in
    let has : digits_of k ≡ Some d = ap digits_of h.is in
    let none = subst (λ o. none_named o ls ≡ true) has law.alone in
    let no = fails (same_number (Some b) (digits_of k)) (λ t. other d ls (suc j) l b none at is (sym (eqb-true b d (ap (λ o. same_number (Some b) o) (sym has) ∙ t)))) in
    let to : i + 1 + (suc j - 1) ≡ i + (suc (suc j) - 1) = omega arith in
    ap (λ t. cond t (Some i) (found ls (i + 1) b)) no ∙ found_at ls (suc j) (i + 1) l b law.rest at is ∙ ap Some to

-- what is found has the digits
pub record FoundAt (ls : List (List Field)) (i n m : ℕ) : Type 0 where
  pub far : ℕ
  pub is : m ≡ i + far
  pub layout : List Field
  pub at : place ls (suc far) ≡ Some layout
  pub has : digits_of layout ≡ Some n

same_digits : (n : ℕ) (o : Option ℕ) → same_number (Some n) o ≡ true → o ≡ Some n
same_digits n None e = absurd (clash e)
same_digits n (Some m) e = ap Some (sym (eqb-true n m e))

pub found-has : (ls : List (List Field)) (i n m : ℕ) → found ls i n ≡ Some m → FoundAt ls i n m
found-has [] i n m e = absurd-none e
found-has (l ∷ ls) i n m e =
    elim (same_number (Some n) (digits_of l)) as (λ t. same_number (Some n) (digits_of l) ≡ t → cond t (Some i) (found ls (i + 1) n) ≡ Some m → FoundAt (l ∷ ls) i n m) [
      | true ↦ λ t h. let s : i ≡ m = same_some h in record { far = 0; is = omega arith; layout = l; at = refl; has = same_digits n (digits_of l) t }
      | false ↦ λ t h.
          let r = found-has ls (i + 1) n m h in
          record { far = suc r.far; is = let q = r.is in omega arith; layout = r.layout; at = r.at; has = r.has }
    ]
    refl e

pub five-bytes : (line : List ℕ) → 8 ≤ length line → length (take 5 (drop 3 line)) ≡ 5
five-bytes line h = length-take-le 5 (drop 3 line) (let d = length-drop 3 line in omega arith)

-- what a line names, and back
pub record NamedAt (ls : List (List Field)) (line : List ℕ) (m : ℕ) : Type 0 where
  pub layout : List Field
  pub at : place ls m ≡ Some layout
  pub named' : Named layout line

pub named-at : (ls : List (List Field)) (line : List ℕ) (m : ℕ) → 8 ≤ length line → named ls line ≡ Some m → NamedAt ls line m
named-at ls line m long e =
    elim (value_of (take 5 (drop 3 line))) as (λ o. value_of (take 5 (drop 3 line)) ≡ o → found_by ls o ≡ Some m → NamedAt ls line m) [
      | None ↦ λ v h. absurd-none h
      | Some n ↦ λ v h.
          let r = found-has ls 1 n m h in
          let to : suc r.far ≡ m = let q = r.is in omega arith in
          record {
            layout = r.layout;
            at = ap (place ls) (sym to) ∙ r.at;
            named' = record { number = n; has = r.has; shown = value-shown (take 5 (drop 3 line)) n (five-bytes line long) v };
          }
    ]
    refl e

pub at_named : (ls : List (List Field)) (line : List ℕ) (j : ℕ) (l : List Field) → lawful_layouts ls ≡ true → place ls j ≡ Some l → Named l line → named ls line ≡ Some j
at_named ls line j l ok at n =
    let h = headed l (lawful-at ls j l ok at) in
    let same : h.number ≡ n.number = same_some (sym (ap digits_of h.is) ∙ n.has) in
    let one = positive ls j l at in
    let to : 1 + (j - 1) ≡ j = omega arith in
    ap (found_by ls) (shown-value (take 5 (drop 3 line)) n.number (subst (λ x. x < 100000) same h.few) n.shown) ∙ found_at ls j 1 l n.number ok at n.has ∙ ap Some to

-- no layout is named
pub named_none : (ls : List (List Field)) (line : List ℕ) → lawful_layouts ls ≡ true → named ls line ≡ None → (j : ℕ) (l : List Field) → place ls j ≡ Some l → Named l line → ⊥
named_none ls line ok e j l at n = absurd-none (sym e ∙ at_named ls line j l ok at n)

pub none_named_lem : (ls : List (List Field)) (line : List ℕ) → 8 ≤ length line → ((j : ℕ) (l : List Field) → place ls j ≡ Some l → Named l line → ⊥) → named ls line ≡ None
none_named_lem ls line long h =
    elim (named ls line) as (λ o. named ls line ≡ o → o ≡ None) [ None ↦ λ e. refl | Some m ↦ λ e. let r = named-at ls line m long e in absurd (h m r.layout r.at r.named') ] refl
