-- One turn of the walk over the fields of a line.
use Rattle.std.proofs.Common.{◌≡◌, ℕ, zero, suc, ◌+◌, ◌≤◌, true, false, cond, not, ◌&&◌, eqb, leb, List, [], ◌∷◌, ◌++◌, length, take, drop, Some, None, Option, sym, refl, ap, ◌∙◌, subst, arith, length-append}
use Rattle.std.proofs.lemmas.List.{drop-drop, drop_at, take_at, length-drop}
use Rattle.std.proofs.lemmas.Bool.{and_parts, leb-true}
use Rattle.basics.proofs.ByteLaws.{absurd-none, same_some}
use Rattle.layouts.specs.declared.field.Field.{Field}
use Rattle.layouts.specs.declared.field.Field.TheVariants.{Record, Range, Number, Zeros, Text, FilledText, Blanks, Day, DayOrZero, Amount, Currency, OneOf, Lines, AllOrNoLines}
use Rattle.layouts.specs.Kinds.{Shape, shape}
use Rattle.layouts.specs.Layouts.{place, layout_at, or_empty, letter, figured, later, lawful_layout, is_lawful}
use Rattle.layouts.proofs.Laws.{layout-law, lawful-layouts}
use Rattle.layouts.proofs.Places.{place-zero}
use Rattle.lines.specs.Belongs.{Lawful, Parts, joining, Follows}
use Rattle.lines.proofs.Names.{lawful-at}
use Rattle.values.specs.declared.row.ValueRow.{ValueRow}
use Rattle.values.specs.Values.{extent, cuts}
use Rattle.values.specs.Rows.{field_rows, rows_in, laid}
use Rattle.values.specs.Money.{part_of}
use Rattle.values.proofs.FieldLaws.{extent-is}
use Rattle.reading.specs.Reading.{Narrow}
use Rattle.reading.proofs.RowSteps.{cut-whole, cut-within, laid-append}

-- the figures of a lawful layout's fields are allowed
later-figured : (fs : List Field) (i : ℕ) (f : Field) → later fs ≡ true → place fs i ≡ Some f → figured f ≡ true
later-figured [] i f h e = absurd-none e
later-figured (x ∷ xs) zero f h e = absurd-none e
later-figured (x ∷ xs) (suc zero) f h e =
    let a = and_parts (not (eqb (letter x) 85) && figured x) (later xs) h in
    subst (λ y. figured y ≡ true) (same_some e) (and_parts (not (eqb (letter x) 85)) (figured x) a.0).1
later-figured (x ∷ xs) (suc (suc i)) f h e = later-figured xs (suc i) f (and_parts (not (eqb (letter x) 85) && figured x) (later xs) h).1 e

layout-figured : (l : List Field) (i : ℕ) (f : Field) → lawful_layout l ≡ true → place l i ≡ Some f → figured f ≡ true
layout-figured [] i f h e = absurd-none e
layout-figured (x ∷ xs) zero f h e = absurd-none e
layout-figured (x ∷ xs) (suc zero) f h e = subst (λ y. figured y ≡ true) (same_some e) (layout-law x xs h).figured'
layout-figured (x ∷ xs) (suc (suc i)) f h e = later-figured xs (suc i) f (layout-law x xs h).others e

set-figured : (ls : List (List Field)) (j i : ℕ) (f : Field) (o : Option (List Field)) → is_lawful ls ≡ true → place ls j ≡ o → place (or_empty o) i ≡ Some f → figured f ≡ true
set-figured ls j i f None law at e = absurd-none e
set-figured ls j i f (Some l) law at e = layout-figured l i f (lawful-at ls j l (lawful-layouts ls law) at) e

narrow : (f : Field) → figured f ≡ true → Narrow (shape f)
narrow (Record d) h = tt
narrow (Range low high) h = omega arith
narrow (Number w) h = leb-true w 19 (and_parts (leb 1 w) (leb w 19) h).1
narrow (Zeros w) h = tt
narrow (Text w) h = tt
narrow (FilledText w) h = tt
narrow (Blanks w) h = tt
narrow Day h = omega arith
narrow DayOrZero h = omega arith
narrow Amount h = omega arith
narrow Currency h = tt
narrow (OneOf a b c d) h = tt
narrow (Lines low high) h = tt
narrow (AllOrNoLines n) h = tt

-- all figures are those that their kinds allow
abbrev pub Figured : List Field → Type 0
Figured fs = (i : ℕ) (f : Field) → place fs i ≡ Some f → figured f ≡ true

pub all_figured : (ls : List (List Field)) (j : ℕ) → is_lawful ls ≡ true → Figured (layout_at ls j)
all_figured ls j law i f e = set-figured ls j i f (place ls j) law refl e

pub figured-rest : (f : Field) (fs : List Field) → Figured (f ∷ fs) → Figured fs
figured-rest f fs h zero g e = absurd-none (sym (place-zero fs) ∙ e)
figured-rest f fs h (suc i) g e = h (suc (suc i)) g e

pub narrow_first : (f : Field) (fs : List Field) (x : Shape) → Figured (f ∷ fs) → x ≡ shape f → Narrow x
narrow_first f fs x h is = subst Narrow (sym is) (narrow f (h 1 f refl))

-- a line that follows a layout begins with its first field
record Begun (x : Shape) (fs : List Field) (t : List ℕ) : Type 0 where
  lawful : Lawful x (take (extent x t) t)
  after : Follows fs (drop (extent x t) t)

begun-at : (f : Field) (fs : List Field) (ss : List (List ℕ)) (t : List ℕ) → Parts (f ∷ fs) ss → joining ss ≡ t → Begun (shape f) fs t
begun-at f fs [] t h e = absurd h
begun-at f fs (s ∷ ss) t h e =
    let n : length s ≡ extent (shape f) t = sym (extent-is (shape f) s (joining ss) h.0) ∙ ap (extent (shape f)) e in
    let a : s ≡ take (extent (shape f) t) t = sym (take_at s (joining ss) _ n) ∙ ap (take (extent (shape f) t)) e in
    let b : joining ss ≡ drop (extent (shape f) t) t = sym (drop_at s (joining ss) _ n) ∙ ap (drop (extent (shape f) t)) e in
    record { lawful = subst (Lawful (shape f)) a h.0; after = record { parts = ss; each = h.1; whole = b } }

module _ (f : Field) (fs : List Field) (line : List ℕ) (p : ℕ) (x : Shape) (is : x ≡ shape f) (h : Follows (f ∷ fs) (drop p line)) where
  begun : Begun x fs (drop p line)
  begun = subst (λ y. Begun y fs (drop p line)) (sym is) (begun-at f fs h.parts (drop p line) h.each h.whole)

  pub part-lawful : Lawful x (take (extent x (drop p line)) (drop p line))
  part-lawful = begun.lawful

-- the same with the part that was cut
pub record Turn (f : Field) (fs : List Field) (line : List ℕ) (p : ℕ) (x : Shape) (s : List ℕ) : Type 0 where
  pub lawful : Lawful x s
  pub inside : p + length s ≤ length line
  pub after : Follows fs (drop (p + length s) line)
  pub rows : rows_in (f ∷ fs) p (cuts (f ∷ fs) (drop p line)) ≡ field_rows x p s ++ rows_in fs (p + length s) (cuts fs (drop (p + length s) line))

pub turn : (f : Field) (fs : List Field) (line : List ℕ) (p : ℕ) (x : Shape) (s : List ℕ) → p ≤ length line → x ≡ shape f → Follows (f ∷ fs) (drop p line) → s ≡ take (extent x (drop p line)) (drop p line) → Turn f fs line p x s
turn f fs line p x s le is h cut =
    let t : List ℕ = drop p line in
    let b = begun f fs line p x is h in
    let n : length s ≡ extent x t = ap length cut ∙ cut-whole x t b.lawful in
    let d : drop (extent x t) t ≡ drop (p + length s) line = drop-drop (extent x t) p line ∙ ap (λ k. drop (p + k) line) (sym n) in
    let w = cut-within x t b.lawful in
    let m = length-drop p line in
    record {
      lawful = subst (Lawful x) (sym cut) b.lawful;
      inside = omega arith;
      after = subst (Follows fs) d b.after;
      rows =
          ap (λ y. field_rows y p (take (extent y t) t) ++ rows_in fs (p + length (take (extent y t) t)) (cuts fs (drop (extent y t) t))) (sym is)
          ∙ ap (λ u. field_rows x p u ++ rows_in fs (p + length u) (cuts fs (drop (extent x t) t))) (sym cut)
          ∙ ap (λ u. field_rows x p s ++ rows_in fs (p + length s) (cuts fs u)) d;
    }

-- one field's rows laid
pub laid_more : (old cur new ys zs all : List ValueRow) (u v : ℕ) → all ≡ ys ++ zs → new ≡ laid cur u ys → v ≡ u + length ys → laid cur u all ≡ old → laid new v zs ≡ old
laid_more old cur new ys zs all u v a n e h =
    ap (λ x. laid x v zs) n ∙ ap (λ x. laid (laid cur u ys) x zs) e ∙ sym (laid-append cur u ys zs) ∙ ap (laid cur u) (sym a) ∙ h

pub length-split : (all ys zs : List ValueRow) → all ≡ ys ++ zs → length all ≡ length ys + length zs
length-split all ys zs e = ap length e ∙ length-append ys zs

-- one turn of the search for a part: it is this one, or among what is left
module _ (f : Field) (fs : List Field) (line : List ℕ) (p : ℕ) (x : Shape) (s : List ℕ) (k : ℕ) (is : x ≡ shape f) (h : Follows (f ∷ fs) (drop p line)) (cut : s ≡ take (extent x (drop p line)) (drop p line)) where
  part-turn : part_of k (f ∷ fs) (cuts (f ∷ fs) (drop p line)) ≡ cond (eqb (letter f) k) s (part_of k fs (cuts fs (drop (p + length s) line)))
  part-turn =
      let t : List ℕ = drop p line in
      let n : length s ≡ extent x t = ap length cut ∙ cut-whole x t (part-lawful f fs line p x is h) in
      let d : drop (extent x t) t ≡ drop (p + length s) line = drop-drop (extent x t) p line ∙ ap (λ k. drop (p + k) line) (sym n) in
      ap (λ y. cond (eqb (letter f) k) (take (extent y t) t) (part_of k fs (cuts fs (drop (extent y t) t)))) (sym is)
      ∙ ap (λ u. cond (eqb (letter f) k) u (part_of k fs (cuts fs (drop (extent x t) t)))) (sym cut)
      ∙ ap (λ u. cond (eqb (letter f) k) s (part_of k fs (cuts fs u))) d

  pub part-later : eqb (letter f) k ≡ false → part_of k (f ∷ fs) (cuts (f ∷ fs) (drop p line)) ≡ part_of k fs (cuts fs (drop (p + length s) line))
  part-later t = part-turn ∙ ap (λ b. cond b s (part_of k fs (cuts fs (drop (p + length s) line)))) t
