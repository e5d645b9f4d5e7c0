-- What the law of a layout set says of its layouts.
use Rattle.std.proofs.Common.{◌≡◌, ℕ, zero, suc, ◌≤◌, true, ◌&&◌, eqb, leb, List, [], ◌∷◌, length, arith}
use Rattle.std.proofs.lemmas.Bool.{and_parts, leb-true}
use Rattle.layouts.specs.declared.field.Field.{Field}
use Rattle.layouts.specs.Layouts.{layout_at, letter, figured, later, times, full_width, lawful_layout, digits_of, none_named, lawful_layouts, is_lawful}

-- the parts of a layout's law
pub record Layout (f : Field) (fs : List Field) : Type 0 where
  pub named : eqb (letter f) 85 ≡ true
  pub figured' : figured f ≡ true
  pub others : later fs ≡ true
  pub few : length (f ∷ fs) ≤ 64
  pub narrow : full_width (f ∷ fs) ≤ 2400

pub layout-law : (f : Field) (fs : List Field) → lawful_layout (f ∷ fs) ≡ true → Layout f fs
layout-law f fs e =
    let u = eqb (letter f) 85 in
    let a = and_parts (u && figured f && later fs && eqb (times 80 fs) 1 && eqb (times 86 fs) 1 && leb (length (f ∷ fs)) 64) (leb (full_width (f ∷ fs)) 2400) e in
    let b = and_parts (u && figured f && later fs && eqb (times 80 fs) 1 && eqb (times 86 fs) 1) (leb (length (f ∷ fs)) 64) a.0 in
    let v = and_parts (u && figured f && later fs && eqb (times 80 fs) 1) (eqb (times 86 fs) 1) b.0 in
    let p = and_parts (u && figured f && later fs) (eqb (times 80 fs) 1) v.0 in
    let c = and_parts (u && figured f) (later fs) p.0 in
    let d = and_parts u (figured f) c.0 in
    record {
      named = d.0;
      figured' = d.1;
      others = c.1;
      few = leb-true (length (f ∷ fs)) 64 b.1;
      narrow = leb-true (full_width (f ∷ fs)) 2400 a.1;
    }

fields-of : (l : List Field) → lawful_layout l ≡ true → length l ≤ 64
fields-of [] e = omega arith
fields-of (f ∷ fs) e = (layout-law f fs e).few

-- the parts of a set's law
pub record First (l : List Field) (ls : List (List Field)) : Type 0 where
  pub lawful : lawful_layout l ≡ true
  pub alone : none_named (digits_of l) ls ≡ true
  pub rest : lawful_layouts ls ≡ true

pub layouts-law : (l : List Field) (ls : List (List Field)) → lawful_layouts (l ∷ ls) ≡ true → First l ls
layouts-law l ls e =
    let a = and_parts (lawful_layout l && none_named (digits_of l) ls) (lawful_layouts ls) e in
    let b = and_parts (lawful_layout l) (none_named (digits_of l) ls) a.0 in
    record { lawful = b.0; alone = b.1; rest = a.1 }

few-fields : (ls : List (List Field)) (j : ℕ) → lawful_layouts ls ≡ true → length (layout_at ls j) ≤ 64
few-fields [] j e = omega arith
few-fields (l ∷ ls) zero e = omega arith
few-fields (l ∷ ls) (suc zero) e = fields-of l (layouts-law l ls e).lawful
few-fields (l ∷ ls) (suc (suc j)) e = few-fields ls (suc j) (layouts-law l ls e).rest

pub lawful-layouts : (ls : List (List Field)) → is_lawful ls ≡ true → lawful_layouts ls ≡ true
lawful-layouts ls e = (and_parts (leb 1 (length ls) && leb (length ls) 8) (lawful_layouts ls) e).1

pub lawful-fields : (ls : List (List Field)) (j : ℕ) → is_lawful ls ≡ true → length (layout_at ls j) ≤ 64
lawful-fields ls j e = few-fields ls j (lawful-layouts ls e)
