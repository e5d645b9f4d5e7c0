-- The strips of a lawful set are accepted, and give that set.
use Rattle.std.proofs.Common.{◌≡◌, ℕ, ◌+◌, ◌≤◌, true, false, not, ◌&&◌, eqb, List, [], ◌∷◌, ◌++◌, length, Ok, sym, refl, ap, ◌∙◌, append_assoc, append-nil, arith, length-append}
use Rattle.std.specs.List.{flat_map}
use Rattle.std.proofs.lemmas.Bool.{and_parts, not-true}
use Rattle.std.proofs.lemmas.Bool.Decides.{nat_tests}
use Rattle.std.proofs.lemmas.List.{take_at, drop_at, length_push}
use Rattle.layouts.specs.declared.field.Field.{Field}
use Rattle.layouts.specs.Layouts.{letter, figured, later, digits_of, none_named, lawful_layouts, is_lawful}
use Rattle.layouts.proofs.Laws.{layout-law, layouts-law}
use Rattle.strips.specs.Strips.{body_width, body, strip_of, strips_of}
use Rattle.strips.specs.Loads.{Reading, start, closed, field_from, opened, added, stepped, read_from, read}
use Rattle.strips.proofs.FieldStrips.{kind_for, letter-kind, body-length, body-read-back}
use Rattle.strips.proofs.Sound.{same-sym, none-push}
use Rattle.strips.proofs.Steps.{pass-over}

-- the strips of a field, with more behind them
field-there : (b : ℕ) (f : Field) (t : List ℕ) → figured f ≡ true → field_from b (kind_for f) (body f ++ t) ≡ Ok f
field-there b f t e =
    let l = body-length f in
    grind (arith, nat_tests, length-append (body f) t, take_at (body f) t (body_width (kind_for f)) l, body-read-back f e)

field-step : (p : ℕ) (r : Reading) (f : Field) (t : List ℕ) (q : Reading) → stepped (p + 1) r (letter f) (body f ++ t) ≡ Ok q → read_from 0 p r (strip_of f ++ t) ≡ read_from 0 (p + 1 + body_width (kind_for f)) q t
field-step p r f t q e =
    let w = body_width (kind_for f) in
    let l = body-length f in
    let n = length-append (body f) t in
    let first : read_from 0 p r (strip_of f ++ t) ≡ read_from w (p + 1) q (body f ++ t) = grind (arith, letter-kind f) in
    first ∙ pass-over w (p + 1) q (body f ++ t) (omega arith) ∙ ap (read_from 0 (p + 1 + w) q) (drop_at (body f) t w l)

-- a field behind the first is added
step-field : (b : ℕ) (r : Reading) (f : Field) (t : List ℕ) → eqb (letter f) 85 ≡ false → figured f ≡ true → stepped b r (letter f) (body f ++ t) ≡ Ok (added r f)
step-field b r f t u e = grind (arith, nat_tests, letter-kind f, field-there b f t e)

-- a U closes the open layout and begins the next
step-layout : (b : ℕ) (r : Reading) (f : Field) (t : List ℕ) (ks : List (List Field)) (q : Reading) → letter f ≡ 85 → figured f ≡ true → closed r ≡ Ok ks → opened b ks f ≡ Ok q → stepped b r (letter f) (body f ++ t) ≡ Ok q
step-layout b r f t ks q u e c o = grind (arith, nat_tests, letter-kind f, field-there b f t e)

abbrev grown : Reading → List Field → Reading
grown r fs = record { done = r.done; fields = r.fields ++ fs; from = r.from }

-- reading goes on from another place
record Reaches (p : ℕ) (r : Reading) (s : List ℕ) (q : Reading) (t : List ℕ) : Type 0 where
  pub place : ℕ
  pub is : read_from 0 p r s ≡ read_from 0 place q t

fields-read : (fs : List Field) (p : ℕ) (r : Reading) (t : List ℕ) → later fs ≡ true → Reaches p r (flat_map strip_of fs ++ t) (grown r fs) t
fields-read [] p r t e = record { place = p; is = grind (arith, append-nil r.fields) }
fields-read (f ∷ fs) p r t e =
    let rest = flat_map strip_of fs ++ t in
    let a = and_parts (not (eqb (letter f) 85) && figured f) (later fs) e in
    let b = and_parts (not (eqb (letter f) 85)) (figured f) a.0 in
    let one = step-field (p + 1) r f rest (not-true (eqb (letter f) 85) b.0) b.1 in
    let n = fields-read fs (p + 1 + body_width (kind_for f)) (added r f) t a.1 in
    record {
      place = n.place;
      is =
          ap (read_from 0 p r) (append_assoc (strip_of f) (flat_map strip_of fs) t)
          ∙ field-step p r f rest (added r f) one
          ∙ n.is
          ∙ ap (λ gs. read_from 0 n.place (record { done = r.done; fields = gs; from = r.from }) t) (append_assoc r.fields (f ∷ []) fs);
    }

-- each layout's digits are new where it begins
abbrev New : List (List Field) → List (List Field) → Type 0
New ks [] = Unit {0}
New ks (l ∷ ls) = (none_named (digits_of l) ks ≡ true) × New (ks ++ (l ∷ [])) ls

abbrev Free : List (List Field) → List (List Field) → Type 0
Free ks [] = Unit {0}
Free ks (l ∷ ls) = (none_named (digits_of l) ks ≡ true) × Free ks ls

free-none : (ls : List (List Field)) → Free [] ls
free-none [] = tt
free-none (l ∷ ls) = (refl, free-none ls)

free-push : (ks : List (List Field)) (l : List Field) (ls : List (List Field)) → Free ks ls → none_named (digits_of l) ls ≡ true → Free (ks ++ (l ∷ [])) ls
free-push ks l [] h e = tt
free-push ks l (m ∷ ms) h e =
    (grind (arith, nat_tests, h.0, none-push (digits_of m) ks l, same-sym (digits_of m) (digits_of l)), free-push ks l ms h.1 (grind (arith, nat_tests)))

new-all : (ks ls : List (List Field)) → lawful_layouts ls ≡ true → Free ks ls → New ks ls
new-all ks [] e h = tt
new-all ks (l ∷ ls) e h =
    let p = layouts-law l ls e in (h.0, new-all (ks ++ (l ∷ [])) ls p.rest (free-push ks l ls h.1 p.alone))

layouts-read : (ls : List (List Field)) (p : ℕ) (r : Reading) (ks : List (List Field)) → closed r ≡ Ok ks → lawful_layouts ls ≡ true → New ks ls → length ks + length ls ≤ 8 → read_from 0 p r (strips_of ls) ≡ Ok (ks ++ ls)
layouts-read [] p r ks c e n h = c ∙ ap Ok (sym (append-nil ks))
layouts-read ([] ∷ ls) p r ks c e n h = grind (arith, nat_tests)
layouts-read ((f ∷ fs) ∷ ls) p r ks c e n h =
    let l = f ∷ fs in
    let a = layouts-law l ls e in
    let b = layout-law f fs a.lawful in
    let q : Reading = record { done = ks; fields = f ∷ []; from = p + 1 } in
    let more = flat_map strip_of fs ++ strips_of ls in
    let next : opened (p + 1) ks f ≡ Ok q = grind (arith, nat_tests, n.0) in
    let one = step-layout (p + 1) r f more ks q (grind (arith, nat_tests, b.named)) b.figured' c next in
    let g = fields-read fs (p + 1 + body_width (kind_for f)) q (strips_of ls) b.others in
    let k = length_push ks l in
    let z = layouts-read ls g.place (grown q fs) (ks ++ (l ∷ [])) (grind (arith, a.lawful)) a.rest n.1 (omega arith) in
    ap (read_from 0 p r) (append_assoc (strip_of f) (flat_map strip_of fs) (strips_of ls))
    ∙ field-step p r f more q one
    ∙ g.is
    ∙ z
    ∙ ap Ok (append_assoc ks (l ∷ []) ls)

pub writes-read : (ls : List (List Field)) → is_lawful ls ≡ true → read (strips_of ls) ≡ Ok ls
writes-read [] e = grind (arith, nat_tests)
writes-read ([] ∷ ls) e = grind (arith, nat_tests)
writes-read ((f ∷ fs) ∷ ls) e =
    let all = (f ∷ fs) ∷ ls in
    let each : lawful_layouts all ≡ true = grind (arith, nat_tests) in
    let few : 0 + length all ≤ 8 = grind (arith, nat_tests) in
    grind (arith, nat_tests, layouts-read all 0 start [] refl each (new-all [] all each (free-none all)) few)

-- no two lawful sets have the same strips
pub strips-apart : (ls ks : List (List Field)) → is_lawful ls ≡ true → is_lawful ks ≡ true → strips_of ls ≡ strips_of ks → ls ≡ ks
strips-apart ls ks a b e =
    let h : ◌≡◌ (Ok ls) (Ok ks) = sym (writes-read ls a) ∙ ap read e ∙ writes-read ks b in cc
