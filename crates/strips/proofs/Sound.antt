-- What is accepted is a lawful set, and the strips are its writing.
use Rattle.std.proofs.Common.{◌≡◌, ℕ, zero, suc, ◌+◌, ◌<◌, ◌≤◌, true, false, eqb, List, [], ◌∷◌, ◌++◌, length, take, drop, Some, Ok, Option, sym, refl, ap, ◌∙◌, subst, append_assoc, append-nil, arith}
use Rattle.std.specs.List.{flat_map}
use Rattle.std.proofs.lemmas.Bool.Decides.{nat_tests}
use Rattle.std.proofs.lemmas.List.{length_push, length-take-le, take-append-drop, flat_map_more}
use Rattle.layouts.specs.declared.field.Field.{Field}
use Rattle.layouts.specs.Layouts.{digits_of, same_number, none_named, lawful_layout, lawful_layouts, is_lawful}
use Rattle.strips.specs.declared.kind.Kind.{Kind}
use Rattle.strips.specs.declared.kind.Kind.TheVariants.{Record}
use Rattle.strips.specs.Strips.{kind_of, body_width, strip_of, strips_of}
use Rattle.strips.specs.Sets.{Writes}
use Rattle.strips.specs.Loads.{Reading, and_then, at, start, closed, field_from, opened, added, next_layout, next_field, stepped, width_of, read_from, read}
use Rattle.std.specs.Option.{ok_or}
use Rattle.strips.proofs.FieldStrips.{letter_of, kind-letter, field-strip}
use Rattle.strips.proofs.Steps.{followed}

pub same-sym : (a b : Option ℕ) → same_number a b ≡ same_number b a
same-sym a b = grind (arith, nat_tests)

pub none-push : (o : Option ℕ) (ls : List (List Field)) (l : List Field) → none_named o ls ≡ true → same_number o (digits_of l) ≡ false → none_named o (ls ++ (l ∷ [])) ≡ true
none-push o [] l h e = grind (arith, nat_tests)
none-push o (m ∷ ms) l h e = grind (arith, nat_tests, none-push o ms l)

-- one lawful layout more, whose digits are new
lawful-push : (ls : List (List Field)) (l : List Field) → lawful_layouts ls ≡ true → lawful_layout l ≡ true → none_named (digits_of l) ls ≡ true → lawful_layouts (ls ++ (l ∷ [])) ≡ true
lawful-push [] l h a n = grind (arith, nat_tests)
lawful-push (m ∷ ms) l h a n =
    grind (arith, nat_tests, lawful-push ms l, none-push (digits_of m) ms l, same-sym (digits_of m) (digits_of l))

-- the strips of what is read so far
abbrev pub written : Reading → List ℕ
written r = flat_map (flat_map strip_of) r.done ++ flat_map strip_of r.fields

record Sound (r : Reading) : Type 0 where
  pub lawful : lawful_layouts r.done ≡ true
  pub few : length r.done < 8
  pub some : 0 < length r.fields
  pub alone : none_named (digits_of r.fields) r.done ≡ true

-- the open layout is finished
record Closed (r : Reading) (ks : List (List Field)) : Type 0 where
  pub all : is_lawful ks ≡ true
  pub strips : strips_of ks ≡ written r

closed-sound : (r : Reading) (ks : List (List Field)) → Sound r → closed r ≡ Ok ks → Closed r ks
closed-sound r ks g e =
    let is : r.done ++ (r.fields ∷ []) ≡ ks = grind (arith, nat_tests, g.some) in
    record {
      all = grind (arith, nat_tests, lawful-push r.done r.fields, length_push r.done r.fields, g.lawful, g.few, g.some, g.alone);
      strips = ap strips_of (sym is) ∙ sym (flat_map_more (flat_map strip_of) [] r.done r.fields);
    }

-- one step keeps to it, and adds the strip of one field, which is the letter k with its body
record Step (was : List ℕ) (k : ℕ) (s : List ℕ) (q : Reading) : Type 0 where
  pub sound : Sound q
  pub strips : written q ≡ was ++ (k ∷ take (width_of (kind_of k)) s)

-- the field that is read is what stands there
body-of : (b : ℕ) (q : Kind) (s : List ℕ) (f : Field) → field_from b q s ≡ Ok f → strip_of f ≡ letter_of q ∷ take (body_width q) s
body-of b q s f e =
    let there : body_width q ≤ length s = grind (arith, nat_tests) in
    field-strip q (take (body_width q) s) f (length-take-le (body_width q) s there) (grind (arith, nat_tests))

field-strip-of : (b : ℕ) (k : ℕ) (q : Kind) (s : List ℕ) (f : Field) → kind_of k ≡ Some q → field_from b q s ≡ Ok f → strip_of f ≡ k ∷ take (width_of (kind_of k)) s
field-strip-of b k q s f h e =
    body-of b q s f e
    ∙ ap (λ x. x ∷ take (body_width q) s) (sym (kind-letter k q h))
    ∙ ap (λ o. k ∷ take (width_of o) s) (sym h)

-- a U begins the next layout behind these
layout-step : (b k : ℕ) (ls : List (List Field)) (s : List ℕ) (q : Reading) → k ≡ 85 → lawful_layouts ls ≡ true → and_then (field_from b Record s) (opened b ls) ≡ Ok q → Step (strips_of ls) k s q
layout-step b k ls s q u h e =
    let c = followed (field_from b Record s) (opened b ls) q e in
    let is : record { done = ls; fields = c.value ∷ []; from = b } ≡ q = grind (arith, nat_tests, c.second) in
    subst (λ m. Step (strips_of ls) k s m) is
    (record {
      sound = record {
        lawful = h;
        few = grind (arith, nat_tests, c.second);
        some = omega arith;
        alone = grind (arith, nat_tests, c.second);
      };
      strips = ap (λ t. strips_of ls ++ t) (append-nil (strip_of c.value) ∙ field-strip-of b k Record s c.value (ap kind_of u) c.first);
    })

same_digits : (l : List Field) (f : Field) → 0 < length l → digits_of (l ++ (f ∷ [])) ≡ digits_of l
same_digits l f h = grind arith

-- another letter adds a field to the open layout
field-step : (b k : ℕ) (r : Reading) (s : List ℕ) (q : Reading) → Sound r → next_field b r k s ≡ Ok q → Step (written r) k s q
field-step b k r s q g e =
    let c = followed (ok_or (kind_of k) (at 2 b)) (λ m. and_then (field_from b m s) (λ f. Ok (added r f))) q e in
    let d = followed (field_from b c.value s) (λ f. Ok (added r f)) q c.second in
    let is : added r d.value ≡ q = cc (d.second) in
    let n = length_push r.fields d.value in
    subst (λ m. Step (written r) k s m) is
    (record {
      sound = record {
        lawful = g.lawful;
        few = g.few;
        some = omega arith;
        alone = ap (λ o. none_named o r.done) (same_digits r.fields d.value g.some) ∙ g.alone;
      };
      strips =
          sym (flat_map_more strip_of (flat_map (flat_map strip_of) r.done) r.fields d.value)
          ∙ ap (λ t. written r ++ t) (field-strip-of b k c.value s d.value (grind (arith, c.first)) d.first);
    })

step-sound : (b k : ℕ) (r : Reading) (s : List ℕ) (q : Reading) → Sound r → stepped b r k s ≡ Ok q → Step (written r) k s q
step-sound b k r s q g e =
    elim (eqb k 85) as (λ t. eqb k 85 ≡ t → Step (written r) k s q) [
      | true ↦ λ h.
          let next : next_layout b r s ≡ Ok q = grind (arith, h, e) in
          let c = followed (closed r) (λ ls. and_then (field_from b Record s) (opened b ls)) q next in
          let shut = closed-sound r c.value g c.first in
          subst (λ t. Step t k s q) shut.strips (layout-step b k c.value s q (grind (arith, nat_tests, h)) (grind (arith, nat_tests, shut.all)) c.second)
      | false ↦ λ h. field-step b k r s q g (grind (arith, h, e))
    ]
    refl

-- the strips of the next reading, and what is left, are the strips so far and what was left
onward : (was : List ℕ) (k : ℕ) (s : List ℕ) (q : Reading) (ls : List (List Field)) → Step was k s q → Writes ls (written q ++ drop (width_of (kind_of k)) s) → Writes ls (was ++ (k ∷ s))
onward was k s q ls p n =
    let w = width_of (kind_of k) in
    record {
      lawful = n.lawful;
      strips =
          n.strips
          ∙ ap (λ t. t ++ drop w s) p.strips
          ∙ append_assoc was (k ∷ take w s) (drop w s)
          ∙ ap (λ t. was ++ (k ∷ t)) (take-append-drop w s);
    }

end-sound : (r : Reading) (ls : List (List Field)) → Sound r → closed r ≡ Ok ls → Writes ls (written r ++ [])
end-sound r ls g e =
    let c = closed-sound r ls g e in record { lawful = c.all; strips = c.strips ∙ sym (append-nil (written r)) }

sound : (s : List ℕ) (w p : ℕ) (r : Reading) (ls : List (List Field)) → Sound r → read_from w p r s ≡ Ok ls → Writes ls (written r ++ drop w s)
sound [] zero p r ls g e = end-sound r ls g e
sound [] (suc w) p r ls g e = end-sound r ls g e
sound (k ∷ s) (suc w) p r ls g e = sound s w (p + 1) r ls g e
sound (k ∷ s) zero p r ls g e =
    let c = followed (stepped (p + 1) r k s) (λ q. read_from (width_of (kind_of k)) (p + 1) q s) ls e in
    let n = step-sound (p + 1) k r s c.value g c.first in
    onward (written r) k s c.value ls n (sound s (width_of (kind_of k)) (p + 1) c.value ls n.sound c.second)

-- the first U begins the first layout
pub read-writes : (s : List ℕ) (ls : List (List Field)) → read s ≡ Ok ls → Writes ls s
read-writes [] ls e = cc
read-writes (k ∷ s) ls e =
    let u : k ≡ 85 = grind (arith, nat_tests) in
    let c = followed (stepped 1 start k s) (λ q. read_from (width_of (kind_of k)) 1 q s) ls (grind (arith, nat_tests)) in
    let n = layout-step 1 k [] s c.value u refl (grind (arith, nat_tests, c.first)) in
    onward [] k s c.value ls n (sound s (width_of (kind_of k)) 1 c.value ls n.sound c.second)
