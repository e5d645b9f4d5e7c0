-- The bounds of a line's first fault: its field, its byte and its number.
use Rattle.std.proofs.Common.{◌≡◌, ℕ, ◌+◌, ◌*◌, ◌≤◌, Bool, true, false, cond, ltb, List, [], ◌∷◌, length, Some, None, Ok, Err, Option, sym, refl, ◌∙◌, subst, inl, inr, arith}
use Rattle.std.proofs.lemmas.Bool.{ltb-true}
use Rattle.basics.specs.declared.refusal.Refusal.{Refusal}
use Rattle.basics.specs.Refusals.{number, reason, refusal}
use Rattle.layouts.specs.declared.field.Field.{Field}
use Rattle.layouts.specs.declared.field.Field.TheVariants.{Record, Range, Number, Zeros, Text, FilledText, Blanks, Day, DayOrZero, Amount, Currency, OneOf, Lines, AllOrNoLines}
use Rattle.layouts.specs.Kinds.{Part, Shape, one, block, shape, count, refused_by}
use Rattle.layouts.specs.Layouts.{layout_at, is_lawful}
use Rattle.layouts.proofs.Laws.{lawful-fields}
use Rattle.lines.specs.Judging.{and_then, field_end, walked, named, chosen, judged}
use Rattle.lines.specs.Refuses.{PartRefused, LinesRefused, FieldRefused}
use Rattle.lines.proofs.Steps.{same-err}
use Rattle.lines.proofs.Sound.{ended}
use Rattle.lines.proofs.Reasons.{absurd-ok, field-refused}

-- field at most i, byte at most one behind the line, a number of a line's faults
pub record Within (i m : ℕ) (e : Refusal) : Type 0 where
  pub field' : e.field ≤ i
  pub byte' : e.byte ≤ m + 1
  pub number' : number e.reason ≤ 18

at : (i m n f b : ℕ) (e : Refusal) → e ≡ refusal n 2 0 f b → f ≤ i → b ≤ m + 1 → number (reason n) ≤ 18 → Within i m e
at i m n f b e s p q r = subst (Within i m) (sym s) (record { field' = p; byte' = q; number' = r })

-- the numbers that the values of a field are refused by
abbrev Mild : Shape → Type 0
Mild (one q) = number (reason (refused_by q)) ≤ 18
Mild (block high ok fit) = Unit {0}

mild : (f : Field) → Mild (shape f)
mild (Record d) = omega arith
mild (Range low high) = omega arith
mild (Number w) = omega arith
mild (Zeros w) = omega arith
mild (Text w) = omega arith
mild (FilledText w) = omega arith
mild (Blanks w) = omega arith
mild Day = omega arith
mild DayOrZero = omega arith
mild Amount = omega arith
mild Currency = omega arith
mild (OneOf a b c d) = omega arith
mild (Lines low high) = tt
mild (AllOrNoLines n) = tt

part-within : (q : Part) (i p : ℕ) (line : List ℕ) (e : Refusal) → number (reason (refused_by q)) ≤ 18 → PartRefused q i p line e → Within i (length line) e
part-within q i p line e m (inl s) = at i (length line) 11 i (length line + 1) e s.is (omega arith) (omega arith) (omega arith)
part-within q i p line e m (inr (inl s)) =
    let r = s.room in
    let k = s.inside in
    at i (length line) 13 i (p + s.at + 1) e s.is (omega arith) (omega arith) (omega arith)
part-within q i p line e m (inr (inr s)) =
    let r = s.sound.room in at i (length line) (refused_by q) i (p + 1) e s.is (omega arith) (omega arith) m

lines-within : (ok : List ℕ → Bool) (n i p : ℕ) (line : List ℕ) (e : Refusal) → LinesRefused ok n i p line e → Within i (length line) e
lines-within ok n i p line e (inl s) = at i (length line) 11 i (length line + 1) e s.is (omega arith) (omega arith) (omega arith)
lines-within ok n i p line e (inr (inl s)) =
    let r = s.room in
    let k = s.inside in
    at i (length line) 13 i (p + s.at + 1) e s.is (omega arith) (omega arith) (omega arith)
lines-within ok n i p line e (inr (inr s)) =
    let r = s.sound.room in
    let k = s.inside in
    at i (length line) 14 i (p + 35 * s.at + 1) e s.is (omega arith) (omega arith) (omega arith)

field-within : (f : Shape) (i p : ℕ) (line : List ℕ) (e : Refusal) → Mild f → FieldRefused f i p line e → Within i (length line) e
field-within (one q) i p line e m h = part-within q i p line e m h
field-within (block high counts ok) i p line e m (inl h) = part-within (count counts) i p line e (omega arith) h
field-within (block high counts ok) i p line e m (inr h) = lines-within ok _ i (p + 2) line e h.lines

-- a higher field is as good
higher : (i j m : ℕ) (e : Refusal) → i ≤ j → Within i m e → Within j m e
higher i j m e h w = let a = w.field' in record { field' = omega arith; byte' = w.byte'; number' = w.number' }

walked-within : (line : List ℕ) (j : ℕ) (fs : List Field) (i p : ℕ) (e : Refusal) → p ≤ length line → walked line j fs i p ≡ Err e → Within (i + length fs) (length line) e
walked-within line j [] i p e l h =
    elim (ltb p (length line)) as (λ t. ltb p (length line) ≡ t → cond t (Err (refusal 18 2 0 i (p + 1))) (Ok j) ≡ Err e → Within (i + 0) (length line) e) [
      | true ↦ λ a b. let less = ltb-true p (length line) a in at (i + 0) (length line) 18 i (p + 1) e (sym (same-err b)) (omega arith) (omega arith) (omega arith)
      | false ↦ λ a b. absurd-ok b
    ]
    refl h
walked-within line j (f ∷ fs) i p e l h =
    elim (field_end (shape f) i p line) as (λ r. field_end (shape f) i p line ≡ r → and_then r (λ q. walked line j fs (i + 1) q) ≡ Err e → Within (i + length (f ∷ fs)) (length line) e) [
      | Ok q ↦ λ a b.
          let end = ended (shape f) i p line q l a in
          higher (i + 1 + length fs) (i + length (f ∷ fs)) (length line) e (omega arith) (walked-within line j fs (i + 1) q e end.within b)
      | Err x ↦ λ a b.
          higher i (i + length (f ∷ fs)) (length line) e (omega arith) (field-within (shape f) i p line e (mild f) (field-refused (shape f) i p line e l (a ∙ b)))
    ]
    refl h

chosen-within : (ls : List (List Field)) (line : List ℕ) (o : Option ℕ) (e : Refusal) → is_lawful ls ≡ true → chosen ls line o ≡ Err e → Within 65 (length line) e
chosen-within ls line None e law h = at 65 (length line) 12 1 1 e (sym (same-err h)) (omega arith) (omega arith) (omega arith)
chosen-within ls line (Some j) e law h =
    higher (1 + length (layout_at ls j)) 65 (length line) e (omega (arith, lawful-fields ls j law)) (walked-within line j (layout_at ls j) 1 0 e (omega arith) h)

pub judged-within : (ls : List (List Field)) (line : List ℕ) (e : Refusal) → is_lawful ls ≡ true → judged ls line ≡ Err e → Within 65 (length line) e
judged-within ls line e law h =
    elim (ltb (length line) 8) as (λ t. cond t (Err (refusal 11 2 0 1 (length line + 1))) (chosen ls line (named ls line)) ≡ Err e → Within 65 (length line) e) [
      | true ↦ λ b. at 65 (length line) 11 1 (length line + 1) e (sym (same-err b)) (omega arith) (omega arith) (omega arith)
      | false ↦ λ b. chosen-within ls line (named ls line) e law b
    ]
    h
