-- The judgement of a line: it is refused exactly as the rows of the refusals say.
use Rattle.std.proofs.Common.{◌≡◌, ℕ, suc, ◌+◌, ◌-◌, ◌<◌, ◌≤◌, true, false, cond, ltb, ◌⊎◌, List, [], ◌∷◌, ◌++◌, length, take, drop, Some, None, Ok, Err, Option, sym, refl, ap, ◌∙◌, subst, inl, inr, append_assoc, arith, length-append, length-drop, take-append-drop}
use Rattle.std.proofs.lemmas.List.{drop-drop, drop_at}
use Rattle.std.proofs.lemmas.Bool.{ltb-true, ltb-false, lt-ltb, le-ltb}
use Rattle.basics.specs.declared.refusal.Refusal.{Refusal}
use Rattle.basics.specs.Refusals.{refusal}
use Rattle.layouts.specs.declared.field.Field.{Field}
use Rattle.layouts.specs.Kinds.{shape}
use Rattle.layouts.specs.Layouts.{layout_at, or_empty, is_lawful}
use Rattle.layouts.proofs.Laws.{lawful-layouts}
use Rattle.lines.specs.Judging.{and_then, field_end, walked, named, chosen, judged}
use Rattle.lines.specs.Belongs.{Parts, joining}
use Rattle.lines.specs.Refuses.{FieldRefused, FaultIn, LeftOver, Refuses}
use Rattle.lines.proofs.Steps.{same-err}
use Rattle.lines.proofs.Sound.{ended, part-wide}
use Rattle.lines.proofs.Complete.{room, passes-field}
use Rattle.lines.proofs.Reasons.{absurd-ok, field-refused, refused-field}
use Rattle.lines.proofs.Names.{named-at, at_named, named_none, none_named_lem}

abbrev Where : List ℕ → List Field → ℕ → ℕ → Refusal → Type 0
Where line fs i p e = FaultIn line fs i p e ⊎ LeftOver line fs i p e

-- the part of the line from p to q, and what follows it
module _ (line : List ℕ) (f : Field) (i p q : ℕ) (l : p ≤ length line) (ok : field_end (shape f) i p line ≡ Ok q) where
  wide : p + length (take (q - p) (drop p line)) ≡ q
  wide =
      let h = ended (shape f) i p line q l ok in
      let a = h.forth in
      let b = h.within in
      let c = part-wide (q - p) p line (omega arith) in
      omega arith

  split : drop p line ≡ take (q - p) (drop p line) ++ drop q line
  split =
      let h = ended (shape f) i p line q l ok in
      let a = h.forth in
      let to : p + (q - p) ≡ q = omega arith in
      sym (take-append-drop (q - p) (drop p line)) ∙ ap (λ t. take (q - p) (drop p line) ++ t) (drop-drop (q - p) p line ∙ ap (λ n. drop n line) to)

  longer : (fs : List Field) (e : Refusal) → Where line fs (i + 1) q e → Where line (f ∷ fs) i p e
  longer fs e (inl m) =
      let s = take (q - p) (drop p line) in
      let w = wide in
      let n = length-append s (joining m.parts) in
      let a : i + 1 + length m.before ≡ i + suc (length m.before) = omega arith in
      let b : q + length (joining m.parts) ≡ p + length (s ++ joining m.parts) = omega arith in
      inl (record {
        before = f ∷ m.before;
        here = m.here;
        after = m.after;
        fields = ap (λ t. f ∷ t) m.fields;
        parts = s ∷ m.parts;
        each = ((ended (shape f) i p line q l ok).is, m.each);
        rest = m.rest;
        whole = split ∙ ap (λ t. s ++ t) m.whole ∙ sym (append_assoc s (joining m.parts) m.rest);
        none = m.none;
        refused = subst (λ x. FieldRefused (shape m.here) x (p + length (s ++ joining m.parts)) line e) a (subst (λ x. FieldRefused (shape m.here) (i + 1 + length m.before) x line e) b m.refused);
      })
  longer fs e (inr m) =
      let s = take (q - p) (drop p line) in
      let w = wide in
      let n = length-append s (joining m.parts) in
      let a : i + 1 + length fs ≡ i + suc (length fs) = omega arith in
      let b : q + length (joining m.parts) + 1 ≡ p + length (s ++ joining m.parts) + 1 = omega arith in
      inr (record {
        parts = s ∷ m.parts;
        each = ((ended (shape f) i p line q l ok).is, m.each);
        rest = m.rest;
        whole = split ∙ ap (λ t. s ++ t) m.whole ∙ sym (append_assoc s (joining m.parts) m.rest);
        left = m.left;
        is = m.is ∙ ap (λ x. refusal 18 2 0 x (q + length (joining m.parts) + 1)) a ∙ ap (refusal 18 2 0 (i + suc (length fs))) b;
      })

here-at : (line : List ℕ) (f : Field) (fs : List Field) (i p : ℕ) (e : Refusal) → p ≤ length line → field_end (shape f) i p line ≡ Err e → Where line (f ∷ fs) i p e
here-at line f fs i p e l g =
    let a : i ≡ i + 0 = omega arith in
    let b : p ≡ p + 0 = omega arith in
    inl (record {
      before = [];
      here = f;
      after = fs;
      fields = refl;
      parts = [];
      each = tt;
      rest = drop p line;
      whole = refl;
      none = λ s t at w. absurd-ok (sym (passes-field (shape f) i p line s t at w) ∙ g);
      refused = subst (λ x. FieldRefused (shape f) x (p + 0) line e) a (subst (λ x. FieldRefused (shape f) i x line e) b (field-refused (shape f) i p line e l g));
    })

walk-where : (line : List ℕ) (j : ℕ) (fs : List Field) (i p : ℕ) (e : Refusal) → p ≤ length line → walked line j fs i p ≡ Err e → Where line fs i p e
walk-where line j [] i p e l h =
    elim (ltb p (length line)) as (λ t. ltb p (length line) ≡ t → cond t (Err (refusal 18 2 0 i (p + 1))) (Ok j) ≡ Err e → Where line [] i p e) [
      | true ↦ λ t g.
          let more = ltb-true p (length line) t in
          let d = length-drop p line in
          let a : i ≡ i + 0 = omega arith in
          let b : p + 1 ≡ p + 0 + 1 = omega arith in
          inr (record {
            parts = [];
            each = tt;
            rest = drop p line;
            whole = refl;
            left = omega arith;
            is = sym (same-err g) ∙ ap (λ x. refusal 18 2 0 x (p + 1)) a ∙ ap (refusal 18 2 0 (i + 0)) b;
          })
      | false ↦ λ t g. absurd-ok g
    ]
    refl h
walk-where line j (f ∷ fs) i p e l h =
    elim (field_end (shape f) i p line) as (λ r. field_end (shape f) i p line ≡ r → and_then r (λ q. walked line j fs (i + 1) q) ≡ Err e → Where line (f ∷ fs) i p e) [
      | Ok q ↦ λ r g. longer line f i p q l r fs e (walk-where line j fs (i + 1) q e (ended (shape f) i p line q l r).within g)
      | Err x ↦ λ r g. here-at line f fs i p e l (r ∙ g)
    ]
    refl h

module _ (ls : List (List Field)) (line : List ℕ) (e : Refusal) (law : is_lawful ls ≡ true) where
  chosen-refuses : 8 ≤ length line → (o : Option ℕ) → named ls line ≡ o → chosen ls line o ≡ Err e → Refuses ls line e
  chosen-refuses long None f g = inr (inl (record { long = long; none = named_none ls line (lawful-layouts ls law) f; is = sym (same-err g) }))
  chosen-refuses long (Some m) f g =
      let r = named-at ls line m long f in
      let w = walk-where line m (layout_at ls m) 1 0 e (omega arith) g in
      inr (inr (record {
        long = long;
        number = m;
        layout = r.layout;
        at = r.at;
        named = r.named';
        fault = subst (λ l. Where line l 1 0 e) (ap or_empty r.at) w;
      }))

  pub judged-refuses : judged ls line ≡ Err e → Refuses ls line e
  judged-refuses h =
      elim (ltb (length line) 8) as (λ t. ltb (length line) 8 ≡ t → cond t (Err (refusal 11 2 0 1 (length line + 1))) (chosen ls line (named ls line)) ≡ Err e → Refuses ls line e) [
        | true ↦ λ t g. inl (record { short = ltb-true (length line) 8 t; is = sym (same-err g) })
        | false ↦ λ t g. chosen-refuses (ltb-false (length line) 8 t) (named ls line) refl g
      ]
      refl h

-- and back: such a fault is the one that is given
prefix-walk : (line : List ℕ) (j : ℕ) (bs : List Field) (f : Field) (ms : List Field) (ss : List (List ℕ)) (i p : ℕ) (rest : List ℕ) (e : Refusal) → p ≤ length line → Parts bs ss → drop p line ≡ joining ss ++ rest → FieldRefused (shape f) (i + length bs) (p + length (joining ss)) line e → walked line j (bs ++ f ∷ ms) i p ≡ Err e
prefix-walk line j [] f ms [] i p rest e l h at g =
    let a : i + 0 ≡ i = omega arith in
    let b : p + 0 ≡ p = omega arith in
    let r = subst (λ x. FieldRefused (shape f) x p line e) a (subst (λ x. FieldRefused (shape f) (i + 0) x line e) b g) in
    ap (λ r. and_then r (λ q. walked line j ms (i + 1) q)) (refused-field (shape f) i p line e l r)
prefix-walk line j [] f ms (s ∷ ss) i p rest e l h at g = absurd h
prefix-walk line j (b ∷ bs) f ms [] i p rest e l h at g = absurd h
prefix-walk line j (b ∷ bs) f ms (s ∷ ss) i p rest e l h at g =
    let whole = at ∙ append_assoc s (joining ss) rest in
    let r = room i p line s (joining ss ++ rest) whole in
    let n = length-append s (joining ss) in
    let a : i + suc (length bs) ≡ i + 1 + length bs = omega arith in
    let d : p + length (s ++ joining ss) ≡ p + length s + length (joining ss) = omega arith in
    ap (λ r. and_then r (λ q. walked line j (bs ++ f ∷ ms) (i + 1) q)) (passes-field (shape b) i p line s (joining ss ++ rest) whole h.0)
    ∙ prefix-walk line j bs f ms ss (i + 1) (p + length s) rest e (omega arith) h.1
    (sym (drop-drop (length s) p line) ∙ ap (drop (length s)) whole ∙ drop_at s (joining ss ++ rest) (length s) refl)
    (subst (λ x. FieldRefused (shape f) x (p + length s + length (joining ss)) line e) a (subst (λ x. FieldRefused (shape f) (i + suc (length bs)) x line e) d g))

over-walk : (line : List ℕ) (j : ℕ) (fs : List Field) (ss : List (List ℕ)) (i p : ℕ) (rest : List ℕ) → Parts fs ss → drop p line ≡ joining ss ++ rest → 0 < length rest → walked line j fs i p ≡ Err (refusal 18 2 0 (i + length fs) (p + length (joining ss) + 1))
over-walk line j [] [] i p rest h at l =
    let d = sym (length-drop p line) ∙ ap length at in
    let a : i ≡ i + 0 = omega arith in
    let b : p + 1 ≡ p + 0 + 1 = omega arith in
    ap (λ t. cond t (Err (refusal 18 2 0 i (p + 1))) (Ok j)) (lt-ltb p (length line) (omega arith)) ∙ ap (λ x. Err (refusal 18 2 0 x (p + 1))) a ∙ ap (λ x. Err (refusal 18 2 0 (i + 0) x)) b
over-walk line j [] (s ∷ ss) i p rest h at l = absurd h
over-walk line j (b ∷ bs) [] i p rest h at l = absurd h
over-walk line j (b ∷ bs) (s ∷ ss) i p rest h at l =
    let whole = at ∙ append_assoc s (joining ss) rest in
    let n = length-append s (joining ss) in
    let a : i + 1 + length bs ≡ i + suc (length bs) = omega arith in
    let d : p + length s + length (joining ss) + 1 ≡ p + length (s ++ joining ss) + 1 = omega arith in
    ap (λ r. and_then r (λ q. walked line j bs (i + 1) q)) (passes-field (shape b) i p line s (joining ss ++ rest) whole h.0)
    ∙ over-walk line j bs ss (i + 1) (p + length s) rest h.1 (sym (drop-drop (length s) p line) ∙ ap (drop (length s)) whole ∙ drop_at s (joining ss ++ rest) (length s) refl) l
    ∙ ap (λ x. Err (refusal 18 2 0 x (p + length s + length (joining ss) + 1))) a
    ∙ ap (λ x. Err (refusal 18 2 0 (i + suc (length bs)) x)) d

where-walk : (line : List ℕ) (j : ℕ) (fs : List Field) (e : Refusal) → Where line fs 1 0 e → walked line j fs 1 0 ≡ Err e
where-walk line j fs e (inl m) =
    ap (λ t. walked line j t 1 0) m.fields ∙ prefix-walk line j m.before m.here m.after m.parts 1 0 m.rest e (omega arith) m.each m.whole m.refused
where-walk line j fs e (inr m) = over-walk line j fs m.parts 1 0 m.rest m.each m.whole m.left ∙ ap Err (sym m.is)

pub refuses-judged : (ls : List (List Field)) (line : List ℕ) (e : Refusal) → is_lawful ls ≡ true → Refuses ls line e → judged ls line ≡ Err e
refuses-judged ls line e law (inl h) =
    ap (λ t. cond t (Err (refusal 11 2 0 1 (length line + 1))) (chosen ls line (named ls line))) (lt-ltb (length line) 8 h.short) ∙ ap Err (sym h.is)
refuses-judged ls line e law (inr (inl h)) =
    ap (λ t. cond t (Err (refusal 11 2 0 1 (length line + 1))) (chosen ls line (named ls line))) (le-ltb (length line) 8 h.long)
    ∙ ap (chosen ls line) (none_named_lem ls line h.long h.none)
    ∙ ap Err (sym h.is)
refuses-judged ls line e law (inr (inr h)) =
    ap (λ t. cond t (Err (refusal 11 2 0 1 (length line + 1))) (chosen ls line (named ls line))) (le-ltb (length line) 8 h.long)
    ∙ ap (chosen ls line) (at_named ls line h.number h.layout (lawful-layouts ls law) h.at h.named)
    ∙ ap (λ t. walked line h.number t 1 0) (ap or_empty h.at)
    ∙ where-walk line h.number h.layout e h.fault
