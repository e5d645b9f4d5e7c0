-- The walk over a layout passes exactly if the line is the fields end to end.
use Rattle.std.proofs.Common.{◌≡◌, ℕ, ◌+◌, ◌-◌, ◌≤◌, cond, ltb, List, [], ◌∷◌, ◌++◌, length, take, drop, Ok, Err, sym, refl, ap, ◌∙◌, arith, length-drop, take-append-drop}
use Rattle.std.proofs.lemmas.List.{drop-drop, drop_all, drop_at}
use Rattle.std.proofs.lemmas.Bool.{ltb-false, le-ltb}
use Rattle.basics.specs.Refusals.{refusal}
use Rattle.layouts.specs.declared.field.Field.{Field}
use Rattle.layouts.specs.Kinds.{shape}
use Rattle.lines.specs.Judging.{and_then, field_end, walked}
use Rattle.lines.specs.Belongs.{Parts, joining, Follows}
use Rattle.lines.proofs.Steps.{same_ok}
use Rattle.lines.proofs.Sound.{both, not_first, ended}
use Rattle.lines.proofs.Complete.{room, passes-field}

pub walk-parts : (line : List ℕ) (j : ℕ) (fs : List Field) (i p r : ℕ) → p ≤ length line → walked line j fs i p ≡ Ok r → Follows fs (drop p line) × (r ≡ j)
walk-parts line j [] i p r l e =
    let d = not_first (ltb p (length line)) (refusal 18 2 0 i (p + 1)) (Ok j) r e in
    (record { parts = []; each = tt; whole = sym (drop_all p line (ltb-false p (length line) d.0)) }, sym (same_ok d.1))
walk-parts line j (f ∷ fs) i p r l e =
    let b = both (field_end (shape f) i p line) (λ q. walked line j fs (i + 1) q) r e in
    let q = b.mid in
    let h = ended (shape f) i p line q l b.first in
    let m = walk-parts line j fs (i + 1) q r h.within b.then in
    let forth = h.forth in
    let s = take (q - p) (drop p line) in
    let to : p + (q - p) ≡ q = omega arith in (
      record {
        parts = s ∷ m.0.parts;
        each = (h.is, m.0.each);
        whole = ap (λ t. s ++ t) (m.0.whole ∙ ap (λ n. drop n line) (sym to) ∙ sym (drop-drop (q - p) p line)) ∙ take-append-drop (q - p) (drop p line);
      },
      m.1,
    )

pub parts-walk : (line : List ℕ) (j : ℕ) (fs : List Field) (ss : List (List ℕ)) (i p : ℕ) → p ≤ length line → Parts fs ss → drop p line ≡ joining ss → walked line j fs i p ≡ Ok j
parts-walk line j [] [] i p l h e =
    let d = sym (length-drop p line) ∙ ap length e in
    ap (λ t. cond t (Err (refusal 18 2 0 i (p + 1))) (Ok j)) (le-ltb p (length line) (omega arith))
parts-walk line j [] (s ∷ ss) i p l h e = absurd h
parts-walk line j (f ∷ fs) [] i p l h e = absurd h
parts-walk line j (f ∷ fs) (s ∷ ss) i p l h e =
    let r = room i p line s (joining ss) e in
    ap (λ t. and_then t (λ q. walked line j fs (i + 1) q)) (passes-field (shape f) i p line s (joining ss) e h.0)
    ∙ parts-walk line j fs ss (i + 1) (p + length s) (omega arith) h.1 (sym (drop-drop (length s) p line) ∙ ap (drop (length s)) e ∙ drop_at s (joining ss) (length s) refl)
