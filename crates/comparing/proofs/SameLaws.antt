-- Equal rows show the same values, and of records, the same line.
use Rattle.std.proofs.Common.{◌≡◌, ℕ, zero, suc, ◌+◌, ◌-◌, Bool, true, false, cond, ◌&&◌, eqb, List, [], ◌∷◌, ◌++◌, map, length, take, drop, IfOk, Some, None, Ok, Err, Decides, Result, sym, refl, ap, ◌∙◌, subst, arith}
use borrow.Author.Tests.{clash}
use Rattle.std.specs.Str.{bytes_eq}
use Rattle.std.proofs.lemmas.Slice.Eq.{bytes_eq-Decides}
use Rattle.std.proofs.lemmas.List.{drop-drop, nil_from_length}
use Rattle.std.proofs.lemmas.Bool.{and_parts, and_from, eqb-true, eq-eqb}
use Rattle.basics.specs.declared.refusal.Refusal.{Refusal}
use Rattle.basics.specs.Decimals.{number_of}
use Rattle.basics.specs.Texts.{trim}
use Rattle.basics.proofs.ByteLaws.{absurd-none, same_some}
use Rattle.layouts.specs.declared.field.Field.{Field}
use Rattle.layouts.specs.Kinds.{constant, figures, letters, code, Shape, one, block, shape}
use Rattle.layouts.specs.Layouts.{place, or_empty, is_lawful, digits_of}
use Rattle.layouts.proofs.Laws.{lawful-layouts}
use Rattle.lines.specs.Belongs.{Parts, Follows}
use Rattle.lines.proofs.Steps.{same_ok}
use Rattle.lines.proofs.Names.{positive, found_at}
use Rattle.values.specs.declared.row.ValueRow.{ValueRow}
use Rattle.values.specs.Values.{Value, is_number, is_text, line_values, field_values, values_in, values_of}
use Rattle.values.specs.Rows.{text_at, inside, ShowsThen, ShowsAll}
use Rattle.values.specs.Records.{ShowsRecord}
use Rattle.values.specs.Writing.{first_number}
use Rattle.values.proofs.FieldLaws.{shows-join, shows-split}
use Rattle.values.proofs.RecordLaws.{cut-follows, writes-record}
use Rattle.comparing.specs.Comparing.{same_number, same_text, same_texts, same_field, onward, same_rows, same_by, same_for, FieldKinds, Kinds, SameValues}

chosen : (t : Bool) (m n : ℕ) → cond t (Some m) None ≡ Some n → (t ≡ true) × (m ≡ n)
chosen true m n e = (refl, same_some e)
chosen false m n e = absurd-none e

-- both lists show these values, and leave all but the first n rows
record Both (bytes : List ℕ) (rs : List ValueRow) (others : List ℕ) (ss : List ValueRow) (vs : List Value) (n : ℕ) : Type 0 where
  one : ShowsThen bytes rs vs (drop n rs)
  other : ShowsThen others ss vs (drop n ss)

-- equal rows show the same values
number-shown : (bytes : List ℕ) (rs : List ValueRow) (others : List ℕ) (ss : List ValueRow) → same_number rs ss ≡ true → Both bytes rs others ss (is_number (first_number rs) ∷ []) 1
number-shown bytes [] others ss e = absurd (clash e)
number-shown bytes (r ∷ rs) others [] e = absurd (clash e)
number-shown bytes (r ∷ rs) others (s ∷ ss) e = record { one = (refl, refl); other = (sym (eqb-true r.number s.number e), refl) }

texts-shown : (n : ℕ) (bytes : List ℕ) (rs : List ValueRow) (others : List ℕ) (ss : List ValueRow) → same_texts n bytes rs others ss ≡ true → (ts : List (List ℕ)) × ((length ts ≡ n) × Both bytes rs others ss (map is_text ts) n)
texts-shown zero bytes rs others ss e = ([], (refl, record { one = refl; other = refl }))
texts-shown (suc n) bytes [] others ss e = absurd (clash e)
texts-shown (suc n) bytes (r ∷ rs) others [] e = absurd (clash e)
texts-shown (suc n) bytes (r ∷ rs) others (s ∷ ss) e =
    let t = text_at bytes r in
    let u = text_at others s in
    let p = and_parts (inside bytes r && (inside others s && bytes_eq t u)) (same_texts n bytes rs others ss) e in
    let a = and_parts (inside bytes r) (inside others s && bytes_eq t u) p.0 in
    let b = and_parts (inside others s) (bytes_eq t u) a.1 in
    let q = texts-shown n bytes rs others ss p.1 in
    (t ∷ q.0, (ap suc q.1.0, record { one = ((a.0, refl), q.1.1.one); other = ((b.0, sym ((bytes_eq-Decides t u).0 b.1)), q.1.1.other) }))

text-shown : (bytes : List ℕ) (rs : List ValueRow) (others : List ℕ) (ss : List ValueRow) → same_text bytes rs others ss ≡ true → (t : List ℕ) × Both bytes rs others ss (is_text t ∷ []) 1
text-shown bytes [] others ss e = absurd (clash e)
text-shown bytes (r ∷ rs) others [] e = absurd (clash e)
text-shown bytes (r ∷ rs) others (s ∷ ss) e =
    let t = text_at bytes r in
    let u = text_at others s in
    let a = and_parts (inside bytes r) (inside others s && bytes_eq t u) e in
    let b = and_parts (inside others s) (bytes_eq t u) a.1 in
    (t, record { one = ((a.0, refl), refl); other = ((b.0, sym ((bytes_eq-Decides t u).0 b.1)), refl) })

at_size : (bytes : List ℕ) (rs : List ValueRow) (others : List ℕ) (ss : List ValueRow) (vs : List Value) (m n : ℕ) → m ≡ n → Both bytes rs others ss vs m → Both bytes rs others ss vs n
at_size bytes rs others ss vs m n e h = subst (Both bytes rs others ss vs) e h

field-shown : (x : Shape) (bytes : List ℕ) (rs : List ValueRow) (others : List ℕ) (ss : List ValueRow) (n : ℕ) → same_field x bytes rs others ss ≡ Some n → (vs : List Value) × (FieldKinds x vs × Both bytes rs others ss vs n)
field-shown (one (constant bs)) bytes rs others ss n e = ([], (refl, at_size bytes rs others ss [] 0 n (same_some e) (record { one = refl; other = refl })))
field-shown (one (figures w ok m)) bytes rs others ss n e =
    let c = chosen (same_number rs ss) 1 n e in
    (is_number (first_number rs) ∷ [], ((first_number rs, refl), at_size bytes rs others ss (is_number (first_number rs) ∷ []) 1 n c.1 (number-shown bytes rs others ss c.0)))
field-shown (one (letters w k ok m)) bytes rs others ss n e =
    let c = chosen (same_text bytes rs others ss) 1 n e in
    let t = text-shown bytes rs others ss c.0 in
    (is_text t.0 ∷ [], ((t.0, refl), at_size bytes rs others ss (is_text t.0 ∷ []) 1 n c.1 t.1))
field-shown (one (code k)) bytes rs others ss n e =
    let c = chosen (same_number rs ss) 1 n e in
    (is_number (first_number rs) ∷ [], ((first_number rs, refl), at_size bytes rs others ss (is_number (first_number rs) ∷ []) 1 n c.1 (number-shown bytes rs others ss c.0)))
field-shown (block high counts ok) bytes rs others ss n e =
    let m : ℕ = first_number rs in
    let c = chosen (same_number rs ss && same_texts m bytes (drop 1 rs) others (drop 1 ss)) (1 + m) n e in
    let p = and_parts (same_number rs ss) (same_texts m bytes (drop 1 rs) others (drop 1 ss)) c.0 in
    let a = number-shown bytes rs others ss p.0 in
    let t = texts-shown m bytes (drop 1 rs) others (drop 1 ss) p.1 in
    let vs : List Value = is_number m ∷ map is_text t.0 in (
      vs,
      (
        (t.0, ap (λ k. is_number k ∷ map is_text t.0) (sym t.1.0)),
        at_size bytes rs others ss vs (1 + m) n c.1
            (record {
              one = subst (ShowsThen bytes rs vs) (drop-drop m 1 rs) (shows-join bytes rs (is_number m ∷ []) (map is_text t.0) (drop 1 rs) (drop m (drop 1 rs)) a.one t.1.1.one);
              other = subst (ShowsThen others ss vs) (drop-drop m 1 ss) (shows-join others ss (is_number m ∷ []) (map is_text t.0) (drop 1 ss) (drop m (drop 1 ss)) a.other t.1.1.other);
            }),
      ),
    )

pub rows-shown : (fs : List Field) (bytes : List ℕ) (rs : List ValueRow) (others : List ℕ) (ss : List ValueRow) → same_rows fs bytes rs others ss ≡ true → SameValues fs bytes rs others ss
rows-shown [] bytes rs others ss e =
    let p = and_parts (eqb (length rs) 0) (eqb (length ss) 0) e in
    record { values = []; kinds = refl; one = nil_from_length rs (eqb-true (length rs) 0 p.0); other = nil_from_length ss (eqb-true (length ss) 0 p.1) }
rows-shown (f ∷ fs) bytes rs others ss e =
    elim (same_field (shape f) bytes rs others ss) as (λ o. same_field (shape f) bytes rs others ss ≡ o → onward o (λ n. same_rows fs bytes (drop n rs) others (drop n ss)) ≡ true → SameValues (f ∷ fs) bytes rs others ss) [
      | None ↦ λ q h. absurd (clash h)
      | Some n ↦ λ q h.
          let x = field-shown (shape f) bytes rs others ss n q in
          let y = rows-shown fs bytes (drop n rs) others (drop n ss) h in
          record {
            values = x.0 ++ y.values;
            kinds = (x.0, (y.values, (x.1.0, (y.kinds, refl))));
            one = shows-join bytes rs x.0 y.values (drop n rs) [] x.1.1.one y.one;
            other = shows-join others ss x.0 y.values (drop n ss) [] x.1.1.other y.other;
          }
    ]
    refl e

-- rows that show the same values are equal
record Meets (x : Shape) (bytes : List ℕ) (rs : List ValueRow) (others : List ℕ) (ss rest left : List ValueRow) : Type 0 where
  size : ℕ
  same : same_field x bytes rs others ss ≡ Some size
  one : rest ≡ drop size rs
  other : left ≡ drop size ss

meet-number : (m : ℕ) (bytes : List ℕ) (rs : List ValueRow) (others : List ℕ) (ss rest left : List ValueRow) → ShowsThen bytes rs (is_number m ∷ []) rest → ShowsThen others ss (is_number m ∷ []) left → (same_number rs ss ≡ true) × ((first_number rs ≡ m) × ((rest ≡ drop 1 rs) × (left ≡ drop 1 ss)))
meet-number m bytes [] others ss rest left d g = absurd d
meet-number m bytes (r ∷ rs) others [] rest left d g = absurd g
meet-number m bytes (r ∷ rs) others (s ∷ ss) rest left d g = (eq-eqb r.number s.number (d.0 ∙ sym g.0), (d.0, (sym d.1, sym g.1)))

meet-text : (t : List ℕ) (bytes : List ℕ) (r : ValueRow) (others : List ℕ) (s : ValueRow) → (inside bytes r ≡ true) × (text_at bytes r ≡ t) → (inside others s ≡ true) × (text_at others s ≡ t) → (inside bytes r && (inside others s && bytes_eq (text_at bytes r) (text_at others s))) ≡ true
meet-text t bytes r others s d g =
    and_from (inside bytes r) (inside others s && bytes_eq (text_at bytes r) (text_at others s)) d.0
    (and_from (inside others s) (bytes_eq (text_at bytes r) (text_at others s)) g.0 ((bytes_eq-Decides (text_at bytes r) (text_at others s)).1 (d.1 ∙ sym g.1)))

meet-texts : (ts : List (List ℕ)) (bytes : List ℕ) (rs : List ValueRow) (others : List ℕ) (ss rest left : List ValueRow) → ShowsThen bytes rs (map is_text ts) rest → ShowsThen others ss (map is_text ts) left → (same_texts (length ts) bytes rs others ss ≡ true) × ((rest ≡ drop (length ts) rs) × (left ≡ drop (length ts) ss))
meet-texts [] bytes rs others ss rest left d g = (refl, (sym d, sym g))
meet-texts (t ∷ ts) bytes [] others ss rest left d g = absurd d
meet-texts (t ∷ ts) bytes (r ∷ rs) others [] rest left d g = absurd g
meet-texts (t ∷ ts) bytes (r ∷ rs) others (s ∷ ss) rest left d g =
    let q = meet-texts ts bytes rs others ss rest left d.1 g.1 in
    (and_from _ (same_texts (length ts) bytes rs others ss) (meet-text t bytes r others s d.0 g.0) q.0, q.1)

meet-field : (x : Shape) (vs : List Value) (bytes : List ℕ) (rs : List ValueRow) (others : List ℕ) (ss rest left : List ValueRow) → FieldKinds x vs → ShowsThen bytes rs vs rest → ShowsThen others ss vs left → Meets x bytes rs others ss rest left
meet-field (one (constant bs)) vs bytes rs others ss rest left k d g =
    record { size = 0; same = refl; one = sym (subst (λ v. ShowsThen bytes rs v rest) k d); other = sym (subst (λ v. ShowsThen others ss v left) k g) }
meet-field (one (figures w ok n)) vs bytes rs others ss rest left k d g =
    let q = meet-number k.0 bytes rs others ss rest left (subst (λ v. ShowsThen bytes rs v rest) k.1 d) (subst (λ v. ShowsThen others ss v left) k.1 g) in
    record { size = 1; same = ap (λ t. cond t (Some 1) None) q.0; one = q.1.1.0; other = q.1.1.1 }
meet-field (one (letters w c ok n)) vs bytes [] others ss rest left k d g = absurd (subst (λ v. ShowsThen bytes [] v rest) k.1 d)
meet-field (one (letters w c ok n)) vs bytes (r ∷ rs) others [] rest left k d g = absurd (subst (λ v. ShowsThen others [] v left) k.1 g)
meet-field (one (letters w c ok n)) vs bytes (r ∷ rs) others (s ∷ ss) rest left k d g =
    let a = subst (λ v. ShowsThen bytes (r ∷ rs) v rest) k.1 d in
    let b = subst (λ v. ShowsThen others (s ∷ ss) v left) k.1 g in
    record { size = 1; same = ap (λ t. cond t (Some 1) None) (meet-text k.0 bytes r others s a.0 b.0); one = sym a.1; other = sym b.1 }
meet-field (one (code c)) vs bytes rs others ss rest left k d g =
    let q = meet-number k.0 bytes rs others ss rest left (subst (λ v. ShowsThen bytes rs v rest) k.1 d) (subst (λ v. ShowsThen others ss v left) k.1 g) in
    record { size = 1; same = ap (λ t. cond t (Some 1) None) q.0; one = q.1.1.0; other = q.1.1.1 }
meet-field (block high counts ok) vs bytes rs others ss rest left k d g =
    let ts = k.0 in
    let a = shows-split bytes rs (is_number (length ts) ∷ []) (map is_text ts) rest (subst (λ v. ShowsThen bytes rs v rest) k.1 d) in
    let b = shows-split others ss (is_number (length ts) ∷ []) (map is_text ts) left (subst (λ v. ShowsThen others ss v left) k.1 g) in
    let q = meet-number (length ts) bytes rs others ss a.0 b.0 a.1.0 b.1.0 in
    let t = meet-texts ts bytes a.0 others b.0 rest left a.1.1 b.1.1 in
    let m = first_number rs in
    let texts : same_texts m bytes (drop 1 rs) others (drop 1 ss) ≡ true =
    ap (λ n. same_texts n bytes (drop 1 rs) others (drop 1 ss)) q.1.0
    ∙ ap (λ x. same_texts (length ts) bytes x others (drop 1 ss)) (sym q.1.1.0)
    ∙ ap (λ x. same_texts (length ts) bytes a.0 others x) (sym q.1.1.1)
    ∙ t.0 in
    record {
      size = 1 + m;
      same = ap (λ t. cond t (Some (1 + m)) None) (and_from (same_number rs ss) (same_texts m bytes (drop 1 rs) others (drop 1 ss)) q.0 texts);
      one = t.1.0 ∙ ap (drop (length ts)) q.1.1.0 ∙ drop-drop (length ts) 1 rs ∙ ap (λ n. drop (1 + n) rs) (sym q.1.0);
      other = t.1.1 ∙ ap (drop (length ts)) q.1.1.1 ∙ drop-drop (length ts) 1 ss ∙ ap (λ n. drop (1 + n) ss) (sym q.1.0);
    }

pub rows-meet : (fs : List Field) (vs : List Value) (bytes : List ℕ) (rs : List ValueRow) (others : List ℕ) (ss : List ValueRow) → Kinds fs vs → ShowsAll bytes rs vs → ShowsAll others ss vs → same_rows fs bytes rs others ss ≡ true
rows-meet [] vs bytes rs others ss k d g =
    let a : rs ≡ [] = subst (λ v. ShowsAll bytes rs v) k d in
    let b : ss ≡ [] = subst (λ v. ShowsAll others ss v) k g in
    and_from (eqb (length rs) 0) (eqb (length ss) 0) (ap (λ x. eqb (length x) 0) a) (ap (λ x. eqb (length x) 0) b)
rows-meet (f ∷ fs) vs bytes rs others ss k d g =
    let us = k.0 in
    let ws = k.1.0 in
    let a = shows-split bytes rs us ws [] (subst (λ v. ShowsAll bytes rs v) k.1.1.1.1 d) in
    let b = shows-split others ss us ws [] (subst (λ v. ShowsAll others ss v) k.1.1.1.1 g) in
    let m = meet-field (shape f) us bytes rs others ss a.0 b.0 k.1.1.0 a.1.0 b.1.0 in
    let n = m.size in
    ap (λ o. onward o (λ n. same_rows fs bytes (drop n rs) others (drop n ss))) m.same
    ∙ rows-meet fs ws bytes (drop n rs) others (drop n ss) k.1.1.1.0 (subst (λ x. ShowsAll bytes x ws) m.one a.1.1) (subst (λ x. ShowsAll others x ws) m.other b.1.1)

-- rows show no other values of the same kinds
same-texts : (ts us : List (List ℕ)) (bytes : List ℕ) (rs rest left : List ValueRow) → length ts ≡ length us → ShowsThen bytes rs (map is_text ts) rest → ShowsThen bytes rs (map is_text us) left → (ts ≡ us) × (rest ≡ left)
same-texts [] [] bytes rs rest left n d g = (refl, sym d ∙ g)
same-texts [] (u ∷ us) bytes rs rest left n d g = absurd (omega arith)
same-texts (t ∷ ts) [] bytes rs rest left n d g = absurd (omega arith)
same-texts (t ∷ ts) (u ∷ us) bytes [] rest left n d g = absurd d
same-texts (t ∷ ts) (u ∷ us) bytes (r ∷ rs) rest left n d g =
    let q = same-texts ts us bytes rs rest left (let l : suc (length ts) ≡ suc (length us) = n in omega arith) d.1 g.1 in
    let h : t ≡ u = sym d.0.1 ∙ g.0.1 in
    (ap (λ x. x ∷ ts) h ∙ ap (λ x. u ∷ x) q.0, q.1)

same-one-number : (m n : ℕ) (bytes : List ℕ) (rs rest left : List ValueRow) → ShowsThen bytes rs (is_number m ∷ []) rest → ShowsThen bytes rs (is_number n ∷ []) left → (m ≡ n) × (rest ≡ left)
same-one-number m n bytes [] rest left d g = absurd d
same-one-number m n bytes (r ∷ rs) rest left d g = (sym d.0 ∙ g.0, sym d.1 ∙ g.1)

field-only : (x : Shape) (us ws : List Value) (bytes : List ℕ) (rs rest left : List ValueRow) → FieldKinds x us → FieldKinds x ws → ShowsThen bytes rs us rest → ShowsThen bytes rs ws left → (us ≡ ws) × (rest ≡ left)
field-only (one (constant bs)) us ws bytes rs rest left k h d g =
    (k ∙ sym h, sym (subst (λ v. ShowsThen bytes rs v rest) k d) ∙ subst (λ v. ShowsThen bytes rs v left) h g)
field-only (one (figures w ok n)) us ws bytes rs rest left k h d g =
    let q = same-one-number k.0 h.0 bytes rs rest left (subst (λ v. ShowsThen bytes rs v rest) k.1 d) (subst (λ v. ShowsThen bytes rs v left) h.1 g) in
    (k.1 ∙ ap (λ m. is_number m ∷ []) q.0 ∙ sym h.1, q.1)
field-only (one (letters w c ok n)) us ws bytes rs rest left k h d g =
    let q = same-texts (k.0 ∷ []) (h.0 ∷ []) bytes rs rest left refl (subst (λ v. ShowsThen bytes rs v rest) k.1 d) (subst (λ v. ShowsThen bytes rs v left) h.1 g) in
    (k.1 ∙ ap (map is_text) q.0 ∙ sym h.1, q.1)
field-only (one (code c)) us ws bytes rs rest left k h d g =
    let q = same-one-number k.0 h.0 bytes rs rest left (subst (λ v. ShowsThen bytes rs v rest) k.1 d) (subst (λ v. ShowsThen bytes rs v left) h.1 g) in
    (k.1 ∙ ap (λ m. is_number m ∷ []) q.0 ∙ sym h.1, q.1)
field-only (block high counts ok) us ws bytes rs rest left k h d g =
    let ts = k.0 in
    let vs = h.0 in
    let a = shows-split bytes rs (is_number (length ts) ∷ []) (map is_text ts) rest (subst (λ v. ShowsThen bytes rs v rest) k.1 d) in
    let b = shows-split bytes rs (is_number (length vs) ∷ []) (map is_text vs) left (subst (λ v. ShowsThen bytes rs v left) h.1 g) in
    let n = same-one-number (length ts) (length vs) bytes rs a.0 b.0 a.1.0 b.1.0 in
    let q = same-texts ts vs bytes a.0 rest left n.0 a.1.1 (subst (λ x. ShowsThen bytes x (map is_text vs) left) (sym n.1) b.1.1) in
    (k.1 ∙ ap (λ x. is_number (length x) ∷ map is_text x) q.0 ∙ sym h.1, q.1)

pub rows-only : (fs : List Field) (vs ws : List Value) (bytes : List ℕ) (rs : List ValueRow) → Kinds fs vs → Kinds fs ws → ShowsAll bytes rs vs → ShowsAll bytes rs ws → vs ≡ ws
rows-only [] vs ws bytes rs k h d g = k ∙ sym h
rows-only (f ∷ fs) vs ws bytes rs k h d g =
    let a = shows-split bytes rs k.0 k.1.0 [] (subst (λ v. ShowsAll bytes rs v) k.1.1.1.1 d) in
    let b = shows-split bytes rs h.0 h.1.0 [] (subst (λ v. ShowsAll bytes rs v) h.1.1.1.1 g) in
    let q = field-only (shape f) k.0 h.0 bytes rs a.0 b.0 k.1.1.0 h.1.1.0 a.1.0 b.1.0 in
    let r = rows-only fs k.1.0 h.1.0 bytes a.0 k.1.1.1.0 h.1.1.1.0 a.1.1 (subst (λ x. ShowsAll bytes x h.1.0) (sym q.1) b.1.1) in
    k.1.1.1.1 ∙ ap (λ x. x ++ k.1.0) q.0 ∙ ap (λ x. h.0 ++ x) r ∙ sym h.1.1.1.1

-- the values of a line are of the kinds that its layout has
line-kinds : (n : ℕ) (s : List ℕ) → (ts : List (List ℕ)) × ((length ts ≡ n) × (line_values n s ≡ map is_text ts))
line-kinds zero s = ([], (refl, refl))
line-kinds (suc n) s = let q = line-kinds n (drop 35 s) in (trim (take 35 s) ∷ q.0, (ap suc q.1.0, ap (λ x. is_text (trim (take 35 s)) ∷ x) q.1.1))

field-kinds : (x : Shape) (s : List ℕ) → FieldKinds x (field_values x s)
field-kinds (one (constant bs)) s = refl
field-kinds (one (figures w ok n)) s = (_, refl)
field-kinds (one (letters w c ok n)) s = (_, refl)
field-kinds (one (code c)) s = (_, refl)
field-kinds (block high counts ok) s =
    let n = number_of (take 2 s) in
    let q = line-kinds n (drop 2 s) in
    (q.0, ap (λ x. is_number n ∷ x) q.1.1 ∙ ap (λ k. is_number k ∷ map is_text q.0) (sym q.1.0))

parts-kinds : (fs : List Field) (ss : List (List ℕ)) → Parts fs ss → Kinds fs (values_in fs ss)
parts-kinds [] [] h = refl
parts-kinds [] (s ∷ ss) h = absurd h
parts-kinds (f ∷ fs) [] h = absurd h
parts-kinds (f ∷ fs) (s ∷ ss) h = (field_values (shape f) s, (values_in fs ss, (field-kinds (shape f) s, (parts-kinds fs ss h.1, refl))))

line-kinds-are : (fs : List Field) (line : List ℕ) → Follows fs line → Kinds fs (values_of fs line)
line-kinds-are fs line h = subst (λ ss. Kinds fs (values_in fs ss)) (sym (cut-follows fs line h)) (parts-kinds fs h.parts h.each)

-- of a set
module _ (ls : List (List Field)) (n : ℕ) (bytes : List ℕ) (rs : List ValueRow) (others : List ℕ) (ss : List ValueRow) (law : is_lawful ls ≡ true) where
  same_at : (j : ℕ) (l : List Field) → place ls j ≡ Some l → digits_of l ≡ Some n → same_for ls n bytes rs others ss ≡ Ok (same_rows l bytes rs others ss)
  same_at j l at has =
      let one = positive ls j l at in
      let to : 1 + (j - 1) ≡ j = omega arith in
      ap (λ o. same_by ls o bytes rs others ss) (found_at ls j 1 l n (lawful-layouts ls law) at has ∙ ap Some to) ∙ ap (λ o. Ok (same_rows (or_empty o) bytes rs others ss)) at

  -- the digits name one layout
  same_layout : (j k : ℕ) (l m : List Field) → place ls j ≡ Some l → digits_of l ≡ Some n → place ls k ≡ Some m → digits_of m ≡ Some n → l ≡ m
  same_layout j k l m a b c d =
      let ok = lawful-layouts ls law in
      let e : 1 + (j - 1) ≡ 1 + (k - 1) = same_some (sym (found_at ls j 1 l n ok a b) ∙ found_at ls k 1 m n ok c d) in
      let p = positive ls j l a in
      let q = positive ls k m c in
      let f : j ≡ k = omega arith in
      same_some (sym a ∙ ap (place ls) f ∙ c)

  decides : (l : List Field) → Decides (same_rows l bytes rs others ss) (SameValues l bytes rs others ss)
  decides l = (rows-shown l bytes rs others ss, λ v. rows-meet l v.values bytes rs others ss v.kinds v.one v.other)

  by_answer : (r : Result Bool Refusal) (P : Bool → Type 0) → ((b : Bool) → r ≡ Ok b → P b) → IfOk r P
  by_answer (Ok b) P h = h b refl
  by_answer (Err e) P h = tt

  pub tells-values : (r : Result Bool Refusal) → r ≡ same_for ls n bytes rs others ss → IfOk r (λ b. (j : ℕ) (l : List Field) → place ls j ≡ Some l → digits_of l ≡ Some n → Decides b (SameValues l bytes rs others ss))
  tells-values r is =
      by_answer r (λ b. (j : ℕ) (l : List Field) → place ls j ≡ Some l → digits_of l ≡ Some n → Decides b (SameValues l bytes rs others ss))
      (λ b e j l at has. subst (λ c. Decides c (SameValues l bytes rs others ss)) (same_ok (sym (same_at j l at has) ∙ sym is ∙ e)) (decides l))

  tells-line : (b : Bool) → same_for ls n bytes rs others ss ≡ Ok b → (s t : List ℕ) → ShowsRecord ls n bytes rs s → ShowsRecord ls n others ss t → Decides b (s ≡ t)
  tells-line b e s t x y =
      let i = x.is in
      let l = i.layout in
      let is : same_rows l bytes rs others ss ≡ b = same_ok (sym (same_at i.number l i.at i.has) ∙ e) in
      let kinds : Kinds l x.values = subst (Kinds l) i.values (line-kinds-are l s i.follows) in (
        λ h.
            let v = rows-shown l bytes rs others ss (is ∙ h) in
            let only : v.values ≡ x.values = rows-only l v.values x.values bytes rs v.kinds kinds v.one x.shown in
            same_ok (sym (writes-record ls n others ss s law (record { values = x.values; is = i; shown = subst (ShowsAll others ss) only v.other })) ∙ writes-record ls n others ss t law y),
        λ h.
            let z = subst (ShowsRecord ls n others ss) (sym h) y in
            let j = z.is in
            let same = same_layout i.number j.number l j.layout i.at i.has j.at j.has in
            let vs : z.values ≡ x.values = sym j.values ∙ ap (λ k. values_of k s) (sym same) ∙ i.values in
            sym is ∙ rows-meet l x.values bytes rs others ss kinds x.shown (subst (ShowsAll others ss) vs z.shown),
      )

  pub tells-lines : (r : Result Bool Refusal) → r ≡ same_for ls n bytes rs others ss → IfOk r (λ b. (s t : List ℕ) → ShowsRecord ls n bytes rs s → ShowsRecord ls n others ss t → Decides b (s ≡ t))
  tells-lines r is = by_answer r (λ b. (s t : List ℕ) → ShowsRecord ls n bytes rs s → ShowsRecord ls n others ss t → Decides b (s ≡ t)) (λ b e. tells-line b (sym is ∙ e))
