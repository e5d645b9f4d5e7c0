-- The laws of a field, and of the parts of a layout.
use Rattle.std.proofs.Common.{◌≡◌, ℕ, zero, suc, ◌+◌, ◌*◌, ◌<◌, ◌≤◌, Bool, List, [], ◌∷◌, ◌++◌, length, take, drop, sym, refl, ap, ◌∙◌, subst, append_assoc, arith, length-append}
use Rattle.std.proofs.lemmas.List.{take-append-drop, take_at, drop_at, take-append-le, drop-drop, length-take, length-drop, nil_from_length}
use Rattle.basics.specs.Decimals.{number_of}
use Rattle.layouts.specs.declared.field.Field.{Field}
use Rattle.layouts.specs.Kinds.{Part, Shape, one, block, shape, count, line, width}
use Rattle.lines.specs.Belongs.{Fit, Block, Lawful, Parts, joining}
use Rattle.values.specs.declared.row.ValueRow.{ValueRow}
use Rattle.values.specs.Values.{Value, line_values, part_values, field_values, extent, cuts, values_in}
use Rattle.values.specs.Rows.{part_rows, line_rows, field_rows, rows_in, ShowsThen}
use Rattle.values.specs.Writing.{Step, done, refused, before, chain, row_step, line_steps, field_step, placed, field_steps}
use Rattle.values.proofs.PartLaws.{never, writes-part, reads-part, shows-part}

-- values one after another
pub shows-join : (bytes : List ℕ) (rs : List ValueRow) (vs ws : List Value) (mid rest : List ValueRow) → ShowsThen bytes rs vs mid → ShowsThen bytes mid ws rest → ShowsThen bytes rs (vs ++ ws) rest
shows-join bytes rs [] ws mid rest d g = subst (λ x. ShowsThen bytes x ws rest) (sym d) g
shows-join bytes [] (v ∷ vs) ws mid rest d g = absurd d
shows-join bytes (r ∷ rs) (v ∷ vs) ws mid rest d g = (d.0, shows-join bytes rs vs ws mid rest d.1 g)

pub shows-split : (bytes : List ℕ) (rs : List ValueRow) (vs ws : List Value) (rest : List ValueRow) → ShowsThen bytes rs (vs ++ ws) rest → (mid : List ValueRow) × (ShowsThen bytes rs vs mid × ShowsThen bytes mid ws rest)
shows-split bytes rs [] ws rest d = (rs, (refl, d))
shows-split bytes [] (v ∷ vs) ws rest d = absurd d
shows-split bytes (r ∷ rs) (v ∷ vs) ws rest d = let q = shows-split bytes rs vs ws rest d.1 in (q.0, ((d.0, q.1.0), q.1.1))

-- steps one after another
pub record Chained {E : Type 0} (x : Step E) (k : List ValueRow → Step E) (s : List ℕ) (rest : List ValueRow) : Type 0 where
  pub a : List ℕ
  pub mid : List ValueRow
  pub b : List ℕ
  pub first : x ≡ done a mid
  pub next : k mid ≡ done b rest
  pub whole : a ++ b ≡ s

before-done : {E : Type 0} (a : List ℕ) (y : Step E) (s : List ℕ) (rest : List ValueRow) → before a y ≡ done s rest → (b : List ℕ) × ((y ≡ done b rest) × (a ++ b ≡ s))
before-done a (done b m) s rest e = (b, (cc, cc))
before-done a (refused x) s rest e = never e

pub chained : {E : Type 0} (x : Step E) (k : List ValueRow → Step E) (s : List ℕ) (rest : List ValueRow) → chain x k ≡ done s rest → Chained x k s rest
chained (done a m) k s rest e = let q = before-done a (k m) s rest e in record { a = a; mid = m; b = q.0; first = refl; next = q.1.0; whole = q.1.1 }
chained (refused x) k s rest e = never e

-- a list cut where its front ends
at_cut : (P : List ℕ → List ℕ → Type 0) (a b s : List ℕ) (w : ℕ) → a ++ b ≡ s → length a ≡ w → P a b → P (take w s) (drop w s)
at_cut P a b s w e l h =
    let ta : a ≡ take w s = sym (take_at a b w l) ∙ ap (take w) e in
    let db : b ≡ drop w s = sym (drop_at a b w l) ∙ ap (drop w) e in
    subst (λ x. P x (drop w s)) ta (subst (P a) db h)

-- n lawful lines
pub record Many (ok : List ℕ → Bool) (n : ℕ) (s : List ℕ) : Type 0 where
  pub wide : length s ≡ 35 * n
  pub each : (k : ℕ) → k < n → Fit (line ok) (take 35 (drop (35 * k) s))

many-first : (ok : List ℕ → Bool) (n : ℕ) (s : List ℕ) → Many ok (suc n) s → Fit (line ok) (take 35 s)
many-first ok n s m = m.each 0 (omega arith)

many-rest : (ok : List ℕ → Bool) (n : ℕ) (s : List ℕ) → Many ok (suc n) s → Many ok n (drop 35 s)
many-rest ok n s m =
    record {
      wide = let w = m.wide in let d = length-drop 35 s in omega arith;
      each = λ k l.
          let b : 35 * suc k ≡ 35 + 35 * k = omega arith in
          subst (λ t. Fit (line ok) (take 35 t)) (ap (λ i. drop i s) b ∙ sym (drop-drop (35 * k) 35 s)) (m.each (suc k) (omega arith));
    }

more-each : (ok : List ℕ → Bool) (n : ℕ) (s : List ℕ) → Fit (line ok) (take 35 s) → Many ok n (drop 35 s) → (k : ℕ) → k < suc n → Fit (line ok) (take 35 (drop (35 * k) s))
more-each ok n s f m zero l = f
more-each ok n s f m (suc k) l =
    let b : 35 + 35 * k ≡ 35 * suc k = omega arith in
    subst (λ t. Fit (line ok) (take 35 t)) (drop-drop (35 * k) 35 s ∙ ap (λ i. drop i s) b) (m.each k (omega arith))

many_more : (ok : List ℕ → Bool) (n : ℕ) (s : List ℕ) → Fit (line ok) (take 35 s) → Many ok n (drop 35 s) → Many ok (suc n) s
many_more ok n s f m =
    let w = f.wide in
    let v = m.wide in
    let t = length-take 35 s in
    let d = length-drop 35 s in
    record { wide = omega arith; each = more-each ok n s f m }

-- a block's lines
pub block-lines : (counts : ℕ → Bool) (ok : List ℕ → Bool) (s : List ℕ) → Block counts ok s → Many ok (number_of (take 2 s)) (drop 2 s)
block-lines counts ok s h =
    record {
      wide = let w = h.wide in let d = length-drop 2 s in omega arith;
      each = λ k l. subst (λ t. Fit (line ok) (take 35 t)) (sym (drop-drop (35 * k) 2 s)) (h.each k l);
    }

lines-block : (counts : ℕ → Bool) (ok : List ℕ → Bool) (s : List ℕ) → Fit (count counts) (take 2 s) → Many ok (number_of (take 2 s)) (drop 2 s) → Block counts ok s
lines-block counts ok s f m =
    record {
      counted = f;
      wide = let w = m.wide in let v = f.wide in let t = length-take 2 s in let d = length-drop 2 s in omega arith;
      each = λ k l. subst (λ t. Fit (line ok) (take 35 t)) (drop-drop (35 * k) 2 s) (m.each k l);
    }

writes-lines : (ok : List ℕ → Bool) (n : ℕ) (s bytes : List ℕ) (rs rest : List ValueRow) → Many ok n s → ShowsThen bytes rs (line_values n s) rest → line_steps ok n bytes rs ≡ done s rest
writes-lines ok zero s bytes rs rest m d = let z = nil_from_length s m.wide in cc
writes-lines ok (suc n) s bytes [] rest m d = absurd d
writes-lines ok (suc n) s bytes (r ∷ rs) rest m d =
    ap (λ x. chain x (line_steps ok n bytes)) (writes-part (line ok) (take 35 s) bytes (r ∷ rs) rs (many-first ok n s m) (d.0, refl))
    ∙ ap (before (take 35 s)) (writes-lines ok n (drop 35 s) bytes rs rest (many-rest ok n s m) d.1)
    ∙ ap (λ x. done x rest) (take-append-drop 35 s)

none-many : (ok : List ℕ → Bool) (s : List ℕ) → [] ≡ s → Many ok 0 s
none-many ok s e = record { wide = sym (ap length e); each = λ k l. absurd (omega arith) }

reads_lines : (ok : List ℕ → Bool) (n : ℕ) (s bytes : List ℕ) (rs rest : List ValueRow) → line_steps ok n bytes rs ≡ done s rest → Many ok n s × ShowsThen bytes rs (line_values n s) rest
reads_lines ok zero s bytes rs rest e = (none-many ok s (cc), cc)
reads_lines ok (suc n) s bytes rs rest e =
    let c = chained (row_step (line ok) bytes rs) (line_steps ok n bytes) s rest e in
    let f = reads-part (line ok) c.a bytes rs c.mid c.first in
    let g = reads_lines ok n c.b bytes c.mid rest c.next in
    let h =
    at_cut (λ x y. (Fit (line ok) x × Many ok n y) × ShowsThen bytes rs (part_values (line ok) x ++ line_values n y) rest) c.a c.b s 35 c.whole f.0.wide
    ((f.0, g.0), shows-join bytes rs (part_values (line ok) c.a) (line_values n c.b) c.mid rest f.1 g.1) in
    (many_more ok n s h.0.0 h.0.1, h.1)

-- one field
writes-field : (f : Shape) (s bytes : List ℕ) (rs rest : List ValueRow) → Lawful f s → ShowsThen bytes rs (field_values f s) rest → field_step f bytes rs ≡ done s rest
writes-field (one q) s bytes rs rest h d = writes-part q s bytes rs rest h d
writes-field (block high counts ok) s bytes [] rest h d = absurd d
writes-field (block high counts ok) s bytes (r ∷ rs) rest h d =
    ap (λ x. chain x (line_steps ok r.number bytes)) (writes-part (count counts) (take 2 s) bytes (r ∷ rs) rs h.counted (d.0, refl))
    ∙ ap (λ n. before (take 2 s) (line_steps ok n bytes rs)) d.0
    ∙ ap (before (take 2 s)) (writes-lines ok (number_of (take 2 s)) (drop 2 s) bytes rs rest (block-lines counts ok s h) d.1)
    ∙ ap (λ x. done x rest) (take-append-drop 2 s)

reads-field : (f : Shape) (s bytes : List ℕ) (rs rest : List ValueRow) → field_step f bytes rs ≡ done s rest → Lawful f s × ShowsThen bytes rs (field_values f s) rest
reads-field (one q) s bytes rs rest e = reads-part q s bytes rs rest e
reads-field (block high counts ok) s bytes [] rest e = never e
reads-field (block high counts ok) s bytes (r ∷ rs) rest e =
    let c = chained (row_step (count counts) bytes (r ∷ rs)) (line_steps ok r.number bytes) s rest e in
    let f = reads-part (count counts) c.a bytes (r ∷ rs) c.mid c.first in
    let g = reads_lines ok r.number c.b bytes c.mid rest c.next in
    let m = subst (λ n. Many ok n c.b × ShowsThen bytes c.mid (line_values n c.b) rest) f.1.0 g in
    let h =
    at_cut (λ x y. (Fit (count counts) x × Many ok (number_of x) y) × ShowsThen bytes (r ∷ rs) (part_values (count counts) x ++ line_values (number_of x) y) rest) c.a c.b s 2 c.whole f.0.wide
    ((f.0, m.0), shows-join bytes (r ∷ rs) (part_values (count counts) c.a) (line_values (number_of c.a) c.b) c.mid rest f.1 m.1) in
    (lines-block counts ok s h.0.0 h.0.1, h.1)

-- how far a field goes
pub extent-is : (f : Shape) (a b : List ℕ) → Lawful f a → extent f (a ++ b) ≡ length a
extent-is (one q) a b h = sym h.wide
extent-is (block high counts ok) a b h =
    let two : 2 ≤ length a = let w = h.wide in omega arith in
    ap (λ x. 2 + 35 * number_of x) (take-append-le 2 a b two) ∙ sym h.wide

-- a line of lawful parts is cut into them
pub cuts_are : (fs : List Field) (ss : List (List ℕ)) → Parts fs ss → cuts fs (joining ss) ≡ ss
cuts_are [] [] h = refl
cuts_are [] (s ∷ ss) h = absurd h
cuts_are (f ∷ fs) [] h = absurd h
cuts_are (f ∷ fs) (s ∷ ss) h =
    let e = sym (extent-is (shape f) s (joining ss) h.0) in
    at_cut (λ x y. x ∷ cuts fs y ≡ s ∷ ss) s (joining ss) (s ++ joining ss) (extent (shape f) (s ++ joining ss)) refl e (ap (λ t. s ∷ t) (cuts_are fs ss h.1))

-- the parts of a layout
pub writes-parts : (i : ℕ) (fs : List Field) (ss : List (List ℕ)) (bytes : List ℕ) (rs rest : List ValueRow) → Parts fs ss → ShowsThen bytes rs (values_in fs ss) rest → field_steps i fs bytes rs ≡ done (joining ss) rest
writes-parts i [] [] bytes rs rest h d = cc
writes-parts i [] (s ∷ ss) bytes rs rest h d = absurd h
writes-parts i (f ∷ fs) [] bytes rs rest h d = absurd h
writes-parts i (f ∷ fs) (s ∷ ss) bytes rs rest h d =
    let q = shows-split bytes rs (field_values (shape f) s) (values_in fs ss) rest d in
    ap (λ x. chain (placed i x) (field_steps (i + 1) fs bytes)) (writes-field (shape f) s bytes rs q.0 h.0 q.1.0)
    ∙ ap (before s) (writes-parts (i + 1) fs ss bytes q.0 rest h.1 q.1.1)

pub record PartsShown (fs : List Field) (bytes : List ℕ) (rs rest : List ValueRow) (s : List ℕ) : Type 0 where
  pub parts : List (List ℕ)
  pub each : Parts fs parts
  pub whole : joining parts ≡ s
  pub shown : ShowsThen bytes rs (values_in fs parts) rest

pub placed-done : (i : ℕ) (x : Step ℕ) (a : List ℕ) (m : List ValueRow) → placed i x ≡ done a m → x ≡ done a m
placed-done i (done b r) a m e = let p : b ≡ a = cc in let q : r ≡ m = cc in cc
placed-done i (refused n) a m e = never e

pub reads-parts : (i : ℕ) (fs : List Field) (s bytes : List ℕ) (rs rest : List ValueRow) → field_steps i fs bytes rs ≡ done s rest → PartsShown fs bytes rs rest s
reads-parts i [] s bytes rs rest e = record { parts = []; each = tt; whole = cc; shown = cc }
reads-parts i (f ∷ fs) s bytes rs rest e =
    let c = chained (placed i (field_step (shape f) bytes rs)) (field_steps (i + 1) fs bytes) s rest e in
    let x = reads-field (shape f) c.a bytes rs c.mid (placed-done i (field_step (shape f) bytes rs) c.a c.mid c.first) in
    let y = reads-parts (i + 1) fs c.b bytes c.mid rest c.next in
    record {
      parts = c.a ∷ y.parts;
      each = (x.0, y.each);
      whole = ap (λ t. c.a ++ t) y.whole ∙ c.whole;
      shown = shows-join bytes rs (field_values (shape f) c.a) (values_in fs y.parts) c.mid rest x.1 y.shown;
    }

-- the rows of a line, over the line
later : (line : List ℕ) (k : ℕ) (a b : List ℕ) (w : ℕ) → length a ≡ w → drop k line ≡ a ++ b → k ≤ length line → (drop (k + w) line ≡ b) × (k + w ≤ length line)
later line k a b w l d le = (sym (drop-drop w k line) ∙ ap (drop w) d ∙ drop_at a b w l, omega (arith, ap length d, length-drop k line, length-append a b))

shows-here : (q : Part) (line : List ℕ) (k : ℕ) (s post : List ℕ) (rest : List ValueRow) → drop k line ≡ s ++ post → k ≤ length line → Fit q s → ShowsThen line (part_rows q k s ++ rest) (part_values q s) rest
shows-here q line k s post rest d le h = shows-part q line k s rest (sym (ap (take (width q)) d ∙ take_at s post (width q) h.wide)) le h

both-rows : (line : List ℕ) (xs ys : List ValueRow) (vs ws : List Value) (rest : List ValueRow) → ShowsThen line (xs ++ (ys ++ rest)) vs (ys ++ rest) → ShowsThen line (ys ++ rest) ws rest → ShowsThen line ((xs ++ ys) ++ rest) (vs ++ ws) rest
both-rows line xs ys vs ws rest d g =
    subst (λ x. ShowsThen line x (vs ++ ws) rest) (sym (append_assoc xs ys rest)) (shows-join line (xs ++ (ys ++ rest)) vs ws (ys ++ rest) rest d g)

shows-lines : (ok : List ℕ → Bool) (n : ℕ) (line' : List ℕ) (k : ℕ) (s post : List ℕ) (rest : List ValueRow) → drop k line' ≡ s ++ post → k ≤ length line' → Many ok n s → ShowsThen line' (line_rows n k s ++ rest) (line_values n s) rest
shows-lines ok zero line' k s post rest d le m = refl
shows-lines ok (suc n) line' k s post rest d le m =
    let f = many-first ok n s m in
    let e : drop k line' ≡ take 35 s ++ (drop 35 s ++ post) = d ∙ ap (λ x. x ++ post) (sym (take-append-drop 35 s)) ∙ append_assoc (take 35 s) (drop 35 s) post in
    let q = later line' k (take 35 s) (drop 35 s ++ post) 35 f.wide e le in
    let h = shows-here (line ok) line' k (take 35 s) (drop 35 s ++ post) (line_rows n (k + 35) (drop 35 s) ++ rest) e le f in
    (h.0, shows-lines ok n line' (k + 35) (drop 35 s) post rest q.0 q.1 (many-rest ok n s m))

shows-field : (f : Shape) (line' : List ℕ) (k : ℕ) (s post : List ℕ) (rest : List ValueRow) → drop k line' ≡ s ++ post → k ≤ length line' → Lawful f s → ShowsThen line' (field_rows f k s ++ rest) (field_values f s) rest
shows-field (one q) line' k s post rest d le h = shows-here q line' k s post rest d le h
shows-field (block high counts ok) line' k s post rest d le h =
    let e : drop k line' ≡ take 2 s ++ (drop 2 s ++ post) = d ∙ ap (λ x. x ++ post) (sym (take-append-drop 2 s)) ∙ append_assoc (take 2 s) (drop 2 s) post in
    let q = later line' k (take 2 s) (drop 2 s ++ post) 2 h.counted.wide e le in
    (refl, shows-lines ok (number_of (take 2 s)) line' (k + 2) (drop 2 s) post rest q.0 q.1 (block-lines counts ok s h))

pub shows-parts : (fs : List Field) (ss : List (List ℕ)) (line : List ℕ) (k : ℕ) → Parts fs ss → drop k line ≡ joining ss → k ≤ length line → ShowsThen line (rows_in fs k ss ++ []) (values_in fs ss) []
shows-parts [] [] line k h d le = refl
shows-parts [] (s ∷ ss) line k h d le = absurd h
shows-parts (f ∷ fs) [] line k h d le = absurd h
shows-parts (f ∷ fs) (s ∷ ss) line k h d le =
    let q = later line k s (joining ss) (length s) refl d le in
    both-rows line (field_rows (shape f) k s) (rows_in fs (k + length s) ss) (field_values (shape f) s) (values_in fs ss) []
    (shows-field (shape f) line k s (joining ss) (rows_in fs (k + length s) ss ++ []) d le h.0)
    (shows-parts fs ss line (k + length s) h.1 q.0 q.1)
