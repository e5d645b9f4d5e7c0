-- The laws of a part: its rows, its values and its writing.
use Rattle.std.proofs.Common.{◌≡◌, ℕ, ◌+◌, ◌-◌, ◌^◌, ◌<◌, ◌≤◌, Bool, true, false, cond, ◌&&◌, eqb, ltb, leb, List, [], ◌∷◌, ◌++◌, length, get_or, take, drop, sym, refl, ap, ◌∙◌, subst, arith}
use Rattle.std.proofs.lemmas.Bool.{cond-true, and_from, and_parts, lt-ltb, ltb-true, le-leb, leb-true, eq-eqb, eqb-true}
use Rattle.std.proofs.lemmas.List.{take-take, length-take, length-drop, ext_get_or}
use Rattle.basics.specs.declared.bytes.ByteClass.TheVariants as class
use Rattle.basics.specs.Bytes.{allowed, all}
use Rattle.basics.specs.Decimals.{number_of, digits}
use Rattle.basics.specs.Texts.{trim}
use Rattle.basics.proofs.ByteLaws.{at_all, all-at}
use Rattle.basics.proofs.DigitLaws.{Digits, digits-back, number-back, number_lt, length_digits, digits_are}
use Rattle.layouts.specs.Kinds.{Part, constant, figures, letters, code, width}
use Rattle.lines.specs.Belongs.{Fit}
use Rattle.values.specs.declared.row.ValueRow.{ValueRow}
use Rattle.values.specs.Values.{part_values}
use Rattle.values.specs.Rows.{part_rows, text_at, inside, ShowsThen}
use Rattle.values.specs.Writing.{padded, fitting, Step, done, refused, part_step}
use Rattle.values.proofs.Padding.{pad-back, trim-back, trim-twice, trim-take, trim-le, length-padded, untrailed}

-- bytes that fit
pub constant-is : (bs s : List ℕ) → Fit (constant bs) s → s ≡ bs
constant-is bs s f = ext_get_or 0 s bs f.wide (λ k l. let w = f.wide in eqb-true (get_or s k 0) (get_or bs k 0) (f.clean k (omega arith)))

is-constant : (bs : List ℕ) → Fit (constant bs) bs
is-constant bs = record { wide = refl; clean = λ k l. eq-eqb (get_or bs k 0) (get_or bs k 0) refl; value = refl }

pub digits_of_lem : (w : ℕ) (ok : ℕ → Bool) (n : ℕ) (s : List ℕ) → Fit (figures w ok n) s → Digits s
digits_of_lem w ok n s f = at_all (allowed class.Digit) s (λ j l. f.clean j (subst (λ m. j < m) f.wide l))

letters-of : (w : ℕ) (c : ℕ → Bool) (ok : List ℕ → Bool) (n : ℕ) (s : List ℕ) → Fit (letters w c ok n) s → all c s ≡ true
letters-of w c ok n s f = at_all c s (λ j l. f.clean j (subst (λ m. j < m) f.wide l))

single : (s : List ℕ) → length s ≡ 1 → get_or s 0 0 ∷ [] ≡ s
single [] h = absurd (omega arith)
single (x ∷ []) h = refl
single (x ∷ y ∷ ys) h = absurd (omega arith)

pub never : {P E : Type 0} {e : E} {s : List ℕ} {rest : List ValueRow} → ◌≡◌ {A = Step E} (refused e) (done s rest) → P
never e = let z : ◌≡◌ {A = ℕ} 0 1 = cc in absurd (omega arith)

picked : (b : Bool) (a s : List ℕ) (m rest : List ValueRow) (n : ℕ) → cond b (done a m) (refused n) ≡ done s rest → (b ≡ true) × (a ≡ s) × (m ≡ rest)
picked true a s m rest n e = (refl, cc, cc)
picked false a s m rest n e = never e

-- rows that show the values of lawful bytes are written as those bytes
pub writes-part : (q : Part) (s bytes : List ℕ) (rs rest : List ValueRow) → Fit q s → ShowsThen bytes rs (part_values q s) rest → part_step q bytes rs ≡ done s rest
writes-part (constant bs) s bytes rs rest h d = let e = constant-is bs s h in cc
writes-part (figures w ok n) s bytes [] rest h d = absurd d
writes-part (figures w ok n) s bytes (r ∷ rs) rest h d =
    let m = d.0 in
    let ds = digits_of_lem w ok n s h in
    let e : digits w r.number ≡ s = ap (digits w) m ∙ ap (λ k. digits k (number_of s)) (sym h.wide) ∙ digits-back s ds in
    let l = d.1 in
    cond-true (ltb r.number (10 ^ w) && ok r.number) (done (digits w r.number) rs) (refused 43)
    (and_from _ _ (lt-ltb r.number (10 ^ w) (omega (arith, number_lt s ds, ap (λ k. 10 ^ k) h.wide))) (ap ok m ∙ h.value))
    ∙ cc
writes-part (letters w c ok n) s bytes [] rest h d = absurd d
writes-part (letters w c ok n) s bytes (r ∷ rs) rest h d =
    let t = d.0.1 in
    let e : padded w (text_at bytes r) ≡ s = ap (padded w) t ∙ ap (λ k. padded k (trim s)) (sym h.wide) ∙ pad-back s in
    let m = d.1 in
    cond-true (inside bytes r && fitting w c ok (text_at bytes r)) (done (padded w (text_at bytes r)) rs) (refused 43)
    (and_from _ _ d.0.0
    (and_from _ _ (le-leb _ _ (omega (arith, ap length t, trim-le s, h.wide)))
    (and_from _ _ (eq-eqb _ _ (ap length (ap trim t ∙ trim-twice s ∙ sym t))) (and_from _ _ (ap (all c) e ∙ letters-of w c ok n s h) (ap ok e ∙ h.value)))))
    ∙ cc
writes-part (code c) s bytes [] rest h d = absurd d
writes-part (code c) s bytes (r ∷ rs) rest h d =
    let m = d.0 in
    let e = single s h.wide in
    let l = d.1 in
    cond-true (c r.number) (done (r.number ∷ []) rs) (refused 43) (ap c m ∙ h.clean 0 (omega arith)) ∙ cc

fit_at : (q : Part) (c : ℕ → Bool) (s : List ℕ) → length s ≡ width q → all c s ≡ true → (j : ℕ) → j < width q → c (get_or s j 0) ≡ true
fit_at q c s w h j l = all-at c s j h (subst (λ m. j < m) (sym w) l)

-- what is written is lawful, and its values are those that the rows show
pub reads-part : (q : Part) (s bytes : List ℕ) (rs rest : List ValueRow) → part_step q bytes rs ≡ done s rest → Fit q s × ShowsThen bytes rs (part_values q s) rest
reads-part (constant bs) s bytes rs rest e =
    let a : bs ≡ s = cc in
    (subst (Fit (constant bs)) a (is-constant bs), cc)
reads-part (figures w ok n) s bytes [] rest e = never e
reads-part (figures w ok n) s bytes (r ∷ rs) rest e =
    let q = picked (ltb r.number (10 ^ w) && ok r.number) (digits w r.number) s rs rest 43 e in
    let b = and_parts (ltb r.number (10 ^ w)) (ok r.number) q.0 in
    let m : r.number ≡ number_of s = sym (number-back w r.number (ltb-true _ _ b.0)) ∙ ap number_of q.1 in
    let wide : length s ≡ w = ap length (sym q.1) ∙ length_digits w r.number in
    (record { wide = wide; clean = fit_at (figures w ok n) (allowed class.Digit) s wide (subst Digits q.1 (digits_are w r.number)); value = ap ok (sym m) ∙ b.1 }, (m, q.2))
reads-part (letters w c ok n) s bytes [] rest e = never e
reads-part (letters w c ok n) s bytes (r ∷ rs) rest e =
    let t : List ℕ = text_at bytes r in
    let q = picked (inside bytes r && fitting w c ok t) (padded w t) s rs rest 43 e in
    let b = and_parts (inside bytes r) (fitting w c ok t) q.0 in
    let l = and_parts (leb (length t) w) (eqb (length (trim t)) (length t) && (all c (padded w t) && ok (padded w t))) b.1 in
    let u = and_parts (eqb (length (trim t)) (length t)) (all c (padded w t) && ok (padded w t)) l.1 in
    let v = and_parts (all c (padded w t)) (ok (padded w t)) u.1 in
    let m : trim s ≡ t = ap trim (sym q.1) ∙ trim-back w t (untrailed t (eqb-true _ _ u.0)) in
    let wide : length s ≡ w = ap length (sym q.1) ∙ length-padded w t (leb-true _ _ l.0) in
    (record { wide = wide; clean = fit_at (letters w c ok n) c s wide (ap (all c) (sym q.1) ∙ v.0); value = ap ok (sym q.1) ∙ v.1 }, ((b.0, sym m), q.2))
reads-part (code c) s bytes [] rest e = never e
reads-part (code c) s bytes (r ∷ rs) rest e =
    let q = picked (c r.number) (r.number ∷ []) s rs rest 43 e in
    let m : r.number ≡ get_or s 0 0 = ap (λ x. get_or x 0 0) q.1 in
    let wide : length s ≡ 1 = ap length (sym q.1) in
    let good : all c s ≡ true = ap (all c) (sym q.1) ∙ and_from (c r.number) true q.0 refl in
    (record { wide = wide; clean = fit_at (code c) c s wide good; value = refl }, (m, q.2))

-- the rows of a part of a line show its values, over the line
pub shows-part : (q : Part) (line : List ℕ) (k : ℕ) (s : List ℕ) (rest : List ValueRow) → s ≡ take (width q) (drop k line) → k ≤ length line → Fit q s → ShowsThen line (part_rows q k s ++ rest) (part_values q s) rest
shows-part (constant bs) line k s rest e le h = refl
shows-part (figures w ok n) line k s rest e le h = (refl, refl)
shows-part (letters w c ok n) line k s rest e le h =
    let m : length s ≤ length line - k = omega (arith, ap length e, length-take w (drop k line), length-drop k line) in
    let z : k + 1 - 1 ≡ k = omega arith in
    let t : take (length (trim s)) (drop (k + 1 - 1) line) ≡ trim s =
    ap (λ i. take (length (trim s)) (drop i line)) z
    ∙ sym (take-take (length (trim s)) w (drop k line) (omega (arith, trim-le s, h.wide)))
    ∙ ap (take (length (trim s))) (sym e)
    ∙ trim-take s in
    let low : 1 ≤ k + 1 = omega arith in
    let high : k + 1 + length (trim s) ≤ length line + 1 = omega (arith, trim-le s) in
    ((and_from _ _ (le-leb _ _ low) (le-leb _ _ high), t), refl)
shows-part (code c) line k s rest e le h = (refl, refl)
