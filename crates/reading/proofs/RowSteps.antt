-- Rows laid one after another, and what a lawful part says of them.
use Rattle.std.proofs.Common.{◌≡◌, ℕ, zero, suc, ◌+◌, ◌-◌, ◌*◌, ◌^◌, ◌<◌, ◌≤◌, Bool, List, [], ◌∷◌, ◌++◌, length, take, drop, set, sym, refl, ap, ◌∙◌, subst, append_assoc, add-zero, zero-add, arith, length-set}
use Rattle.std.proofs.lemmas.List.{drop-drop, take-append-drop, take_more_set, drop-set-lt, length-take}
use Rattle.basics.specs.Decimals.{number_of}
use Rattle.basics.proofs.DigitLaws.{Digits, number_lt}
use Rattle.layouts.specs.Kinds.{Shape, count}
use Rattle.lines.specs.Belongs as lines
use Rattle.lines.specs.Belongs.{Fit, Lawful}
use Rattle.lines.specs.Rules.{number_test, text_test}
use Rattle.lines.specs.declared.rules.NumberRule.{NumberRule}
use Rattle.lines.specs.declared.rules.TextRule.{TextRule}
use Rattle.values.specs.declared.form.Form.{Form}
use Rattle.values.specs.declared.form.Form.TheVariants.{Figures, Block}
use Rattle.values.specs.Forms.{shape_of}
use Rattle.values.specs.declared.row.ValueRow.{ValueRow}
use Rattle.values.specs.Values.{extent}
use Rattle.values.specs.Rows.{number_row, text_row, line_rows, field_rows, laid}
use Rattle.values.proofs.PartLaws.{digits_of_lem}
use Rattle.values.proofs.FieldLaws.{extent-is}
use Rattle.reading.specs.Reading.{Narrow}

-- one line more of a block
pub lines_more : (rows : List ValueRow) (top n k p : ℕ) (s t : List ℕ) → k < n → t ≡ take (35 * k + 35 - 35 * k) (drop (35 * k) s) → laid (set rows top (text_row (p + 35 * k) t)) (top + 1) (line_rows (n - (k + 1)) (p + 35 * (k + 1)) (drop (35 * (k + 1)) s)) ≡ laid rows top (line_rows (n - k) (p + 35 * k) (drop (35 * k) s))
lines_more rows top n k p s t h e =
    let w : 35 * k + 35 - 35 * k ≡ 35 = omega arith in
    let m : n - k ≡ suc (n - (k + 1)) = omega arith in
    let j : p + 35 * (k + 1) ≡ p + 35 * k + 35 = omega arith in
    let a : 35 * (k + 1) ≡ 35 * k + 35 = omega arith in
    let d : drop (35 * (k + 1)) s ≡ drop 35 (drop (35 * k) s) = ap (λ x. drop x s) a ∙ sym (drop-drop 35 (35 * k) s) in
    let is : t ≡ take 35 (drop (35 * k) s) = e ∙ ap (λ x. take x (drop (35 * k) s)) w in
    ap (λ x. laid (set rows top (text_row (p + 35 * k) x)) (top + 1) (line_rows (n - (k + 1)) (p + 35 * (k + 1)) (drop (35 * (k + 1)) s))) is
    ∙ ap (λ x. laid (set rows top (text_row (p + 35 * k) (take 35 (drop (35 * k) s)))) (top + 1) (line_rows (n - (k + 1)) x (drop (35 * (k + 1)) s))) j
    ∙ ap (λ x. laid (set rows top (text_row (p + 35 * k) (take 35 (drop (35 * k) s)))) (top + 1) (line_rows (n - (k + 1)) (p + 35 * k + 35) x)) d
    ∙ sym (ap (λ x. laid rows top (line_rows x (p + 35 * k) (drop (35 * k) s))) m)

pub length-lines : (n p : ℕ) (s : List ℕ) → length (line_rows n p s) ≡ n
length-lines zero p s = refl
length-lines (suc n) p s = ap suc (length-lines n (p + 35) (drop 35 s))

-- the count of a block
pub record Counted (s : List ℕ) : Type 0 where
  pub two : 2 ≤ length s
  pub digits : Digits (take 2 s)
  pub few : number_of (take 2 s) < 100

pub counted : (ok : ℕ → Bool) (s : List ℕ) → Fit (count ok) (take 2 s) → Counted s
counted ok s f =
    let w = f.wide in
    let t = length-take 2 s in
    let d = digits_of_lem 2 ok 15 (take 2 s) f in
    let l = subst (λ n. number_of (take 2 s) < 10 ^ n) w (number_lt (take 2 s) d) in
    record { two = omega arith; digits = d; few = omega arith }

-- a block, as the code knows it
pub record IsBlock (x : Form) (s : List ℕ) : Type 0 where
  pub counted : Counted s
  pub whole : length s ≡ 2 + 35 * number_of (take 2 s)
  pub rows : (p : ℕ) → field_rows (shape_of x) p s ≡ number_row (number_of (take 2 s)) ∷ line_rows (number_of (take 2 s)) (p + 2) (drop 2 s)
  pub many : (p : ℕ) → length (field_rows (shape_of x) p s) ≡ 1 + number_of (take 2 s)

pub is_block : (x : Form) (high : ℕ) (counts : NumberRule) (texts : TextRule) (s : List ℕ) → x ≡ Block high counts texts → Lawful (shape_of x) s → IsBlock x s
is_block x high counts texts s e h =
    let b : lines.Block (number_test counts) (text_test texts) s = subst (λ y. Lawful (shape_of y) s) e h in
    let r : (p : ℕ) → field_rows (shape_of x) p s ≡ number_row (number_of (take 2 s)) ∷ line_rows (number_of (take 2 s)) (p + 2) (drop 2 s) = λ p. ap (λ y. field_rows (shape_of y) p s) e in
    record {
      counted = counted (number_test counts) s b.counted;
      whole = b.wide;
      rows = r;
      many = λ p. ap length (r p) ∙ omega (arith, length-lines (number_of (take 2 s)) (p + 2) (drop 2 s));
    }

-- digits, as the code knows them
pub is-figures : (x : Form) (w : ℕ) (rule : NumberRule) (s : List ℕ) → x ≡ Figures w rule → Lawful (shape_of x) s → Narrow (shape_of x) → Digits s × (length s ≤ 19)
is-figures x w rule s e h n =
    let f = subst (λ y. Lawful (shape_of y) s) e h in
    let l : w ≤ 19 = subst (λ y. Narrow (shape_of y)) e n in
    let wide = f.wide in
    (digits_of_lem w (number_test rule) _ s f, omega arith)

-- a lawful part lies within what it is cut from
pub cut-whole : (x : Shape) (s : List ℕ) → Lawful x (take (extent x s) s) → length (take (extent x s) s) ≡ extent x s
cut-whole x s h = sym (ap (extent x) (sym (take-append-drop (extent x s) s)) ∙ extent-is x (take (extent x s) s) (drop (extent x s) s) h)

pub cut-within : (x : Shape) (s : List ℕ) → Lawful x (take (extent x s) s) → extent x s ≤ length s
cut-within x s h = let c = cut-whole x s h in let t = length-take (extent x s) s in omega arith

-- rows laid one after another
pub laid-append : (rows : List ValueRow) (u : ℕ) (ys zs : List ValueRow) → laid rows u (ys ++ zs) ≡ laid (laid rows u ys) (u + length ys) zs
laid-append rows u [] zs = ap (λ k. laid rows k zs) (sym (add-zero u))
laid-append rows u (y ∷ ys) zs =
    let e : u + 1 + length ys ≡ u + suc (length ys) = omega arith in
    laid-append (set rows u y) (u + 1) ys zs ∙ ap (λ k. laid (laid (set rows u y) (u + 1) ys) k zs) e

laid_from : (rows : List ValueRow) (u : ℕ) (ys : List ValueRow) → u + length ys ≤ length rows → laid rows u ys ≡ take u rows ++ (ys ++ drop (u + length ys) rows)
laid_from rows u [] h = sym (ap (λ k. take u rows ++ drop k rows) (add-zero u) ∙ take-append-drop u rows)
laid_from rows u (y ∷ ys) h =
    let l : u < length rows = omega arith in
    let s : u + 1 + length ys ≡ u + suc (length ys) = omega arith in
    laid_from (set rows u y) (u + 1) ys (omega (arith, length-set rows u y))
    ∙ ap (λ x. x ++ (ys ++ drop (u + 1 + length ys) (set rows u y))) (take_more_set rows u y l)
    ∙ append_assoc (take u rows) (y ∷ []) (ys ++ drop (u + 1 + length ys) (set rows u y))
    ∙ ap (λ x. take u rows ++ (y ∷ (ys ++ x))) (drop-set-lt (u + 1 + length ys) rows u y (omega arith) ∙ ap (λ k. drop k rows) s)

pub length-laid : (rows : List ValueRow) (u : ℕ) (ys : List ValueRow) → length (laid rows u ys) ≡ length rows
length-laid rows u [] = refl
length-laid rows u (y ∷ ys) = length-laid (set rows u y) (u + 1) ys ∙ length-set rows u y

-- rows laid from the first on
pub laid-front : (rows ys : List ValueRow) → length ys ≤ length rows → laid rows 0 ys ≡ ys ++ drop (length ys) rows
laid-front rows ys h = laid_from rows 0 ys (omega arith) ∙ ap (λ k. ys ++ drop k rows) (zero-add (length ys))
