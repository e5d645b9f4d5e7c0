-- The size of a step.
use Rattle.std.proofs.Common.{◌≡◌, ℕ, suc, ◌+◌, ◌-◌, ◌*◌, ◌^◌, ◌<◌, ◌≤◌, Bool, ltb, List, [], ◌∷◌, length, get_or, drop, IfOk, Ok, Err, Result, sym, refl, ap, ◌∙◌, subst, arith, length-append}
use Rattle.std.proofs.lemmas.List.{drop-drop, length-drop}
use Rattle.std.proofs.lemmas.Bool.{and_parts, ltb-true}
use Rattle.basics.specs.declared.refusal.Refusal.{Refusal}
use Rattle.basics.specs.Refusals.{refusal}
use Rattle.layouts.specs.declared.field.Field.{Field}
use Rattle.layouts.specs.Kinds.{Part, figures, Shape, shape, count, line, width}
use Rattle.lines.proofs.Steps.{absurd-err, same_ok, same-err}
use Rattle.values.specs.declared.row.ValueRow.{ValueRow}
use Rattle.values.specs.Writing.{Step, done, refused, before, chain, row_step, line_steps, first_number, field_step, placed, field_steps}
use Rattle.writing.specs.declared.size.Size.{Size}
use Rattle.writing.specs.Sizes.{sized}
use Rattle.writing.proofs.StepLaws.{Ahead, ahead_more, ahead-stop, row_done, lines-tail, field-tail, tail-size}

-- what is refused, and what is written
pub size-refused : (n i m : ℕ) (x : Step ℕ) → x ≡ refused m → Err (refusal m 2 0 i 0) ≡ sized n (placed i x)
size-refused n i m x e = sym (ap (λ y. sized n (placed i y)) e)

pub size-done : (n i : ℕ) (x : Step ℕ) (b : List ℕ) (rest : List ValueRow) (p v : ℕ) → x ≡ done b rest → p ≡ length b → v ≡ n - length rest → ◌≡◌ {A = Result Size Refusal} (Ok (record { bytes = p; rows = v })) (sized n (placed i x))
size-done n i x b rest p v e a c =
    let z : ◌≡◌ {A = Size} (record { bytes = p; rows = v }) (record { bytes = length b; rows = n - length rest }) = cc in
    ap Ok z ∙ sym (ap (λ y. sized n (placed i y)) e)

-- and back
pub record Done (n : ℕ) (x : Step ℕ) (z : Size) : Type 0 where
  pub wrote : List ℕ
  pub rest : List ValueRow
  pub is : x ≡ done wrote rest
  pub bytes : z.bytes ≡ length wrote
  pub rows : z.rows ≡ n - length rest

pub done-size : (n i : ℕ) (x : Step ℕ) (z : Size) → sized n (placed i x) ≡ Ok z → Done n x z
done-size n i (done b r) z e = let q = same_ok e in record { wrote = b; rest = r; is = refl; bytes = sym (ap (λ y. y.bytes) q); rows = sym (ap (λ y. y.rows) q) }
done-size n i (refused m) z e = absurd-err e

pub record Stopped (i : ℕ) (x : Step ℕ) (e : Refusal) : Type 0 where
  pub number : ℕ
  pub is : x ≡ refused number
  pub same : e ≡ refusal number 2 0 i 0

pub refused-size : (n i : ℕ) (x : Step ℕ) (e : Refusal) → sized n (placed i x) ≡ Err e → Stopped i x e
refused-size n i (done b r) e h = absurd-err (sym h)
refused-size n i (refused m) e h = record { number = m; is = refl; same = sym (same-err h) }

-- a row is written in the width of its part
pub row_small : (q : Part) (n i : ℕ) (bytes : List ℕ) (rs : List ValueRow) (r : Result Size Refusal) (w : ℕ) → r ≡ sized n (placed i (row_step q bytes rs)) → width q ≤ w → IfOk r (λ z. z.bytes ≤ w)
row_small q n i bytes rs (Ok z) w e l =
    let d = done-size n i (row_step q bytes rs) z (sym e) in
    let r = row_done q bytes rs d.wrote d.rest d.is in
    let wide = r.wide in
    let b = d.bytes in
    omega arith
row_small q n i bytes rs (Err x) w e l = tt

-- the lines of a block, one by one
module _ (ok : List ℕ → Bool) (n i : ℕ) (bytes : List ℕ) (rs : List ValueRow) (k : ℕ) where
  abbrev pub LinesAhead : Type 0
  LinesAhead = Ahead (line_steps ok n bytes rs) (35 * k) (line_steps ok (n - k) bytes (drop k rs))

  next-line : k < n → LinesAhead → Ahead (line_steps ok n bytes rs) (35 * k) (chain (row_step (line ok) bytes (drop k rs)) (line_steps ok (n - (k + 1)) bytes))
  next-line l h = let m : n - k ≡ suc (n - (k + 1)) = omega arith in subst (λ x. Ahead (line_steps ok n bytes rs) (35 * k) (line_steps ok x bytes (drop k rs))) m h

  pub lines_more : (us : List ValueRow) (z : Size) → k < n → us ≡ drop k rs → LinesAhead → Ok z ≡ sized (length us) (placed i (row_step (line ok) bytes us)) → (k + 1 ≤ length rs) × Ahead (line_steps ok n bytes rs) (35 * (k + 1)) (line_steps ok (n - (k + 1)) bytes (drop (k + 1) rs))
  lines_more us z l u h e =
      let d = done-size (length us) i (row_step (line ok) bytes us) z (sym e) in
      let r = row_done (line ok) bytes us d.wrote d.rest d.is in
      let some = r.some in
      let long = ap length u ∙ length-drop k rs in
      let t : 35 * k + 35 ≡ 35 * (k + 1) = omega arith in
      let a = ahead_more (line_steps ok n bytes rs) (row_step (line ok) bytes (drop k rs)) (line_steps ok (n - (k + 1)) bytes) (35 * k) 35 d.wrote d.rest (next-line l h) (ap (row_step (line ok) bytes) (sym u) ∙ d.is) r.wide in (
        omega arith,
        subst (λ x. Ahead (line_steps ok n bytes rs) x (line_steps ok (n - (k + 1)) bytes (drop (k + 1) rs))) t
            (subst (λ x. Ahead (line_steps ok n bytes rs) (35 * k + 35) (line_steps ok (n - (k + 1)) bytes x)) (r.tail ∙ ap (drop 1) u ∙ drop-drop 1 k rs) a),
      )

  pub lines-stop : (us : List ValueRow) (e : Refusal) → k < n → us ≡ drop k rs → LinesAhead → Err e ≡ sized (length us) (placed i (row_step (line ok) bytes us)) → Err e ≡ sized (length rs) (placed i (line_steps ok n bytes rs))
  lines-stop us e l u h q =
      let s = refused-size (length us) i (row_step (line ok) bytes us) e (sym q) in
      let w = ahead-stop (line_steps ok n bytes rs) (row_step (line ok) bytes (drop k rs)) (line_steps ok (n - (k + 1)) bytes) (35 * k) s.number (next-line l h) (ap (row_step (line ok) bytes) (sym u) ∙ s.is) in
      ap Err s.same ∙ size-refused (length rs) i s.number (line_steps ok n bytes rs) w

-- the number of a refusal does not matter to a row
pub any-number : (w : ℕ) (ok : ℕ → Bool) (n m : ℕ) (bytes : List ℕ) (rs : List ValueRow) → row_step (figures w ok n) bytes rs ≡ row_step (figures w ok m) bytes rs
any-number w ok n m bytes [] = refl
any-number w ok n m bytes (r ∷ rs) = refl

pub first-is : (rs : List ValueRow) (d : ValueRow) → 0 < length rs → (get_or rs 0 d).number ≡ first_number rs
first-is [] d h = absurd (omega arith)
first-is (r ∷ rs) d h = refl

-- a block: its count is refused, its lines are, or it is written
module _ (counts : ℕ → Bool) (ok : List ℕ → Bool) (m i : ℕ) (bytes : List ℕ) (rs : List ValueRow) where
  abbrev pub blockStep : Step ℕ
  blockStep = chain (row_step (count counts) bytes rs) (line_steps ok (first_number rs) bytes)

  pub count-stop : (e : Refusal) → Err e ≡ sized (length rs) (placed i (row_step (figures 2 counts m) bytes rs)) → Err e ≡ sized (length rs) (placed i blockStep)
  count-stop e q =
      let s = refused-size (length rs) i (row_step (figures 2 counts m) bytes rs) e (sym q) in
      ap Err s.same ∙ size-refused (length rs) i s.number blockStep (ap (λ x. chain x (line_steps ok (first_number rs) bytes)) (any-number 2 counts 15 m bytes rs ∙ s.is))

  -- a count that passed
  pub record CountDone : Type 0 where
    pub some : 0 < length rs
    pub few : (d : ValueRow) → (get_or rs 0 d).number < 100
    pub wrote : List ℕ
    pub wide : length wrote ≡ 2
    pub is : row_step (count counts) bytes rs ≡ done wrote (drop 1 rs)

  pub count-done : (z : Size) → Ok z ≡ sized (length rs) (placed i (row_step (figures 2 counts m) bytes rs)) → CountDone
  count-done z q =
      let d = done-size (length rs) i (row_step (figures 2 counts m) bytes rs) z (sym q) in
      let r = row_done (figures 2 counts m) bytes rs d.wrote d.rest d.is in
      record {
        some = r.some;
        few = λ x. let l = ltb-true (get_or rs 0 x).number (10 ^ 2) (and_parts (ltb (get_or rs 0 x).number (10 ^ 2)) (counts (get_or rs 0 x).number) (r.suited x)).0 in omega arith;
        wrote = d.wrote;
        wide = r.wide;
        is = any-number 2 counts 15 m bytes rs ∙ d.is ∙ ap (done d.wrote) r.tail;
      }

  block-is : (n : ℕ) (us : List ValueRow) (c : CountDone) → n ≡ first_number rs → us ≡ drop 1 rs → blockStep ≡ before c.wrote (line_steps ok n bytes us)
  block-is n us c e u =
      ap (λ x. chain x (line_steps ok (first_number rs) bytes)) c.is ∙ ap (λ x. before c.wrote (line_steps ok x bytes (drop 1 rs))) (sym e) ∙ ap (λ x. before c.wrote (line_steps ok n bytes x)) (sym u)

  pub block-stop : (n : ℕ) (us : List ValueRow) (e : Refusal) → CountDone → n ≡ first_number rs → us ≡ drop 1 rs → Err e ≡ sized (length us) (placed i (line_steps ok n bytes us)) → Err e ≡ sized (length rs) (placed i blockStep)
  block-stop n us e c f u q =
      let s = refused-size (length us) i (line_steps ok n bytes us) e (sym q) in
      ap Err s.same ∙ size-refused (length rs) i s.number blockStep (block-is n us c f u ∙ ap (before c.wrote) s.is)

  pub block-done : (n : ℕ) (us : List ValueRow) (z : Size) → CountDone → n ≡ first_number rs → us ≡ drop 1 rs → Ok z ≡ sized (length us) (placed i (line_steps ok n bytes us)) → (z.bytes ≡ 35 * n) × (z.rows ≡ n) × (◌≡◌ {A = Result Size Refusal} (Ok (record { bytes = 2 + z.bytes; rows = 1 + z.rows })) (sized (length rs) (placed i blockStep)))
  block-done n us z c f u q =
      let d = done-size (length us) i (line_steps ok n bytes us) z (sym q) in
      let t = lines-tail ok n bytes us d.wrote d.rest d.is in
      let v = tail-size us d.rest n t.0 in
      let w = t.1 in
      let b = d.bytes in
      let r = d.rows in
      let x = c.wide in
      let some = c.some in
      let long = ap length u ∙ length-drop 1 rs in
      let within = t.0.within in
      let l = length-append c.wrote d.wrote in
      let left = ap length t.0.is ∙ length-drop n us in (
        omega arith,
        omega arith,
        size-done (length rs) i blockStep _ d.rest (2 + z.bytes) (1 + z.rows) (block-is n us c f u ∙ ap (before c.wrote) d.is) (omega arith) (omega arith),
      )

-- the fields of a layout, one by one
module _ (l : List Field) (bytes : List ℕ) (rs : List ValueRow) (i u n : ℕ) (left : List Field) where
  abbrev pub FieldsAhead : Type 0
  FieldsAhead = Ahead (field_steps 1 l bytes rs) n (field_steps i left bytes (drop u rs))

  module _ (f : Field) (others : List Field) (x : Shape) (us : List ValueRow) (e : left ≡ f ∷ others) (is : x ≡ shape f) (v : us ≡ drop u rs) where
    next_field_lem : FieldsAhead → Ahead (field_steps 1 l bytes rs) n (chain (placed i (field_step x bytes us)) (field_steps (i + 1) others bytes))
    next_field_lem h =
        let a = subst (λ fs. Ahead (field_steps 1 l bytes rs) n (field_steps i fs bytes (drop u rs))) e h in
        let b = subst (λ y. Ahead (field_steps 1 l bytes rs) n (chain (placed i (field_step y bytes (drop u rs))) (field_steps (i + 1) others bytes))) (sym is) a in
        subst (λ y. Ahead (field_steps 1 l bytes rs) n (chain (placed i (field_step x bytes y)) (field_steps (i + 1) others bytes))) (sym v) b

    pub fields-more : (z : Size) → u ≤ length rs → FieldsAhead → Ok z ≡ sized (length us) (placed i (field_step x bytes us)) → (u + z.rows ≤ length rs) × Ahead (field_steps 1 l bytes rs) (n + z.bytes) (field_steps (i + 1) others bytes (drop (u + z.rows) rs))
    fields-more z r h g =
        let d = done-size (length us) i (field_step x bytes us) z (sym g) in
        let t = field-tail x bytes us d.wrote d.rest d.is in
        let size = d.rows ∙ tail-size us d.rest t.0 t.1 in
        let within = t.1.within in
        let long = ap length v ∙ length-drop u rs in
        let a = ahead_more (field_steps 1 l bytes rs) (placed i (field_step x bytes us)) (field_steps (i + 1) others bytes) n z.bytes d.wrote d.rest (next_field_lem h) (ap (placed i) d.is) (sym d.bytes) in
        let to : d.rest ≡ drop (u + z.rows) rs = t.1.is ∙ ap (λ y. drop y us) (sym size) ∙ ap (drop z.rows) v ∙ drop-drop z.rows u rs in (
          omega arith,
          subst (λ y. Ahead (field_steps 1 l bytes rs) (n + z.bytes) (field_steps (i + 1) others bytes y)) to a,
        )
