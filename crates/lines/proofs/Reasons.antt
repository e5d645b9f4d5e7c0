-- The fault of a field is the first row that holds of it, and such a row is the fault.
use Rattle.std.proofs.Common.{◌≡◌, ℕ, zero, suc, ◌+◌, ◌-◌, ◌*◌, ◌<◌, ◌≤◌, Bool, true, false, cond, ltb, ◌⊎◌, List, ◌++◌, length, get_or, take, drop, Some, None, Ok, Err, Result, sym, refl, ap, ◌∙◌, subst, inl, inr, ⊎_elim, arith, take-append-drop}
use Rattle.std.proofs.lemmas.List.{drop-drop, take-take, drop-take, get_or-take, get_or-drop}
use Rattle.std.proofs.lemmas.Bool.{ltb-true, ltb-false, lt-ltb, le-ltb}
use Rattle.basics.specs.declared.bytes.ByteClass.TheVariants as class
use Rattle.basics.specs.declared.refusal.Refusal.{Refusal}
use Rattle.basics.specs.Refusals.{refusal}
use Rattle.basics.specs.Bytes.{allowed, anywhere, first_forbidden}
use Rattle.basics.specs.Decimals.{number_of}
use Rattle.basics.proofs.ByteLaws.{clean-of-none, none-of-clean, first-of-some, some-of-first}
use Rattle.layouts.specs.Kinds.{Part, Shape, one, block, count, width, allows, passes, refused_by}
use Rattle.lines.specs.Judging.{and_then, unforbidden, cleaned, part_in, cut, part_end, each_line, lines_in, lines_end, field_end}
use Rattle.lines.specs.Refuses.{Short, Foreign, Sound, Wrong, PartRefused, LinesRefused, FieldRefused}
use Rattle.lines.proofs.Steps.{same-err}
use Rattle.lines.proofs.Sound.{part-wide, part-passed}
use Rattle.lines.proofs.Complete.{room, part-passes}

pub absurd-ok : {A B : Type 0} {x : A} {e : Refusal} → ◌≡◌ {A = Result A Refusal} (Ok x) (Err e) → B
absurd-ok h = absurd (let z : ◌≡◌ {A = ℕ} 0 1 = cc in omega arith)

-- a byte of the part is the byte of the line
in-line : (w p : ℕ) (line : List ℕ) (k : ℕ) → k < w → get_or (take w (drop p line)) k 0 ≡ get_or line (p + k) 0
in-line w p line k h = get_or-take w (drop p line) k 0 h ∙ get_or-drop p line k 0

-- the first step failed, or the second did
record Second (r : Result ℕ Refusal) (k : ℕ → Result ℕ Refusal) (e : Refusal) : Type 0 where
  pub mid : ℕ
  pub first : r ≡ Ok mid
  pub then : k mid ≡ Err e

either : (r : Result ℕ Refusal) (k : ℕ → Result ℕ Refusal) (e : Refusal) → and_then r k ≡ Err e → (r ≡ Err e) ⊎ Second r k e
either (Ok m) k e h = inr (record { mid = m; first = refl; then = h })
either (Err x) k e h = inl h

-- w bytes behind place p, whose tests the definition asks of the part and the rows of the line
module _ (ok : ℕ → ℕ → Bool) (w i p : ℕ) (line : List ℕ) (fits : p ≤ length line) where
  cut-refused : (k : List ℕ → Result ℕ Refusal) (e : Refusal) → cut w i p line k ≡ Err e → Short w i p line e ⊎ ((p + w ≤ length line) × (k (take w (drop p line)) ≡ Err e))
  cut-refused k e h =
      elim (ltb (length line - p) w) as (λ t. ltb (length line - p) w ≡ t → cond t (Err (refusal 11 2 0 i (length line + 1))) (k (take w (drop p line))) ≡ Err e → Short w i p line e ⊎ ((p + w ≤ length line) × (k (take w (drop p line)) ≡ Err e))) [
        | true ↦ λ t g. let a = ltb-true (length line - p) w t in inl (record { short = omega arith; is = sym (same-err g) })
        | false ↦ λ t g. let a = ltb-false (length line - p) w t in inr (omega arith, g)
      ]
      refl h

  short_cut : (k : List ℕ → Result ℕ Refusal) (e : Refusal) → Short w i p line e → cut w i p line k ≡ Err e
  short_cut k e h =
      let s = h.short in
      ap (λ t. cond t (Err (refusal 11 2 0 i (length line + 1))) (k (take w (drop p line)))) (lt-ltb (length line - p) w (omega arith)) ∙ ap Err (sym h.is)

  cut-there : (k : List ℕ → Result ℕ Refusal) (r : Result ℕ Refusal) → p + w ≤ length line → k (take w (drop p line)) ≡ r → cut w i p line k ≡ r
  cut-there k r h g = ap (λ t. cond t (Err (refusal 11 2 0 i (length line + 1))) (k (take w (drop p line)))) (le-ltb (length line - p) w (omega arith)) ∙ g

  wide : p + w ≤ length line → length (take w (drop p line)) ≡ w
  wide h = part-wide w p line (omega arith)

  foreign : (e : Refusal) → p + w ≤ length line → cleaned ok i p (take w (drop p line)) ≡ Err e → Foreign ok w i p line e
  foreign e room h =
      let s = take w (drop p line) in
      let long = wide room in
      elim (first_forbidden ok 0 s) as (λ o. first_forbidden ok 0 s ≡ o → unforbidden o i p (p + length s) ≡ Err e → Foreign ok w i p line e) [
        | None ↦ λ o g. absurd-ok g
        | Some m ↦ λ o g.
            let f = first-of-some ok s m o in
            let inside : m < w = subst (λ n. m < n) long f.inside in
            record {
              room = room;
              at = m;
              inside = inside;
              before = λ k l. ap (ok k) (sym (in-line w p line k (omega arith))) ∙ f.before k l;
              here = ap (ok m) (sym (in-line w p line m inside)) ∙ f.here;
              is = sym (same-err g);
            }
      ]
      refl h

  foreign-cleaned : (e : Refusal) → Foreign ok w i p line e → cleaned ok i p (take w (drop p line)) ≡ Err e
  foreign-cleaned e f =
      let s = take w (drop p line) in
      let long = wide f.room in
      let inside = f.inside in
      ap (λ o. unforbidden o i p (p + length s))
      (some-of-first ok s f.at
      (record {
        inside = subst (λ n. f.at < n) (sym long) inside;
        before = λ k l. ap (ok k) (in-line w p line k (omega arith)) ∙ f.before k l;
        here = ap (ok f.at) (in-line w p line f.at inside) ∙ f.here;
      }))
      ∙ ap Err (sym f.is)

  sound : (q : ℕ) → p + w ≤ length line → cleaned ok i p (take w (drop p line)) ≡ Ok q → Sound ok w p line
  sound q room h =
      let s = take w (drop p line) in
      let long = wide room in
      elim (first_forbidden ok 0 s) as (λ o. first_forbidden ok 0 s ≡ o → unforbidden o i p (p + length s) ≡ Ok q → Sound ok w p line) [
        | None ↦ λ o g. record { room = room; clean = λ k l. ap (ok k) (sym (in-line w p line k l)) ∙ clean-of-none ok s o k (subst (λ n. k < n) (sym long) l) }
        | Some m ↦ λ o g. absurd-ok (sym g)
      ]
      refl h

  sound-cleaned : Sound ok w p line → cleaned ok i p (take w (drop p line)) ≡ Ok (p + length (take w (drop p line)))
  sound-cleaned h =
      let s = take w (drop p line) in
      let long = wide h.room in
      ap (λ o. unforbidden o i p (p + length s)) (none-of-clean ok s (λ k l. ap (ok k) (in-line w p line k (omega arith)) ∙ h.clean k (omega arith)))

-- one part
module _ (q : Part) (i p : ℕ) (line : List ℕ) (fits : p ≤ length line) (e : Refusal) where
  value : ℕ → Result ℕ Refusal
  value m = cond (passes q (take (width q) (drop p line))) (Ok m) (Err (refusal (refused_by q) 2 0 i (p + 1)))

  wrong : (m : ℕ) → p + width q ≤ length line → cleaned (allows q) i p (take (width q) (drop p line)) ≡ Ok m → value m ≡ Err e → Wrong q i p line e
  unfolding value
  wrong m room c h =
      let s = take (width q) (drop p line) in
      elim (passes q s) as (λ t. passes q s ≡ t → cond t (Ok m) (Err (refusal (refused_by q) 2 0 i (p + 1))) ≡ Err e → Wrong q i p line e) [
        | true ↦ λ t g. absurd-ok g
        | false ↦ λ t g. record { sound = sound (allows q) (width q) i p line fits m room c; fails = t; is = sym (same-err g) }
      ]
      refl h

  pub part-refused : part_end q i p line ≡ Err e → PartRefused q i p line e
  unfolding value
  part-refused h =
      let s = take (width q) (drop p line) in
      ⊎_elim inl
      (λ g.
      inr (⊎_elim (λ c. inl (foreign (allows q) (width q) i p line fits e g.0 c)) (λ m. inr (wrong m.mid g.0 m.first m.then)) (either (cleaned (allows q) i p s) value e g.1)))
      (cut-refused (allows q) (width q) i p line fits (part_in q i p) e h)

  pub refused-part : PartRefused q i p line e → part_end q i p line ≡ Err e
  unfolding value
  refused-part (inl h) = short_cut (allows q) (width q) i p line fits (part_in q i p) e h
  refused-part (inr (inl h)) =
      cut-there (allows q) (width q) i p line fits (part_in q i p) (Err e) h.room (ap (λ r. and_then r value) (foreign-cleaned (allows q) (width q) i p line fits e h))
  refused-part (inr (inr h)) =
      let s = take (width q) (drop p line) in
      cut-there (allows q) (width q) i p line fits (part_in q i p) (Err e) h.sound.room
      (ap (λ r. and_then r value) (sound-cleaned (allows q) (width q) i p line fits h.sound)
      ∙ ap (λ t. cond t (Ok (p + length s)) (Err (refusal (refused_by q) 2 0 i (p + 1)))) h.fails
      ∙ ap Err (sym h.is))

-- the first of n lines that does not pass
record FirstWrong (ok : List ℕ → Bool) (n i p : ℕ) (s : List ℕ) (e : Refusal) : Type 0 where
  pub at : ℕ
  pub inside : at < n
  pub before : (k : ℕ) → k < at → ok (take 35 (drop (35 * k) s)) ≡ true
  pub here : ok (take 35 (drop (35 * at) s)) ≡ false
  pub is : e ≡ refusal 14 2 0 i (p + 35 * at + 1)

next : (ok : List ℕ → Bool) (s : List ℕ) (k : ℕ) → ok (take 35 (drop (35 * k) (drop 35 s))) ≡ ok (take 35 (drop (35 * suc k) s))
next ok s k = let b : 35 + 35 * k ≡ 35 * suc k = omega arith in ap (λ x. ok (take 35 x)) (drop-drop (35 * k) 35 s ∙ ap (λ n. drop n s) b)

before_more : (ok : List ℕ → Bool) (s : List ℕ) (m : ℕ) → ok (take 35 s) ≡ true → ((k : ℕ) → k < m → ok (take 35 (drop (35 * k) (drop 35 s))) ≡ true) → (k : ℕ) → k < suc m → ok (take 35 (drop (35 * k) s)) ≡ true
before_more ok s m t h zero l = t
before_more ok s m t h (suc k) l = sym (next ok s k) ∙ h k (omega arith)

first-wrong : (ok : List ℕ → Bool) (n i p : ℕ) (s : List ℕ) (e : Refusal) → each_line ok n i p s ≡ Err e → FirstWrong ok n i p s e
first-wrong ok zero i p s e h = absurd-ok h
first-wrong ok (suc n) i p s e h =
    elim (ok (take 35 s)) as (λ t. ok (take 35 s) ≡ t → cond t (each_line ok n i (p + 35) (drop 35 s)) (Err (refusal 14 2 0 i (p + 1))) ≡ Err e → FirstWrong ok (suc n) i p s e) [
      | true ↦ λ t g.
          let m = first-wrong ok n i (p + 35) (drop 35 s) e g in
          let to : p + 35 + 35 * m.at + 1 ≡ p + 35 * suc m.at + 1 = omega arith in
          record {
            at = suc m.at;
            inside = let q = m.inside in omega arith;
            before = before_more ok s m.at t m.before;
            here = sym (next ok s m.at) ∙ m.here;
            is = m.is ∙ ap (refusal 14 2 0 i) to;
          }
      | false ↦ λ t g.
          let to : p + 1 ≡ p + 0 + 1 = omega arith in
          record { at = 0; inside = omega arith; before = λ k l. absurd (omega arith); here = t; is = sym (same-err g) ∙ ap (refusal 14 2 0 i) to }
    ]
    refl h

wrong_first : (ok : List ℕ → Bool) (n i p : ℕ) (s : List ℕ) (at : ℕ) → at < n → ((k : ℕ) → k < at → ok (take 35 (drop (35 * k) s)) ≡ true) → ok (take 35 (drop (35 * at) s)) ≡ false → each_line ok n i p s ≡ Err (refusal 14 2 0 i (p + 35 * at + 1))
wrong_first ok zero i p s at l h f = absurd (omega arith)
wrong_first ok (suc n) i p s zero l h f =
    let to : p + 1 ≡ p + 0 + 1 = omega arith in
    ap (λ t. cond t (each_line ok n i (p + 35) (drop 35 s)) (Err (refusal 14 2 0 i (p + 1)))) f ∙ ap (λ b. Err (refusal 14 2 0 i b)) to
wrong_first ok (suc n) i p s (suc at) l h f =
    let to : p + 35 + 35 * at + 1 ≡ p + 35 * suc at + 1 = omega arith in
    ap (λ t. cond t (each_line ok n i (p + 35) (drop 35 s)) (Err (refusal 14 2 0 i (p + 1)))) (h 0 (omega arith))
    ∙ wrong_first ok n i (p + 35) (drop 35 s) at (omega arith) (λ k m. next ok s k ∙ h (suc k) (omega arith)) (next ok s at ∙ f)
    ∙ ap (λ b. Err (refusal 14 2 0 i b)) to

-- a line of the part is a line of the line
line_at : (n p : ℕ) (line : List ℕ) (k : ℕ) → k < n → take 35 (drop (35 * k) (take (35 * n) (drop p line))) ≡ take 35 (drop (p + 35 * k) line)
line_at n p line k h =
    let m = 35 * n - 35 * k in
    let whole : 35 * n ≡ 35 * k + m = omega arith in
    ap (λ w. take 35 (drop (35 * k) (take w (drop p line)))) whole
    ∙ ap (take 35) (drop-take (35 * k) m (drop p line))
    ∙ take-take 35 m (drop (35 * k) (drop p line)) (omega arith)
    ∙ ap (take 35) (drop-drop (35 * k) p line)

module _ (ok : List ℕ → Bool) (n i p : ℕ) (line : List ℕ) (fits : p ≤ length line) (e : Refusal) where
  pub lines-refused : lines_end ok n i p line ≡ Err e → LinesRefused ok n i p line e
  lines-refused h =
      let s = take (35 * n) (drop p line) in
      let text = anywhere (allowed class.Text) in
      ⊎_elim inl
      (λ g.
      inr
      (⊎_elim (λ c. inl (foreign text (35 * n) i p line fits e g.0 c))
      (λ m.
      let f = first-wrong ok n i p s e m.then in
      let inside = f.inside in
      inr (record {
        sound = sound text (35 * n) i p line fits m.mid g.0 m.first;
        at = f.at;
        inside = inside;
        before = λ k l. ap ok (sym (line_at n p line k (omega arith))) ∙ f.before k l;
        here = ap ok (sym (line_at n p line f.at inside)) ∙ f.here;
        is = f.is;
      }))
      (either (cleaned text i p s) (λ m. each_line ok n i p s) e g.1)))
      (cut-refused text (35 * n) i p line fits (lines_in ok n i p) e h)

  pub refused-lines : LinesRefused ok n i p line e → lines_end ok n i p line ≡ Err e
  refused-lines (inl h) = short_cut (anywhere (allowed class.Text)) (35 * n) i p line fits (lines_in ok n i p) e h
  refused-lines (inr (inl h)) =
      let s = take (35 * n) (drop p line) in
      let text = anywhere (allowed class.Text) in
      cut-there text (35 * n) i p line fits (lines_in ok n i p) (Err e) h.room (ap (λ r. and_then r (λ m. each_line ok n i p s)) (foreign-cleaned text (35 * n) i p line fits e h))
  refused-lines (inr (inr h)) =
      let s = take (35 * n) (drop p line) in
      let text = anywhere (allowed class.Text) in
      let inside = h.inside in
      cut-there text (35 * n) i p line fits (lines_in ok n i p) (Err e) h.sound.room
      (ap (λ r. and_then r (λ m. each_line ok n i p s)) (sound-cleaned text (35 * n) i p line fits h.sound)
      ∙ wrong_first ok n i p s h.at inside (λ k l. ap ok (line_at n p line k (omega arith)) ∙ h.before k l) (ap ok (line_at n p line h.at inside) ∙ h.here)
      ∙ ap Err (sym h.is))

pub field-refused : (f : Shape) (i p : ℕ) (line : List ℕ) (e : Refusal) → p ≤ length line → field_end f i p line ≡ Err e → FieldRefused f i p line e
field-refused (one q) i p line e fits h = part-refused q i p line fits e h
field-refused (block high counts ok) i p line e fits h =
    let n = number_of (take 2 (drop p line)) in
    ⊎_elim (λ g. inl (part-refused (count counts) i p line fits e g))
    (λ m.
    let c = part-passed (count counts) i p line m.mid m.first in
    let r = c.0 in
    let to = c.1 in
    inr (record { counted = c.2; lines = lines-refused ok n i (p + 2) line (omega arith) e (ap (λ x. lines_end ok n i x line) (sym to) ∙ m.then) }))
    (either (part_end (count counts) i p line) (λ x. lines_end ok n i x line) e h)

pub refused-field : (f : Shape) (i p : ℕ) (line : List ℕ) (e : Refusal) → p ≤ length line → FieldRefused f i p line e → field_end f i p line ≡ Err e
refused-field (one q) i p line e fits h = refused-part q i p line fits e h
refused-field (block high counts ok) i p line e fits (inl h) =
    ap (λ r. and_then r (λ x. lines_end ok (number_of (take 2 (drop p line))) i x line)) (refused-part (count counts) i p line fits e h)
refused-field (block high counts ok) i p line e fits (inr h) =
    let n = number_of (take 2 (drop p line)) in
    let s = take 2 (drop p line) in
    let two = h.counted.wide in
    let whole : drop p line ≡ s ++ drop 2 (drop p line) = sym (take-append-drop 2 (drop p line)) in
    let long = room i p line s (drop 2 (drop p line)) whole in
    ap (λ r. and_then r (λ x. lines_end ok n i x line)) (part-passes i p line s (drop 2 (drop p line)) whole (count counts) h.counted ∙ ap (λ m. Ok (p + m)) two)
    ∙ refused-lines ok n i (p + 2) line (omega arith) e h.lines
