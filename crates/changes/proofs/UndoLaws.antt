-- What undo answers, way by way.
use Rattle.std.proofs.Common.{◌≡◌, ℕ, ◌+◌, ◌-◌, ◌<◌, ◌≤◌, Bool, true, false, cond, ◌&&◌, eqb, leb, List, [], ◌∷◌, ◌++◌, length, get_or, take, drop, Ok, Err, sym, refl, ap, ◌∙◌, ⊎_elim, arith, length-append, length-drop, get_or-take}
use Rattle.std.proofs.lemmas.List.{length-take-le, take-take, drop-take}
use Rattle.std.proofs.lemmas.Bool.{ne_eqb, eq-eqb, le-leb, lt-leb, and_left, and_right, and_from, cond-true, cond-false, cases_Bool}
use Rattle.basics.specs.declared.refusal.Refusal.{Refusal}
use Rattle.files.specs.Lines.{lines_of}
use Rattle.changes.specs.declared.change_row.ChangeRow.{ChangeRow}
use Rattle.changes.specs.Edits.{ended, has_line, replaced, inserted}
use Rattle.changes.specs.Places.{span}
use Rattle.changes.specs.States.{State, Contents, within, contents, used_file}
use Rattle.changes.specs.Calls.{draft_refusal, required, asked, row, last_row, row_fits, file_before, undone, taking_back, undoing}
use Rattle.changes.specs.Backs.{TakenBack, Stuck}
use Rattle.changes.proofs.PlaceLaws.{PlacedAt, BehindAt, spliced, line-within, replaced-is, inserted-is, span-within}
use Rattle.changes.proofs.CallLaws.{then_ok, then-err, passed, failed, asked-on}

-- by the kind of a row
of-1 : {X : Type 0} (k : ℕ) (a b : X) → k ≡ 1 → cond (eqb k 1) a b ≡ a
of-1 k a b e = cond-true (eqb k 1) a b (eq-eqb k 1 e)

of-2 : {X : Type 0} (k : ℕ) (a b d : X) → k ≡ 2 → cond (eqb k 1) a (cond (eqb k 2) b d) ≡ b
of-2 k a b d e = cond-false (eqb k 1) a (cond (eqb k 2) b d) (ne_eqb k 1 (λ z. omega arith)) ∙ cond-true (eqb k 2) b d (eq-eqb k 2 e)

of-3 : {X : Type 0} (k : ℕ) (a b d : X) → k ≡ 3 → cond (eqb k 1) a (cond (eqb k 2) b d) ≡ d
of-3 k a b d e = cond-false (eqb k 1) a (cond (eqb k 2) b d) (ne_eqb k 1 (λ z. omega arith)) ∙ cond-false (eqb k 2) b d (ne_eqb k 2 (λ z. omega arith))

module _ (r : ChangeRow) (old f : List ℕ) where
  placed : Bool
  placed = leb 1 r.line && leb r.line (length (lines_of f) + 1)

  pub fits-1 : r.kind ≡ 1 → r.before ≤ length f → row_fits r f ≡ true
  fits-1 e h = of-1 r.kind _ _ e ∙ le-leb r.before (length f) h

  pub fits-2 : r.kind ≡ 2 → has_line r.line f ≡ true → row_fits r f ≡ true
  fits-2 e h = of-2 r.kind _ _ _ e ∙ h

  pub misfits-2 : r.kind ≡ 2 → has_line r.line f ≡ false → row_fits r f ≡ false
  misfits-2 e h = of-2 r.kind _ _ _ e ∙ h

  third : r.kind ≡ 3 → row_fits r f ≡ placed
  unfolding placed
  third e = of-3 r.kind _ _ _ e ∙ cond-true (eqb r.kind 3) _ _ (eq-eqb r.kind 3 e)

  pub fits-3 : r.kind ≡ 3 → 0 < r.line → r.line ≤ length (lines_of f) + 1 → row_fits r f ≡ true
  unfolding placed
  fits-3 e h k = third e ∙ and_from (leb 1 r.line) _ (le-leb 1 r.line (omega arith)) (le-leb r.line (length (lines_of f) + 1) k)

  pub misfits-3-past : r.kind ≡ 3 → length (lines_of f) + 1 < r.line → row_fits r f ≡ false
  unfolding placed
  misfits-3-past e h = third e ∙ and_right (leb 1 r.line) (leb r.line (length (lines_of f) + 1)) (lt-leb r.line (length (lines_of f) + 1) h)

  pub before-1 : r.kind ≡ 1 → file_before r old f ≡ take r.before f
  before-1 e = of-1 r.kind _ _ e

  pub before-2 : r.kind ≡ 2 → file_before r old f ≡ replaced r.line old f
  before-2 e = of-2 r.kind _ _ _ e

  pub before-3 : r.kind ≡ 3 → file_before r old f ≡ inserted r.line old f
  before-3 e = of-3 r.kind _ _ _ e

-- how long a file is in which bytes are moved
pub length-spliced : (f : List ℕ) (at gone : ℕ) (new : List ℕ) → at + gone ≤ length f → length (spliced f at gone new) + gone ≡ length f + length new
length-spliced f at gone new fits =
    omega (arith, length-append (take at f) (new ++ drop (at + gone) f), length-append new (drop (at + gone) f), length-drop (at + gone) f, length-take-le at f (omega arith))

-- a line that was found, and what bytes in its place come to
module _ (n at size : ℕ) (f : List ℕ) (p : PlacedAt n at size f) where
  pub found_within : at + (size + 2) ≤ length f
  found_within = let a = p.place in let b = p.long in let w = line-within n f p.there in omega arith

  pub replaced-at : (l : List ℕ) → spliced f at size l ≡ replaced n l f
  replaced-at l = let a = p.place in let b = p.long in (λ i. spliced f (a i) (b i) l) ∙ replaced-is n f p.there l

  pub replaced-size : (l : List ℕ) → length (replaced n l f) + size ≡ length f + length l
  replaced-size l = let w = found_within in omega (arith, length-spliced f at size l (omega arith), ap length (replaced-at l))

inserted-at : (n at : ℕ) (f l : List ℕ) → at ≡ span (n - 1) f → spliced f at 0 (ended l) ≡ inserted n l f
inserted-at n at f l p = ap (λ a. spliced f a 0 (ended l)) p ∙ inserted-is n l f

-- a row that does not fit
pub unfit : (r : ChangeRow) (old f F : List ℕ) → row_fits r f ≡ false → Stuck r old f F F (draft_refusal 37)
unfit r old f F e = record {
  why = sym (cond-false (row_fits r f) (draft_refusal 34) (draft_refusal 37) e);
  room = λ t. let clash : true ≡ false = sym t ∙ e in absurd (let z : ◌≡◌ {A = ℕ} 0 1 = cc in omega arith);
  same = refl;
}

module _ (r : ChangeRow) (old F : List ℕ) (used : ℕ) (fits : used ≤ length F) where
  pub taken-1 : r.kind ≡ 1 → r.before ≤ used → TakenBack r old (take used F) F F r.before
  taken-1 e h =
      let long = length-take-le used F fits in
      let is : take r.before F ≡ file_before r old (take used F) = sym (take-take r.before used F h) ∙ sym (before-1 r old (take used F) e) in
      record {
        fits = fits-1 r old (take used F) e (omega arith);
        room = omega (arith, ap length is, length-take-le r.before F (omega arith));
        holds = is;
        within = omega arith;
      }

  pub taken-2 : (at size end : ℕ) (G : List ℕ) → r.kind ≡ 2 → PlacedAt r.line at size (take used F) → take end G ≡ spliced (take used F) at size old → end ≤ length F → length G ≡ length F → TakenBack r old (take used F) F G end
  taken-2 at size end G e p h w l =
      let is : take end G ≡ file_before r old (take used F) = h ∙ replaced-at r.line at size (take used F) p old ∙ sym (before-2 r old (take used F) e) in
      record {
        fits = fits-2 r old (take used F) e p.there;
        room = omega (arith, ap length is, length-take-le end G (omega arith));
        holds = is;
        within = w;
      }

  pub stuck-2 : (at size : ℕ) → r.kind ≡ 2 → PlacedAt r.line at size (take used F) → length F - (used - size) < length old → Stuck r old (take used F) F F (draft_refusal 34)
  stuck-2 at size e p h =
      let i = found_within r.line at size (take used F) p in
      let long = length-take-le used F fits in
      record {
        why = sym (cond-true (row_fits r (take used F)) (draft_refusal 34) (draft_refusal 37) (fits-2 r old (take used F) e p.there));
        room = λ _. omega (arith, ap length (before-2 r old (take used F) e), replaced-size r.line at size (take used F) p old);
        same = refl;
      }

  inserted-size : (at : ℕ) → BehindAt (r.line - 1) at (take used F) → length (inserted r.line old (take used F)) ≡ used + (length old + 2)
  inserted-size at b =
      let i = span-within (r.line - 1) (take used F) in
      let a = b.place in
      omega (arith, ap length (inserted-at r.line at (take used F) old b.place), length-spliced (take used F) at 0 (ended old) (omega arith), length-append old (13 ∷ 10 ∷ []), length-take-le used F fits)

  pub taken-3 : (at end : ℕ) (G : List ℕ) → r.kind ≡ 3 → 0 < r.line → BehindAt (r.line - 1) at (take used F) → take end G ≡ take at (take used F) ++ (ended old ++ drop at (take used F)) → end ≤ length F → length G ≡ length F → TakenBack r old (take used F) F G end
  taken-3 at end G e k b h w l =
      let f = take used F in
      let there = b.there in
      let z : at ≡ at + 0 = omega arith in
      let is : take end G ≡ file_before r old f =
      h ∙ ap (λ n. take at f ++ (ended old ++ drop n f)) z ∙ inserted-at r.line at f old b.place ∙ sym (before-3 r old f e) in
      record {
        fits = fits-3 r old f e k (omega arith);
        room = omega (arith, ap length is, length-take-le end G (omega arith));
        holds = is;
        within = w;
      }

  pub stuck-3 : (at : ℕ) → r.kind ≡ 3 → 0 < r.line → BehindAt (r.line - 1) at (take used F) → length F - used < length old + 2 → Stuck r old (take used F) F F (draft_refusal 34)
  stuck-3 at e k b h =
      let there = b.there in
      record {
        why = sym (cond-true (row_fits r (take used F)) (draft_refusal 34) (draft_refusal 37) (fits-3 r old (take used F) e k (omega arith)));
        room = λ _. omega (arith, ap length (before-3 r old (take used F) e), inserted-size at b);
        same = refl;
      }

-- undo, on contents
pub undo-none : (c : Contents) → length c.rows ≡ 0 → undoing c ≡ Err (draft_refusal 36)
unfolding undoing
undo-none c e = then-err _ _ (draft_refusal 36) (failed (leb 1 (length c.rows)) 36 (lt-leb 1 (length c.rows) (omega arith)))

pub undo-on : (c : Contents) → 0 < length c.rows → undoing c ≡ taking_back c (last_row c)
unfolding undoing
undo-on c h = then_ok _ _ tt (passed (leb 1 (length c.rows)) 36 (le-leb 1 (length c.rows) (omega arith)))

module _ (c : Contents) (r : ChangeRow) where
  pub taking-unfit : (row_fits r c.file && leb r.kept (length c.kept)) ≡ false → taking_back c r ≡ Err (draft_refusal 37)
  unfolding taking_back
  taking-unfit e = then-err _ _ (draft_refusal 37) (failed (row_fits r c.file && leb r.kept (length c.kept)) 37 e)

  pub taking-stuck : (row_fits r c.file && leb r.kept (length c.kept)) ≡ true → c.fileRoom < length (undone c r).file → taking_back c r ≡ Err (draft_refusal 34)
  unfolding taking_back
  taking-stuck e h =
      then_ok _ _ tt (passed (row_fits r c.file && leb r.kept (length c.kept)) 37 e) ∙ then-err _ _ (draft_refusal 34) (failed (leb (length (undone c r).file) c.fileRoom) 34 (lt-leb _ _ h))

  pub taking-done : (row_fits r c.file && leb r.kept (length c.kept)) ≡ true → length (undone c r).file ≤ c.fileRoom → taking_back c r ≡ Ok (undone c r)
  unfolding taking_back
  taking-done e h =
      then_ok _ _ tt (passed (row_fits r c.file && leb r.kept (length c.kept)) 37 e) ∙ then_ok _ _ tt (passed (leb (length (undone c r).file) c.fileRoom) 34 (le-leb _ _ h))

-- undo, on a state: the row that it reads
abbrev pub top_row : State → ChangeRow
top_row s = get_or s.rows (s.rowsUsed - 1) (row 0 0 0 0)

-- the kept bytes from `low` on
abbrev pub kept_from : State → ℕ → List ℕ
kept_from s low = take (s.keptUsed - low) (drop low s.kept)

module _ (s : State) (ok : Ok tt ≡ required (within s) 31) (fr : s.rowsUsed ≤ length s.rows) (fk : s.keptUsed ≤ length s.kept) (some : 0 < s.rowsUsed) where
  undo-row : asked undoing s ≡ taking_back (contents s) (top_row s)
  undo-row =
      let n = length-take-le s.rowsUsed s.rows fr in
      let last : last_row (contents s) ≡ top_row s =
      ap (λ k. get_or (take s.rowsUsed s.rows) (k - 1) (row 0 0 0 0)) n ∙ get_or-take s.rowsUsed s.rows (s.rowsUsed - 1) (row 0 0 0 0) (omega arith) in
      asked-on undoing s ok ∙ undo-on (contents s) (omega arith) ∙ ap (taking_back (contents s)) last

  pub undo-short : s.keptUsed < (top_row s).kept → asked undoing s ≡ Err (draft_refusal 37)
  undo-short h =
      undo-row
      ∙ taking-unfit (contents s) (top_row s) (and_right (row_fits (top_row s) (used_file s)) (leb (top_row s).kept (length (contents s).kept)) (lt-leb (top_row s).kept (length (contents s).kept) (omega (arith, length-take-le s.keptUsed s.kept fk))))

  module _ (has : (top_row s).kept ≤ s.keptUsed) where
    old-is : drop (length (contents s).kept - (top_row s).kept) (contents s).kept ≡ kept_from s (s.keptUsed - (top_row s).kept)
    old-is =
        let low = s.keptUsed - (top_row s).kept in
        let m = s.keptUsed - low in
        let u : low + m ≡ s.keptUsed = omega arith in
        ap (λ k. drop (k - (top_row s).kept) (contents s).kept) (length-take-le s.keptUsed s.kept fk) ∙ ap (λ k. drop low (take k s.kept)) (sym u) ∙ drop-take low m s.kept

    kept-fits : leb (top_row s).kept (length (contents s).kept) ≡ true
    kept-fits = le-leb _ _ (omega (arith, length-take-le s.keptUsed s.kept fk))

    file-is : (undone (contents s) (top_row s)).file ≡ file_before (top_row s) (kept_from s (s.keptUsed - (top_row s).kept)) (used_file s)
    file-is = ap (λ x. file_before (top_row s) x (used_file s)) old-is

    pub undo-stuck : (G : List ℕ) (e : Refusal) → Stuck (top_row s) (kept_from s (s.keptUsed - (top_row s).kept)) (used_file s) s.file G e → asked undoing s ≡ Err e
    undo-stuck G e h =
        let fit = row_fits (top_row s) (used_file s) in
        undo-row ∙ ⊎_elim
        (λ t. taking-stuck (contents s) (top_row s) (and_from fit (leb (top_row s).kept (length (contents s).kept)) t kept-fits) (omega (arith, ap length file-is, h.room t)) ∙ ap Err (sym (h.why ∙ cond-true fit (draft_refusal 34) (draft_refusal 37) t)))
        (λ t. taking-unfit (contents s) (top_row s) (and_left fit (leb (top_row s).kept (length (contents s).kept)) t) ∙ ap Err (sym (h.why ∙ cond-false fit (draft_refusal 34) (draft_refusal 37) t)))
        (cases_Bool fit)

    pub undo-done : (G : List ℕ) (end : ℕ) → TakenBack (top_row s) (kept_from s (s.keptUsed - (top_row s).kept)) (used_file s) s.file G end → asked undoing s ≡ Ok (undone (contents s) (top_row s))
    undo-done G end h =
        undo-row
        ∙ taking-done (contents s) (top_row s) (and_from (row_fits (top_row s) (used_file s)) (leb (top_row s).kept (length (contents s).kept)) h.fits kept-fits) (omega (arith, ap length file-is, h.room))

    pub after-undo : (t : State) → t.rowsUsed ≡ s.rowsUsed - 1 → t.keptUsed ≡ s.keptUsed - (top_row s).kept → t.rows ≡ s.rows → t.kept ≡ s.kept → length t.file ≡ length s.file
        → TakenBack (top_row s) (kept_from s (s.keptUsed - (top_row s).kept)) (used_file s) s.file t.file t.fileUsed → contents t ≡ undone (contents s) (top_row s)
    after-undo t a b c d e h =
        let n = length-take-le s.rowsUsed s.rows fr in
        let k = length-take-le s.keptUsed s.kept fk in
        let file : used_file t ≡ (undone (contents s) (top_row s)).file = h.holds ∙ sym file-is in
        let rows : take t.rowsUsed t.rows ≡ take (length (contents s).rows - 1) (contents s).rows =
        (λ i. take (a i) (c i)) ∙ sym (take-take (s.rowsUsed - 1) s.rowsUsed s.rows (omega arith)) ∙ ap (λ x. take (x - 1) (contents s).rows) (sym n) in
        let kept : take t.keptUsed t.kept ≡ take (length (contents s).kept - (top_row s).kept) (contents s).kept =
        (λ i. take (b i) (d i)) ∙ sym (take-take (s.keptUsed - (top_row s).kept) s.keptUsed s.kept (omega arith)) ∙ ap (λ x. take (x - (top_row s).kept) (contents s).kept) (sym k) in
        let lr = ap length c in
        let lk = ap length d in
        λ i. record { file = file i; rows = rows i; kept = kept i; fileRoom = e i; rowRoom = lr i; keptRoom = lk i }
