-- What the calls answer, way by way.
use Rattle.std.proofs.Common.{◌≡◌, ℕ, ◌+◌, ◌-◌, ◌≤◌, Bool, true, false, ◌&&◌, leb, List, [], ◌∷◌, ◌++◌, length, take, drop, IsErrAnd, Ok, Err, Result, sym, refl, ap, ◌∙◌, subst, arith}
use Rattle.std.proofs.lemmas.List.{length-take-le, take-take, drop-take}
use Rattle.std.proofs.lemmas.Bool.{le-leb, and_from, cond-true, cond-false}
use Rattle.basics.specs.declared.refusal.Refusal.{Refusal}
use Rattle.layouts.specs.declared.field.Field.{Field}
use Rattle.lines.specs.Judging.{and_then, judged}
use Rattle.files.specs.Lines.{lines_of}
use Rattle.changes.specs.Edits.{ended, has_line, line_of, replaced, struck}
use Rattle.changes.specs.States.{State, Contents, within, contents, used_file, Promise}
use Rattle.changes.specs.Calls.{draft_refusal, required, asked, row, changed, rooms, change, few, appended, delivered, importing, adding, replacing, striking}

-- one test after another
pub then_ok : {A B : Type 0} (r : Result A Refusal) (k : A → Result B Refusal) (x : A) → Ok x ≡ r → and_then r k ≡ k x
then_ok r k x e = ap (λ y. and_then y k) (sym e)

pub then-err : {A B : Type 0} (r : Result A Refusal) (k : A → Result B Refusal) (e : Refusal) → Err e ≡ r → and_then r k ≡ Err e
then-err r k e p = ap (λ y. and_then y k) (sym p)

pub passed : (b : Bool) (n : ℕ) → b ≡ true → Ok tt ≡ required b n
passed b n e = sym (cond-true b (Ok tt) (Err (draft_refusal n)) e)

pub failed : (b : Bool) (n : ℕ) → b ≡ false → Err (draft_refusal n) ≡ required b n
failed b n e = sym (cond-false b (Ok tt) (Err (draft_refusal n)) e)

pub asked-short : (call : Contents → Result Contents Refusal) (s : State) (e : Refusal) → Err e ≡ required (within s) 31 → asked call s ≡ Err e
unfolding asked
asked-short call s e p = then-err _ _ e p

pub asked-on : (call : Contents → Result Contents Refusal) (s : State) → Ok tt ≡ required (within s) 31 → asked call s ≡ call (contents s)
unfolding asked
asked-on call s p = then_ok _ _ tt p

-- a refusal, by hand and by the exit of a `?`
pub refuse : (o : Result Contents Refusal) (s : State) (e : Refusal) → o ≡ Err e → Promise o s s (Err e)
refuse o s e p = subst (λ x. Promise x s s (Err e)) (sym p) (refl, refl)

pub leave : (o : Result Contents Refusal) (s : State) (e : Refusal) (r : Result (Unit {0}) Refusal) → IsErrAnd r (λ y. y ≡ e) → o ≡ Err e → Promise o s s r
leave o s e (Ok x) h p = absurd h
leave o s e (Err y) h p = subst (λ x. Promise x s s (Err y)) (sym p) (ap Err h, refl)

pub is_within : (s : State) → s.fileUsed ≤ length s.file → s.rowsUsed ≤ length s.rows → s.keptUsed ≤ length s.kept → within s ≡ true
is_within s a b c =
    and_from (leb s.fileUsed (length s.file)) (leb s.rowsUsed (length s.rows) && leb s.keptUsed (length s.kept)) (le-leb _ _ a)
    (and_from (leb s.rowsUsed (length s.rows)) (leb s.keptUsed (length s.kept)) (le-leb _ _ b) (le-leb _ _ c))

pub accept : (o : Result Contents Refusal) (s t : State) (c : Contents) → o ≡ Ok c → contents t ≡ c → t.fileUsed ≤ length t.file → t.rowsUsed ≤ length t.rows → t.keptUsed ≤ length t.kept → Promise o s t (Ok tt)
accept o s t c p q x y z = subst (λ w. Promise w s t (Ok tt)) (sym p) (refl, q, is_within t x y z)

-- a change
pub change-refused : (c : Contents) (kind n : ℕ) (f old : List ℕ) (e : Refusal) → Err e ≡ rooms c (length f) (length old) → change c kind n f old ≡ Err e
unfolding change
change-refused c kind n f old e p = then-err _ _ e p

pub change-made : (c : Contents) (kind n : ℕ) (f old : List ℕ) → Ok tt ≡ rooms c (length f) (length old) → change c kind n f old ≡ Ok (changed c kind n f old)
unfolding change
change-made c kind n f old p = then_ok _ _ tt p

-- what a state has after a change
pub after-change : (s t : State) (kind n : ℕ) (f old : List ℕ)
    → s.fileUsed ≤ length s.file
    → take t.fileUsed t.file ≡ f
    → take t.rowsUsed t.rows ≡ take s.rowsUsed s.rows ++ row kind n s.fileUsed (length old) ∷ []
    → take t.keptUsed t.kept ≡ take s.keptUsed s.kept ++ old
    → length t.file ≡ length s.file → length t.rows ≡ length s.rows → length t.kept ≡ length s.kept
    → contents t ≡ changed (contents s) kind n f old
unfolding changed
after-change s t kind n f old fits a b c d e g =
    let b' : take t.rowsUsed t.rows ≡ take s.rowsUsed s.rows ++ row kind n (length (used_file s)) (length old) ∷ [] =
    b ∙ ap (λ x. take s.rowsUsed s.rows ++ row kind n x (length old) ∷ []) (sym (length-take-le s.fileUsed s.file fits)) in
    λ i. record { file = a i; rows = b' i; kept = c i; fileRoom = d i; rowRoom = e i; keptRoom = g i }

-- lines at the end: n is how many lines there are then
module _ (c : Contents) (more : List ℕ) (n : ℕ) (is : length (lines_of (c.file ++ more)) ≡ n) where
  same : required (leb n 1200) 33 ≡ few (c.file ++ more)
  same = ap (λ m. required (leb m 1200) 33) (sym is)

  pub append-over : (e : Refusal) → Err e ≡ required (leb n 1200) 33 → appended c more ≡ Err e
  unfolding appended
  append-over e p = then-err _ _ e (p ∙ same)

  pub append-on : Ok tt ≡ required (leb n 1200) 33 → appended c more ≡ change c 1 0 (c.file ++ more) []
  unfolding appended
  append-on p = then_ok _ _ tt (p ∙ same)

module _ (ls : List (List Field)) (d : List ℕ) (c : Contents) where
  pub import-fault : (e : Refusal) → Err e ≡ delivered ls d → importing ls d c ≡ Err e
  unfolding importing
  import-fault e p = then-err _ _ e p

  pub import-on : (n : ℕ) → Ok n ≡ delivered ls d → importing ls d c ≡ appended c d
  unfolding importing
  import-on n p = then_ok _ _ n p

module _ (ls : List (List Field)) (l : List ℕ) (c : Contents) where
  pub add-fault : (e : Refusal) → Err e ≡ judged ls l → adding ls l c ≡ Err e
  unfolding adding
  add-fault e p = then-err _ _ e p

  pub add-on : (j : ℕ) → Ok j ≡ judged ls l → adding ls l c ≡ appended c (ended l)
  unfolding adding
  add-on j p = then_ok _ _ j p

module _ (ls : List (List Field)) (n : ℕ) (l : List ℕ) (c : Contents) where
  pub replace-none : has_line n c.file ≡ false → replacing ls n l c ≡ Err (draft_refusal 32)
  unfolding replacing
  replace-none p = then-err _ _ (draft_refusal 32) (failed (has_line n c.file) 32 p)

  pub replace-fault : (e : Refusal) → has_line n c.file ≡ true → Err e ≡ judged ls l → replacing ls n l c ≡ Err e
  unfolding replacing
  replace-fault e h p = then_ok _ _ tt (passed (has_line n c.file) 32 h) ∙ then-err _ _ e p

  pub replace-on : (j : ℕ) → has_line n c.file ≡ true → Ok j ≡ judged ls l → replacing ls n l c ≡ change c 2 n (replaced n l c.file) (line_of n c.file)
  unfolding replacing
  replace-on j h p = then_ok _ _ tt (passed (has_line n c.file) 32 h) ∙ then_ok _ _ j p

module _ (n : ℕ) (c : Contents) where
  pub strike-none : has_line n c.file ≡ false → striking n c ≡ Err (draft_refusal 32)
  unfolding striking
  strike-none p = then-err _ _ (draft_refusal 32) (failed (has_line n c.file) 32 p)

  pub strike-on : has_line n c.file ≡ true → striking n c ≡ change c 3 n (struck n c.file) (line_of n c.file)
  unfolding striking
  strike-on h = then_ok _ _ tt (passed (has_line n c.file) 32 h)

-- a part of the memory is the same part of what is used of it
pub used-part : (F : List ℕ) (used at size : ℕ) → at + size ≤ used → take (at + size - at) (drop at F) ≡ take size (drop at (take used F))
used-part F used at size h =
    let m = used - at in
    let u : at + m ≡ used = omega arith in
    let k : at + size - at ≡ size = omega arith in
    ap (λ x. take x (drop at F)) k ∙ sym (take-take size m (drop at F) (omega arith)) ∙ ap (take size) (sym (drop-take at m F) ∙ ap (λ x. drop at (take x F)) u)
