-- What an accepted call says of the tests that it passed.
use Rattle.std.proofs.Common.{◌≡◌, ℕ, ◌≤◌, Bool, true, false, cond, eqb, leb, List, [], ◌++◌, length, Ok, Err, Result, refl}
use Rattle.std.proofs.lemmas.Bool.{leb-true}
use Rattle.basics.specs.declared.refusal.Refusal.{Refusal}
use Rattle.basics.specs.Refusals.{refusal}
use Rattle.layouts.specs.declared.field.Field.{Field}
use Rattle.layouts.specs.Layouts.{is_lawful}
use Rattle.lines.specs.Judging.{and_then, judged}
use Rattle.lines.specs.Belongs.{Belongs}
use Rattle.lines.proofs.Steps.{absurd-err, same_ok}
use Rattle.lines.proofs.Judged.{judged-belongs}
use Rattle.files.specs.Lines.{lines_of}
use Rattle.files.specs.Files.{file_judged, FileOf}
use Rattle.files.proofs.FileLaws.{accepted-file}
use Rattle.changes.specs.Edits.{ended, has_line, line_of, replaced, struck}
use Rattle.changes.specs.States.{Contents}
use Rattle.changes.specs.Calls.{required, changed, rooms, change, appended, delivered, importing, adding, replacing, striking}

then-parts : {A B : Type 0} (r : Result A Refusal) (k : A → Result B Refusal) (y : B) → and_then r k ≡ Ok y → (x : A) × (r ≡ Ok x) × (k x ≡ Ok y)
then-parts (Ok x) k y e = (x, refl, e)
then-parts (Err x) k y e = absurd-err e

pub test_parts : {B : Type 0} (b : Bool) (n : ℕ) (k : Unit {0} → Result B Refusal) (y : B) → and_then (required b n) k ≡ Ok y → (b ≡ true) × (k tt ≡ Ok y)
test_parts true n k y e = (refl, e)
test_parts false n k y e = absurd-err e

-- a change leaves what it is to leave, and its file fits
pub change-parts : (c d : Contents) (kind n : ℕ) (f old : List ℕ) → change c kind n f old ≡ Ok d → (changed c kind n f old ≡ d) × (length f ≤ c.fileRoom)
unfolding change
change-parts c d kind n f old e =
    let p = then-parts (rooms c (length f) (length old)) _ d e in
    let q = test_parts (leb (length f) c.fileRoom) 34 _ p.0 p.1 in
    (same_ok p.2, leb-true (length f) c.fileRoom q.0)

append-parts : (c d : Contents) (more : List ℕ) → appended c more ≡ Ok d → (length (lines_of (c.file ++ more)) ≤ 1200) × (change c 1 0 (c.file ++ more) [] ≡ Ok d)
unfolding appended
append-parts c d more e =
    let p = test_parts (leb (length (lines_of (c.file ++ more))) 1200) 33 _ d e in
    (leb-true (length (lines_of (c.file ++ more))) 1200 p.0, p.1)

belongs : (ls : List (List Field)) (l : List ℕ) (j : ℕ) → judged ls l ≡ Ok j → Belongs ls l
belongs ls l j e = (j, judged-belongs ls l j e)

-- a delivery that is accepted is a file of records
delivery : (ls : List (List Field)) (law : is_lawful ls ≡ true) (d : List ℕ) (n : ℕ) → delivered ls d ≡ Ok n → FileOf ls d (lines_of d)
unfolding delivered
delivery ls law d n e =
    elim (eqb (length d) 0) as (λ b. cond b (Err (refusal 21 3 0 0 0)) (file_judged ls d) ≡ Ok n → FileOf ls d (lines_of d)) [
      | true ↦ λ h. absurd-err h
      | false ↦ λ h. (accepted-file ls d law n h).0
    ]
    e

module _ (ls : List (List Field)) (law : is_lawful ls ≡ true) (c d : Contents) where
  pub import-parts : (more : List ℕ) → importing ls more c ≡ Ok d → FileOf ls more (lines_of more) × (length (lines_of (c.file ++ more)) ≤ 1200) × (change c 1 0 (c.file ++ more) [] ≡ Ok d)
  unfolding importing
  import-parts more e =
      let p = then-parts (delivered ls more) _ d e in
      let q = append-parts c d more p.2 in
      (delivery ls law more p.0 p.1, q.0, q.1)

  pub add_parts : (l : List ℕ) → adding ls l c ≡ Ok d → Belongs ls l × (length (lines_of (c.file ++ ended l)) ≤ 1200) × (change c 1 0 (c.file ++ ended l) [] ≡ Ok d)
  unfolding adding
  add_parts l e =
      let p = then-parts (judged ls l) _ d e in
      let q = append-parts c d (ended l) p.2 in
      (belongs ls l p.0 p.1, q.0, q.1)

  pub replace-parts : (n : ℕ) (l : List ℕ) → replacing ls n l c ≡ Ok d → (has_line n c.file ≡ true) × Belongs ls l × (change c 2 n (replaced n l c.file) (line_of n c.file) ≡ Ok d)
  unfolding replacing
  replace-parts n l e =
      let p = test_parts (has_line n c.file) 32 _ d e in
      let q = then-parts (judged ls l) _ d p.1 in
      (p.0, belongs ls l q.0 q.1, q.2)

  pub strike-parts : (n : ℕ) → striking n c ≡ Ok d → (has_line n c.file ≡ true) × (change c 3 n (struck n c.file) (line_of n c.file) ≡ Ok d)
  unfolding striking
  strike-parts n e = test_parts (has_line n c.file) 32 _ d e
