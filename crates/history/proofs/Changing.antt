-- What an accepted change does: its file is a file of records again, undo takes it back, and the sum moves by
-- what it brought and took.
use Rattle.std.proofs.Common.{◌≡◌, ℕ, ◌+◌, ◌≤◌, true, List, [], ◌∷◌, ◌++◌, length, take, Ok, sym, refl, ap, ◌∙◌, subst, arith, length-append}
use Rattle.std.proofs.lemmas.List.{take_at}
use Rattle.layouts.specs.declared.field.Field.{Field}
use Rattle.layouts.specs.Layouts.{is_lawful}
use Rattle.files.specs.Lines.{lines_of, written}
use Rattle.files.specs.Files.{Records, FileOf}
use Rattle.files.specs.Totals.{sum_of}
use Rattle.changes.specs.Edits.{ended, line_of, replaced, struck}
use Rattle.changes.specs.States.{Contents}
use Rattle.changes.specs.Calls.{row, changed, change, importing, adding, replacing, striking, row_fits, file_before, undoing}
use Rattle.changes.proofs.UndoLaws.{fits-1, fits-2, fits-3, before-1, before-2, before-3}
use Rattle.history.specs.Acts.{Act, imports, adds, replaces, strikes, undoes}
use Rattle.history.specs.Accounts.{moved_by}
use Rattle.history.proofs.Accepted.{change-parts, import-parts, add_parts, replace-parts, strike-parts}
use Rattle.history.proofs.TakingBack.{undo-changed}
use Rattle.history.proofs.Editing.{before, behind, sum-append, lines_are, appended-file, replaced-file, replaced-has, replaced-back, replaced-sum, struck-file, struck-fits, struck-back, struck-sum}

-- the file that a change leaves
abbrev pub new_file : Act → List ℕ → List ℕ
new_file (imports d) f = f ++ d
new_file (adds l) f = f ++ ended l
new_file (replaces n l) f = replaced n l f
new_file (strikes n) f = struck n f
new_file undoes f = f

pub record Changes (ls : List (List Field)) (a : Act) (c d : Contents) : Type 0 where
  pub undo : undoing d ≡ Ok c
  pub file : d.file ≡ new_file a c.file
  pub records : FileOf ls d.file (lines_of d.file)
  pub room : length d.file ≤ d.fileRoom
  pub sum : (currency : List ℕ) → sum_of ls currency (lines_of d.file) + (moved_by ls currency a c.file).taken ≡ sum_of ls currency (lines_of c.file) + (moved_by ls currency a c.file).brought

module _ (ls : List (List Field)) (law : is_lawful ls ≡ true) (c d : Contents) (file : FileOf ls c.file (lines_of c.file)) (room : length c.file ≤ c.fileRoom) where
  -- a change, from the records that it leaves
  made : (a : Act) (kind n : ℕ) (old : List ℕ) (rs : List (List ℕ)) → change c kind n (new_file a c.file) old ≡ Ok d → FileOf ls (new_file a c.file) rs
      → row_fits (row kind n (length c.file) (length old)) (new_file a c.file) ≡ true → file_before (row kind n (length c.file) (length old)) old (new_file a c.file) ≡ c.file
      → ((currency : List ℕ) → sum_of ls currency rs + (moved_by ls currency a c.file).taken ≡ sum_of ls currency (lines_of c.file) + (moved_by ls currency a c.file).brought)
      → Changes ls a c d
  unfolding changed
  made a kind n old rs e new fits back sums =
      let g = new_file a c.file in
      let p = change-parts c d kind n g old e in
      let is : lines_of g ≡ rs = lines_are ls law g rs new.writing new.each in
      subst (Changes ls a c) p.0 (record {
        undo = undo-changed c kind n g old room fits back;
        file = refl;
        records = subst (FileOf ls g) (sym is) new;
        room = p.1;
        sum = λ currency. ap (λ x. sum_of ls currency x + (moved_by ls currency a c.file).taken) is ∙ sums currency;
      })

  -- records at the end
  at-the-end : (a : Act) (more : List ℕ) (rs : List (List ℕ)) → new_file a c.file ≡ c.file ++ more → more ≡ written rs → Records ls rs → length (lines_of (c.file ++ more)) ≤ 1200 → change c 1 0 (c.file ++ more) [] ≡ Ok d
      → ((currency : List ℕ) → (moved_by ls currency a c.file).taken ≡ 0) → ((currency : List ℕ) → (moved_by ls currency a c.file).brought ≡ sum_of ls currency rs) → Changes ls a c d
  at-the-end a more rs is e each few h none all =
      let f = c.file in
      let g = new_file a f in
      let r = row 1 0 (length f) 0 in
      let long : length f ≤ length g = omega (arith, ap length is, length-append f more) in
      made a 1 0 [] (lines_of f ++ rs)
      (ap (λ x. change c 1 0 x []) is ∙ h)
      (subst (λ x. FileOf ls x (lines_of f ++ rs)) (sym is) (appended-file ls law f more rs file e each few))
      (fits-1 r [] g refl long)
      (before-1 r [] g refl ∙ ap (take (length f)) is ∙ take_at f more (length f) refl)
      (λ currency. omega (arith, none currency, all currency, sum-append ls currency (lines_of f) rs))

  pub imported : (more : List ℕ) → importing ls more c ≡ Ok d → Changes ls (imports more) c d
  imported more e =
      let p = import-parts ls law c d more e in
      at-the-end (imports more) more (lines_of more) refl p.0.writing p.0.each p.1 p.2 (λ currency. refl) (λ currency. refl)

  pub added : (l : List ℕ) → adding ls l c ≡ Ok d → Changes ls (adds l) c d
  added l e =
      let p = add_parts ls law c d l e in
      at-the-end (adds l) (ended l) (l ∷ []) refl refl (p.0, tt) p.1 p.2 (λ currency. refl) (λ currency. omega arith)

  pub put_in_place : (n : ℕ) (l : List ℕ) → replacing ls n l c ≡ Ok d → Changes ls (replaces n l) c d
  put_in_place n l e =
      let p = replace-parts ls law c d n l e in
      let f = c.file in
      let g = replaced n l f in
      let r = row 2 n (length f) (length (line_of n f)) in
      made (replaces n l) 2 n (line_of n f) (before n f ++ l ∷ behind n f) p.2
      (replaced-file ls law n f file p.0 l p.1)
      (fits-2 r (line_of n f) g refl (replaced-has ls law n f file p.0 l p.1))
      (before-2 r (line_of n f) g refl ∙ replaced-back ls law n f file p.0 l p.1)
      (replaced-sum ls law n f file p.0 l p.1)

  pub taken_out : (n : ℕ) → striking n c ≡ Ok d → Changes ls (strikes n) c d
  taken_out n e =
      let p = strike-parts ls law c d n e in
      let f = c.file in
      let g = struck n f in
      let r = row 3 n (length f) (length (line_of n f)) in
      let h = struck-fits ls law n f file p.0 in
      made (strikes n) 3 n (line_of n f) (before n f ++ behind n f) p.1
      (struck-file ls law n f file p.0)
      (fits-3 r (line_of n f) g refl h.0 h.1)
      (before-3 r (line_of n f) g refl ∙ struck-back ls law n f file p.0)
      (λ currency. omega (arith, struck-sum ls law n f file p.0 currency))
