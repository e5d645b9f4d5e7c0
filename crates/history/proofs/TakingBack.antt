-- Undo takes a change back: it leaves the contents from before the change.
use Rattle.std.proofs.Common.{◌≡◌, ℕ, ◌+◌, ◌-◌, ◌≤◌, true, leb, List, [], ◌∷◌, length, take, drop, Ok, ap, ◌∙◌, arith, length-append}
use Rattle.std.proofs.lemmas.List.{take_at, drop_at, get_or_push}
use Rattle.std.proofs.lemmas.Bool.{le-leb, and_from}
use Rattle.changes.specs.declared.change_row.ChangeRow.{ChangeRow}
use Rattle.changes.specs.States.{Contents}
use Rattle.changes.specs.Calls.{row, changed, last_row, row_fits, file_before, undone, taking_back, undoing}
use Rattle.changes.proofs.UndoLaws.{undo-on, taking-done}

pub undo-changed : (c : Contents) (kind n : ℕ) (f old : List ℕ) → length c.file ≤ c.fileRoom → row_fits (row kind n (length c.file) (length old)) f ≡ true → file_before (row kind n (length c.file) (length old)) old f ≡ c.file → undoing (changed c kind n f old) ≡ Ok c
unfolding changed
undo-changed c kind n f old room fits back =
    let r : ChangeRow = row kind n (length c.file) (length old) in
    let d : Contents = changed c kind n f old in
    let rows_long : length d.rows ≡ length c.rows + 1 = length-append c.rows (r ∷ []) in
    let kept-long : length d.kept ≡ length c.kept + length old = length-append c.kept old in
    let k : length c.rows ≡ length d.rows - 1 = omega arith in
    let m : length c.kept ≡ length d.kept - length old = omega arith in
    let last : last_row d ≡ r = get_or_push c.rows r (row 0 0 0 0) (length d.rows - 1) k in
    let rows : take (length d.rows - 1) d.rows ≡ c.rows = take_at c.rows (r ∷ []) (length d.rows - 1) k in
    let kept : take (length d.kept - length old) d.kept ≡ c.kept = take_at c.kept old (length d.kept - length old) m in
    let gone : drop (length d.kept - length old) d.kept ≡ old = drop_at c.kept old (length d.kept - length old) m in
    let file : (undone d r).file ≡ c.file = ap (λ x. file_before r x f) gone ∙ back in
    let same : undone d r ≡ c = λ i. record { file = file i; rows = rows i; kept = kept i; fileRoom = c.fileRoom; rowRoom = c.rowRoom; keptRoom = c.keptRoom } in
    undo-on d (omega arith)
    ∙ ap (taking_back d) last
    ∙ taking-done d r (and_from (row_fits r f) (leb (length old) (length d.kept)) fits (le-leb (length old) (length d.kept) (omega arith))) (omega (arith, ap length file))
    ∙ ap Ok same
