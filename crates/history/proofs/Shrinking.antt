-- An accepted undo leaves one row less, so undo cannot go on for ever.
use Rattle.std.proofs.Common.{◌≡◌, ◌+◌, ◌-◌, ◌≤◌, true, ◌&&◌, leb, length, Ok, Err, Result, refl, ap, arith}
use Rattle.std.proofs.lemmas.List.{length-take-le}
use Rattle.std.proofs.lemmas.Bool.{and_parts, leb-true}
use Rattle.basics.specs.declared.refusal.Refusal.{Refusal}
use Rattle.lines.proofs.Steps.{same_ok}
use Rattle.lines.proofs.Reasons.{absurd-ok}
use Rattle.changes.specs.States.{State, Contents, within, contents, Promise}
use Rattle.changes.specs.Calls.{asked, undoing, taking_back, last_row, row_fits, undone}
use Rattle.history.proofs.Accepted.{test_parts}

-- where no memory is shorter than its count
rows-within : (s : State) → within s ≡ true → s.rowsUsed ≤ length s.rows
rows-within s e =
    let a = and_parts (leb s.fileUsed (length s.file)) (leb s.rowsUsed (length s.rows) && leb s.keptUsed (length s.kept)) e in
    leb-true s.rowsUsed (length s.rows) (and_parts (leb s.rowsUsed (length s.rows)) (leb s.keptUsed (length s.kept)) a.1).0

rows-used : (s : State) → within s ≡ true → length (contents s).rows ≡ s.rowsUsed
rows-used s e = length-take-le s.rowsUsed s.rows (rows-within s e)

left : (c d : Contents) → undoing c ≡ Ok d → length d.rows + 1 ≡ length c.rows
unfolding undoing taking_back
left c d e =
    let r = last_row c in
    let p = test_parts (leb 1 (length c.rows)) 36 _ d e in
    let q = test_parts (row_fits r c.file && leb r.kept (length c.kept)) 37 _ d p.1 in
    let z = test_parts (leb (length (undone c r).file) c.fileRoom) 34 _ d q.1 in
    let some = leb-true 1 (length c.rows) p.0 in
    let is : length (undone c r).rows ≡ length d.rows = ap (λ x. length x.rows) (same_ok z.1) in
    omega (arith, length-take-le (length c.rows - 1) c.rows (omega arith))

shrinks : (o : Result Contents Refusal) (s u : State) → asked undoing s ≡ o → Promise o s u (Ok tt) → (u.rowsUsed + 1 ≡ s.rowsUsed) × (s.rowsUsed ≤ length s.rows)
unfolding asked
shrinks (Err e) s u is h = absurd-ok h.0
shrinks (Ok c) s u is h =
    let p = test_parts (within s) 31 _ c is in
    let n = left (contents s) c p.1 in
    let same : length (contents u).rows ≡ length c.rows = ap (λ x. length x.rows) h.1 in
    (omega (arith, rows-used s p.0, rows-used u h.2), rows-within s p.0)

pub undo-shrinks : (s u : State) → Promise (asked undoing s) s u (Ok tt) → (u.rowsUsed + 1 ≡ s.rowsUsed) × (s.rowsUsed ≤ length s.rows)
undo-shrinks s u h = shrinks (asked undoing s) s u refl h
