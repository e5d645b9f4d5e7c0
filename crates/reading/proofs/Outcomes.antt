-- What reading answers and leaves, and that the rows show the record.
use Rattle.std.proofs.Common.{◌≡◌, ℕ, Bool, true, false, cond, ltb, List, ◌++◌, length, take, drop, IfOk, Some, Ok, Err, Result, sym, refl, ap, subst}
use Rattle.std.proofs.lemmas.List.{take_at}
use Rattle.basics.specs.declared.refusal.Refusal.{Refusal}
use Rattle.basics.specs.Refusals.{refusal}
use Rattle.layouts.specs.declared.field.Field.{Field}
use Rattle.layouts.specs.Layouts.{layout_at, or_empty, is_lawful, digits_of}
use Rattle.layouts.proofs.Laws.{lawful-layouts}
use Rattle.lines.specs.Judging.{judged}
use Rattle.lines.specs.Belongs.{Follows, BelongsAs}
use Rattle.lines.proofs.Judged.{judged-belongs}
use Rattle.lines.proofs.Names.{headed, lawful-at}
use Rattle.values.specs.declared.row.ValueRow.{ValueRow}
use Rattle.values.specs.Rows.{rows_of}
use Rattle.values.specs.Records.{ShowsRecord}
use Rattle.values.proofs.RecordLaws.{rows-record}
use Rattle.reading.specs.Reading.{or_zero, reading_of, read_by, answer_to, rows_by, rows_after}

pub belongs-follows : (ls : List (List Field)) (j : ℕ) (line : List ℕ) → BelongsAs ls j line → Follows (layout_at ls j) line
belongs-follows ls j line b = subst (λ l. Follows l line) (sym (ap or_empty b.at)) b.follows

module _ (ls : List (List Field)) (line : List ℕ) (old : List ValueRow) where
  record-read : (j : ℕ) → is_lawful ls ≡ true → judged ls line ≡ Ok j → ShowsRecord ls (or_zero (digits_of (layout_at ls j))) line (rows_of (layout_at ls j) line) line
  record-read j law e =
      let b = judged-belongs ls line j e in
      let l = b.layout in
      let h = headed l (lawful-at ls j l (lawful-layouts ls law) b.at) in
      let has : digits_of l ≡ Some h.number = ap digits_of h.is in
      let same : layout_at ls j ≡ l = ap or_empty b.at in
      subst (λ k. ShowsRecord ls (or_zero (digits_of k)) line (rows_of k line) line) (sym same)
      (subst (λ n. ShowsRecord ls n line (rows_of l line) line) (sym (ap or_zero has)) (rows-record ls j h.number l line b.at has b.follows))

  Promised : Result ℕ Refusal → Type 0
  Promised o = IfOk (read_by ls line (length old) o) (λ x. ShowsRecord ls x.digits line (take x.rows (rows_by ls line old o)) line)

  by-room : (j : ℕ) (t : Bool) → ShowsRecord ls (or_zero (digits_of (layout_at ls j))) line (rows_of (layout_at ls j) line) line → IfOk (cond t (Err (refusal 24 2 0 0 0)) (Ok (reading_of (layout_at ls j) line))) (λ x. ShowsRecord ls x.digits line (take x.rows (cond t old (rows_of (layout_at ls j) line ++ drop (length (rows_of (layout_at ls j) line)) old))) line)
  by-room j true h = tt
  by-room j false h =
      let new = rows_of (layout_at ls j) line in
      subst (λ rs. ShowsRecord ls (or_zero (digits_of (layout_at ls j))) line rs line) (sym (take_at new (drop (length new) old) (length new) refl)) h

  by-judged : is_lawful ls ≡ true → (o : Result ℕ Refusal) → judged ls line ≡ o → Promised o
  unfolding Promised
  by-judged law (Ok j) e = by-room j (ltb (length old) (length (rows_of (layout_at ls j) line))) (record-read j law e)
  by-judged law (Err x) e = tt

  pub rows-show-the-record : is_lawful ls ≡ true → IfOk (answer_to ls line (length old)) (λ x. ShowsRecord ls x.digits line (take x.rows (rows_after ls line old)) line)
  unfolding Promised
  rows-show-the-record law = by-judged law (judged ls line) refl
