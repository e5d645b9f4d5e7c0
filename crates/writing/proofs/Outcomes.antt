-- What writing answers and leaves, and what that says of records.
use Rattle.std.proofs.Common.{◌≡◌, ℕ, ◌+◌, ◌-◌, ◌<◌, ◌≤◌, Bool, true, false, cond, ltb, List, [], ◌∷◌, length, take, drop, IfOk, Some, Ok, Err, Result, sym, refl, ap, ◌∙◌, subst, arith}
use Rattle.std.proofs.lemmas.List.{take_at, drop-drop, length-drop, nil_from_length}
use Rattle.std.proofs.lemmas.Bool.{lt-ltb, le-ltb}
use Rattle.basics.specs.declared.refusal.Refusal.{Refusal}
use Rattle.basics.specs.Refusals.{refusal}
use Rattle.layouts.specs.declared.field.Field.{Field}
use Rattle.layouts.specs.Kinds.{shape}
use Rattle.layouts.specs.Layouts.{layout_at, is_lawful}
use Rattle.lines.specs.Judging.{found}
use Rattle.lines.specs.Belongs.{Belongs}
use Rattle.lines.proofs.Steps.{absurd-err, same_ok}
use Rattle.values.specs.declared.row.ValueRow.{ValueRow}
use Rattle.values.specs.Records.{ShowsRecord}
use Rattle.values.specs.Writing.{Step, done, refused, placed, field_step, field_steps, finished, line_by, line_for}
use Rattle.values.proofs.FieldLaws.{chained, placed-done}
use Rattle.values.proofs.RecordLaws.{reads-record, writes-record}
use Rattle.writing.specs.declared.size.Size.{Size}
use Rattle.writing.specs.Sizes.{sized, in_front}
use Rattle.writing.specs.Answers.{length_of, memory_after}
use Rattle.writing.proofs.StepLaws.{Tail, field-tail}

-- the rows that fields leave are the last ones
fields-tail : (i : ℕ) (fs : List Field) (bytes : List ℕ) (rs : List ValueRow) (b : List ℕ) (rest : List ValueRow) → field_steps i fs bytes rs ≡ done b rest → (v : ℕ) × Tail rs rest v
fields-tail i [] bytes rs b rest e = let q : rs ≡ rest = cc in (0, record { within = omega arith; is = sym q })
fields-tail i (f ∷ fs) bytes rs b rest e =
    let c = chained (placed i (field_step (shape f) bytes rs)) (field_steps (i + 1) fs bytes) b rest e in
    let x = field-tail (shape f) bytes rs c.a c.mid (placed-done i (field_step (shape f) bytes rs) c.a c.mid c.first) in
    let y = fields-tail (i + 1) fs bytes c.mid c.b rest c.next in
    let p = x.1.within in
    let q = y.1.within in
    let d = ap length x.1.is ∙ length-drop x.0 rs in
    (x.0 + y.0, record { within = omega arith; is = y.1.is ∙ ap (drop y.0) x.1.is ∙ drop-drop y.0 x.0 rs })

-- the size of the fields, put to use
pub record Checked (l : List Field) (bytes : List ℕ) (rs : List ValueRow) (z : Size) : Type 0 where
  pub wrote : List ℕ
  pub rest : List ValueRow
  pub is : field_steps 1 l bytes rs ≡ done wrote rest
  pub bytes' : z.bytes ≡ length wrote
  pub rows : z.rows + length rest ≡ length rs

sized-done : (n : ℕ) (x : Step Refusal) (z : Size) → Ok z ≡ sized n x → (b : List ℕ) × ((r : List ValueRow) × ((x ≡ done b r) × ((z.bytes ≡ length b) × (z.rows ≡ n - length r))))
sized-done n (done b r) z e = let q = same_ok e in (b, (r, (refl, (ap (λ y. y.bytes) q, ap (λ y. y.rows) q))))
sized-done n (refused x) z e = absurd-err (sym e)

pub checked : (l : List Field) (bytes : List ℕ) (rs : List ValueRow) (z : Size) → Ok z ≡ sized (length rs) (field_steps 1 l bytes rs) → Checked l bytes rs z
checked l bytes rs z e =
    let d = sized-done (length rs) (field_steps 1 l bytes rs) z e in
    let r = d.1.0 in
    let t = fields-tail 1 l bytes rs d.0 r d.1.1.0 in
    let w = t.1.within in
    let n = ap length t.1.is ∙ length-drop t.0 rs in
    let zr = d.1.1.1.1 in
    record { wrote = d.0; rest = r; is = d.1.1.0; bytes' = d.1.1.1.0; rows = omega arith }

-- the line, refused
module _ (ls : List (List Field)) (n : ℕ) (bytes : List ℕ) (rs : List ValueRow) where
  module _ (j : ℕ) (f : found ls 1 n ≡ Some j) where
    pub line-whole : (z : Size) (c : Checked (layout_at ls j) bytes rs z) → length rs ≤ z.rows → line_for ls n bytes rs ≡ Ok c.wrote
    line-whole z c l =
        let r = c.rows in
        let none : c.rest ≡ [] = nil_from_length c.rest (omega arith) in
        ap (λ o. line_by ls o bytes rs) f ∙ ap finished (c.is ∙ ap (done c.wrote) none)

pub says-long : (old : List ℕ) (r : Result (List ℕ) Refusal) (s : List ℕ) → r ≡ Ok s → length old < length s → (Err (refusal 45 2 0 0 0) ≡ length_of (length old) r) × (old ≡ memory_after old r)
says-long old r s h l =
    let t = lt-ltb (length old) (length s) l in (
      sym (ap (length_of (length old)) h ∙ ap (λ b. cond b (Err (refusal 45 2 0 0 0)) (Ok (length s))) t),
      sym (ap (memory_after old) h ∙ ap (λ b. cond b old (in_front s old)) t),
    )

pub says-done : (old : List ℕ) (r : Result (List ℕ) Refusal) (s : List ℕ) → r ≡ Ok s → length s ≤ length old → (Ok (length s) ≡ length_of (length old) r) × (in_front s old ≡ memory_after old r)
says-done old r s h l =
    let t = le-ltb (length old) (length s) l in (
      sym (ap (length_of (length old)) h ∙ ap (λ b. cond b (Err (refusal 45 2 0 0 0)) (Ok (length s))) t),
      sym (ap (memory_after old) h ∙ ap (λ b. cond b old (in_front s old)) t),
    )

-- what is written is the record that the rows show
module _ (ls : List (List Field)) (n : ℕ) (bytes : List ℕ) (rs : List ValueRow) (old : List ℕ) where
  by-room : (s : List ℕ) (t : Bool) (P : List ℕ → Type 0) → P s → IfOk (cond t (Err (refusal 45 2 0 0 0)) (Ok (length s))) (λ k. P (take k (cond t old (in_front s old))))
  by-room s true P h = tt
  by-room s false P h = subst P (sym (take_at s (drop (length s) old) (length s) refl)) h

  by-line : (P : List ℕ → Type 0) (r : Result (List ℕ) Refusal) → ((s : List ℕ) → r ≡ Ok s → P s) → IfOk (length_of (length old) r) (λ k. P (take k (memory_after old r)))
  by-line P (Ok s) h = by-room s (ltb (length old) (length s)) P (h s refl)
  by-line P (Err e) h = tt

  pub shows-what-is-written : IfOk (length_of (length old) (line_for ls n bytes rs)) (λ k. ShowsRecord ls n bytes rs (take k (memory_after old (line_for ls n bytes rs))))
  shows-what-is-written = by-line (ShowsRecord ls n bytes rs) (line_for ls n bytes rs) (λ s e. reads-record ls n bytes rs s e)

  belongs : (s : List ℕ) → ShowsRecord ls n bytes rs s → Belongs ls s
  belongs s h = let i = h.is in (i.number, record { layout = i.layout; at = i.at; follows = i.follows })

  pub belongs-what-is-written : IfOk (length_of (length old) (line_for ls n bytes rs)) (λ k. Belongs ls (take k (memory_after old (line_for ls n bytes rs))))
  belongs-what-is-written = by-line (Belongs ls) (line_for ls n bytes rs) (λ s e. belongs s (reads-record ls n bytes rs s e))

  -- a record that the rows show is what is written
  pub writes-what-is-shown : is_lawful ls ≡ true → (line : List ℕ) → ShowsRecord ls n bytes rs line → length line ≤ length old → (length_of (length old) (line_for ls n bytes rs) ≡ Ok (length line)) × (memory_after old (line_for ls n bytes rs) ≡ in_front line old)
  writes-what-is-shown law line h l =
      let d = says-done old (line_for ls n bytes rs) line (writes-record ls n bytes rs line law h) l in
      (sym d.0, sym d.1)
