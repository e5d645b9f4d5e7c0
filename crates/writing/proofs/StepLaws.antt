-- Steps one after another, and the rows that they take.
use Rattle.std.proofs.Common.{◌≡◌, ℕ, zero, suc, ◌+◌, ◌-◌, ◌*◌, ◌<◌, ◌≤◌, Bool, true, false, cond, ◌&&◌, eqb, leb, List, [], ◌∷◌, ◌++◌, length, get_or, drop, sym, refl, ap, ◌∙◌, append_assoc, arith, length-append}
use Rattle.std.proofs.lemmas.Bool.{and_parts, leb-true}
use Rattle.std.proofs.lemmas.List.{drop_more, drop-drop, length-drop}
use Rattle.basics.specs.Bytes.{all}
use Rattle.basics.specs.Texts.{trim}
use Rattle.basics.proofs.DigitLaws.{length_digits}
use Rattle.layouts.specs.Kinds.{Part, constant, figures, letters, code, Shape, one, block, count, line, width}
use Rattle.values.specs.declared.row.ValueRow.{ValueRow}
use Rattle.values.specs.Rows.{text_at, inside}
use Rattle.values.specs.Writing.{padded, fitting, suits, written, Step, done, refused, before, chain, row_step, line_steps, first_number, field_step}
use Rattle.values.proofs.Padding.{length-padded}
use Rattle.values.proofs.PartLaws.{never}
use Rattle.values.proofs.FieldLaws.{chained}

pub before-before : {E : Type 0} (a b : List ℕ) (x : Step E) → before a (before b x) ≡ before (a ++ b) x
before-before a b (done s rest) = ap (λ y. done y rest) (sym (append_assoc a b s))
before-before a b (refused e) = refl

-- n bytes are written, and what is left is still to be
pub record Ahead {E : Type 0} (whole : Step E) (n : ℕ) (left : Step E) : Type 0 where
  pub sofar : List ℕ
  pub wide : length sofar ≡ n
  pub is : whole ≡ before sofar left

pub ahead_more : {E : Type 0} (whole x : Step E) (k : List ValueRow → Step E) (n m : ℕ) (b : List ℕ) (rest : List ValueRow) → Ahead whole n (chain x k) → x ≡ done b rest → length b ≡ m → Ahead whole (n + m) (k rest)
ahead_more whole x k n m b rest h e l =
    let w = h.wide in
    let p = length-append h.sofar b in
    record {
      sofar = h.sofar ++ b;
      wide = omega arith;
      is = h.is ∙ ap (λ y. before h.sofar (chain y k)) e ∙ before-before h.sofar b (k rest);
    }

pub ahead-stop : {E : Type 0} (whole x : Step E) (k : List ValueRow → Step E) (n : ℕ) (e : E) → Ahead whole n (chain x k) → x ≡ refused e → whole ≡ refused e
ahead-stop whole x k n e h q = h.is ∙ ap (λ y. before h.sofar (chain y k)) q

-- a row that suits is written in the width of its part
pub length-written : (q : Part) (bytes : List ℕ) (r : ValueRow) → suits q bytes r ≡ true → length (written q bytes r) ≡ width q
length-written (constant bs) bytes r h = refl
length-written (figures w ok n) bytes r h = length_digits w r.number
length-written (letters w c ok n) bytes r h =
    let t : List ℕ = text_at bytes r in
    let a = and_parts (inside bytes r) (fitting w c ok t) h in
    let b = and_parts (leb (length t) w) (eqb (length (trim t)) (length t) && (all c (padded w t) && ok (padded w t))) a.1 in
    length-padded w t (leb-true (length t) w b.0)
length-written (code c) bytes r h = refl

-- one row: there is none; it does not suit; it does
module _ (q : Part) (bytes : List ℕ) (rs : List ValueRow) where
  row_at : (d : ValueRow) → 0 < length rs → row_step q bytes rs ≡ cond (suits q bytes (get_or rs 0 d)) (done (written q bytes (get_or rs 0 d)) (drop 1 rs)) (refused 43)
  row_at d h = ap (row_step q bytes) (drop_more rs 0 d h)

  pub row-right : (d : ValueRow) → 0 < length rs → suits q bytes (get_or rs 0 d) ≡ true → row_step q bytes rs ≡ done (written q bytes (get_or rs 0 d)) (drop 1 rs)
  row-right d h e = row_at d h ∙ ap (λ t. cond t (done (written q bytes (get_or rs 0 d)) (drop 1 rs)) (refused 43)) e

-- a row that was written
pub record RowDone (q : Part) (bytes : List ℕ) (rs : List ValueRow) (b : List ℕ) (rest : List ValueRow) : Type 0 where
  pub some : 0 < length rs
  pub suited : (d : ValueRow) → suits q bytes (get_or rs 0 d) ≡ true
  pub wrote : (d : ValueRow) → written q bytes (get_or rs 0 d) ≡ b
  pub wide : length b ≡ width q
  pub tail : rest ≡ drop 1 rs

picked : (t : Bool) (a b : List ℕ) (m rest : List ValueRow) (n : ℕ) → cond t (done a m) (refused n) ≡ done b rest → (t ≡ true) × (a ≡ b) × (m ≡ rest)
picked true a b m rest n e = (refl, cc, cc)
picked false a b m rest n e = never e

pub row_done : (q : Part) (bytes : List ℕ) (rs : List ValueRow) (b : List ℕ) (rest : List ValueRow) → row_step q bytes rs ≡ done b rest → RowDone q bytes rs b rest
row_done q bytes [] b rest e = never e
row_done q bytes (r ∷ rs) b rest e =
    let p = picked (suits q bytes r) (written q bytes r) b rs rest 43 e in
    record { some = omega arith; suited = λ d. p.0; wrote = λ d. p.1; wide = ap length (sym p.1) ∙ length-written q bytes r p.0; tail = sym p.2 }

-- how many rows a step took
pub record Tail (rs rest : List ValueRow) (v : ℕ) : Type 0 where
  pub within : v ≤ length rs
  pub is : rest ≡ drop v rs

pub lines-tail : (ok : List ℕ → Bool) (n : ℕ) (bytes : List ℕ) (rs : List ValueRow) (b : List ℕ) (rest : List ValueRow) → line_steps ok n bytes rs ≡ done b rest → Tail rs rest n × (length b ≡ 35 * n)
lines-tail ok zero bytes rs b rest e =
    let p : [] ≡ b = cc in
    let q : rs ≡ rest = cc in
    (record { within = omega arith; is = sym q }, sym (ap length p))
lines-tail ok (suc n) bytes rs b rest e =
    let c = chained (row_step (line ok) bytes rs) (line_steps ok n bytes) b rest e in
    let r = row_done (line ok) bytes rs c.a c.mid c.first in
    let g = lines-tail ok n bytes c.mid c.b rest c.next in
    let w = r.wide in
    let v = g.1 in
    let x = g.0.within in
    let d = ap length r.tail ∙ length-drop 1 rs in
    let s = r.some in
    let m = ap length (sym c.whole) ∙ length-append c.a c.b in
    let one : 1 + n ≡ suc n = omega arith in (
      record { within = omega arith; is = g.0.is ∙ ap (drop n) r.tail ∙ drop-drop n 1 rs ∙ ap (λ k. drop k rs) one },
      omega arith,
    )

part-tail : (q : Part) (bytes : List ℕ) (rs : List ValueRow) (b : List ℕ) (rest : List ValueRow) → row_step q bytes rs ≡ done b rest → Tail rs rest 1
part-tail q bytes rs b rest e = let r = row_done q bytes rs b rest e in let s = r.some in record { within = omega arith; is = r.tail }

pub field-tail : (x : Shape) (bytes : List ℕ) (rs : List ValueRow) (b : List ℕ) (rest : List ValueRow) → field_step x bytes rs ≡ done b rest → (v : ℕ) × Tail rs rest v
field-tail (one (constant bs)) bytes rs b rest e = let q : rs ≡ rest = cc in (0, record { within = omega arith; is = sym q })
field-tail (one (figures w ok n)) bytes rs b rest e = (1, part-tail (figures w ok n) bytes rs b rest e)
field-tail (one (letters w c ok n)) bytes rs b rest e = (1, part-tail (letters w c ok n) bytes rs b rest e)
field-tail (one (code c)) bytes rs b rest e = (1, part-tail (code c) bytes rs b rest e)
field-tail (block high counts ok) bytes rs b rest e =
    let c = chained (row_step (count counts) bytes rs) (line_steps ok (first_number rs) bytes) b rest e in
    let r = row_done (count counts) bytes rs c.a c.mid c.first in
    let g = lines-tail ok (first_number rs) bytes c.mid c.b rest c.next in
    let x = g.0.within in
    let d = ap length r.tail ∙ length-drop 1 rs in
    let s = r.some in
    (1 + first_number rs, record { within = omega arith; is = g.0.is ∙ ap (drop (first_number rs)) r.tail ∙ drop-drop (first_number rs) 1 rs })

pub tail-size : (rs rest : List ValueRow) (v : ℕ) → Tail rs rest v → length rs - length rest ≡ v
tail-size rs rest v t = let w = t.within in let d = ap length t.is ∙ length-drop v rs in omega arith
