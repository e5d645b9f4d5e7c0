-- Laws of texts put into a room one behind another.
use Rattle.std.proofs.Common.{◌≡◌, ℕ, ◌+◌, ◌*◌, ◌<◌, ◌≤◌, List, [], ◌∷◌, ◌++◌, length, get_or, take, drop, Ok, Err, Result, sym, refl, ap, ◌∙◌, append_assoc, arith, length-append, take-append-drop}
use Rattle.std.proofs.lemmas.List.{drop-drop, drop_more, drop_all, take_at, drop_at, length-take-le}
use Rattle.reports.specs.declared.fault_row.FaultRow.{FaultRow}
use Rattle.std.proofs.lemmas.Bool.{lt-ltb, le-ltb, cond-true, cond-false}
use Rattle.basics.specs.declared.refusal.Refusal.{Refusal}
use Rattle.basics.specs.Refusals.{refusal}
use Rattle.reports.specs.Reports.{fault_line, fault_lines, head_line, shown, put_into, answer_of, room_after}

-- a text at a place of a room
abbrev pub put_at : ℕ → List ℕ → List ℕ → List ℕ
put_at at text room = take at room ++ put_into text (drop at room)

-- two texts, one behind the other, are one
pub put_next : (room a b : List ℕ) (at : ℕ) → at ≤ length room → put_at (at + length a) b (put_at at a room) ≡ put_at at (a ++ b) room
put_next room a b at h =
    let front = take at room in
    let back = drop at room in
    let n : length (front ++ a) ≡ at + length a = omega (arith, length-append front a, length-take-le at room h) in
    let whole : put_at at a room ≡ (front ++ a) ++ drop (length a) back = sym (append_assoc front a (drop (length a) back)) in
    let before : take (at + length a) (put_at at a room) ≡ front ++ a = ap (take (at + length a)) whole ∙ take_at (front ++ a) (drop (length a) back) (at + length a) n in
    let behind : drop (at + length a) (put_at at a room) ≡ drop (length a) back = ap (drop (at + length a)) whole ∙ drop_at (front ++ a) (drop (length a) back) (at + length a) n in
    let left : drop (length b) (drop (length a) back) ≡ drop (length (a ++ b)) back = drop-drop (length b) (length a) back ∙ ap (λ m. drop m back) (sym (length-append a b)) in
    (λ i. before i ++ put_into b (behind i))
    ∙ append_assoc front a (b ++ drop (length b) (drop (length a) back))
    ∙ ap (λ x. front ++ x) (sym (append_assoc a b (drop (length b) (drop (length a) back))))
    ∙ ap (λ x. front ++ ((a ++ b) ++ x)) left

pub put-nothing : (room : List ℕ) (at : ℕ) → put_at at [] room ≡ room
put-nothing room at = take-append-drop at room

-- one turn of a loop over the faults
pub lines_more : (rows : List FaultRow) (i : ℕ) (d : FaultRow) → i < length rows → fault_lines (drop i rows) ≡ fault_line (get_or rows i d) ++ fault_lines (drop (i + 1) rows)
lines_more rows i d h = ap fault_lines (drop_more rows i d h)

pub lines_end_lem : (rows : List FaultRow) (i : ℕ) → length rows ≤ i → fault_lines (drop i rows) ≡ []
lines_end_lem rows i h = ap fault_lines (drop_all i rows h)

-- how long a report is
pub length-lines : (rows : List FaultRow) → length (fault_lines rows) ≡ 40 * length rows
length-lines [] = refl
length-lines (r ∷ rs) = omega (arith, length-append (fault_line r) (fault_lines rs), length-lines rs)

pub length-shown : (l b : ℕ) (rows : List FaultRow) → length (shown l b rows) ≡ 22 + 40 * length rows
length-shown l b rows = omega (arith, length-append (head_line l b) (fault_lines rows), length-lines rows)

-- whether there is room for a text
pub record Put (text room : List ℕ) (r : Result ℕ Refusal) (after : List ℕ) : Type 0 where
  pub answer : r ≡ answer_of text room
  pub room' : after ≡ room_after text room

pub no_room : (text room : List ℕ) (n : ℕ) → length text ≡ n → length room < n → Put text room (Err (refusal 45 2 0 0 0)) room
no_room text room n e h =
    let t = lt-ltb (length room) (length text) (omega arith) in record {
      answer = sym (cond-true _ (Err (refusal 45 2 0 0 0)) (Ok (length text)) t);
      room' = sym (cond-true _ room (put_into text room) t);
    }

pub has_room : (text room : List ℕ) (n : ℕ) → length text ≡ n → n ≤ length room → Put text room (Ok n) (put_into text room)
has_room text room n e h =
    let t = le-ltb (length room) (length text) (omega arith) in record {
      answer = ap Ok (sym e) ∙ sym (cond-false _ (Err (refusal 45 2 0 0 0)) (Ok (length text)) t);
      room' = sym (cond-false _ room (put_into text room) t);
    }
