-- Import and add on a state whose memory is long enough: the ways behind the faults of the delivery or the line.
use Rattle.std.proofs.Common.{◌≡◌, ℕ, ◌+◌, ◌≤◌, true, leb, List, [], ◌∷◌, ◌++◌, length, Ok, Err, sym, refl, ap, ◌∙◌, arith, length-append}
use Rattle.std.proofs.lemmas.List.{length-take-le}
use Rattle.basics.specs.declared.refusal.Refusal.{Refusal}
use Rattle.layouts.specs.declared.field.Field.{Field}
use Rattle.layouts.specs.Layouts.{is_lawful}
use Rattle.lines.specs.Judging.{judged}
use Rattle.files.specs.Lines.{lines_of}
use Rattle.changes.specs.Edits.{ended}
use Rattle.changes.specs.States.{State, within, contents, used_file}
use Rattle.changes.specs.Calls.{required, asked, rooms, changed, appended, delivered, importing, adding}
use Rattle.changes.proofs.Growing.{grown-by-line, grown-by-delivery}
use Rattle.changes.proofs.CallLaws.{asked-on, import-on, add-on, append-over, append-on, change-refused, change-made}

-- lines at the end: `count` lines are there, `n` come to them, in `long` bytes
module _ (s : State) (more : List ℕ) (count n long : ℕ) (fits : s.fileUsed ≤ length s.file) (grown : length (lines_of (used_file s ++ more)) ≡ count + n) (is : length more ≡ long) where
  size : length (used_file s ++ more) ≡ s.fileUsed + long
  size = length-append (used_file s) more ∙ omega (arith, length-take-le s.fileUsed s.file fits)

  over : (e : Refusal) → Err e ≡ required (leb (count + n) 1200) 33 → appended (contents s) more ≡ Err e
  over e p = append-over (contents s) more (count + n) grown e p

  no_room : (e : Refusal) → Ok tt ≡ required (leb (count + n) 1200) 33 → Err e ≡ rooms (contents s) (s.fileUsed + long) 0 → appended (contents s) more ≡ Err e
  no_room e p q = append-on (contents s) more (count + n) grown p ∙ change-refused (contents s) 1 0 (used_file s ++ more) [] e (q ∙ ap (λ k. rooms (contents s) k 0) (sym size))

  done : Ok tt ≡ required (leb (count + n) 1200) 33 → Ok tt ≡ rooms (contents s) (s.fileUsed + long) 0 → appended (contents s) more ≡ Ok (changed (contents s) 1 0 (used_file s ++ more) [])
  done p q = append-on (contents s) more (count + n) grown p ∙ change-made (contents s) 1 0 (used_file s ++ more) [] (q ∙ ap (λ k. rooms (contents s) k 0) (sym size))

module _ (ls : List (List Field)) (law : is_lawful ls ≡ true) (s : State) (ok : Ok tt ≡ required (within s) 31) (fits : s.fileUsed ≤ length s.file) (count : ℕ) (counted : count ≡ length (lines_of (used_file s))) where
  module _ (d : List ℕ) (n : ℕ) (good : Ok n ≡ delivered ls d) where
    on : asked (importing ls d) s ≡ appended (contents s) d
    on = asked-on (importing ls d) s ok ∙ import-on ls d (contents s) n good

    grown : length (lines_of (used_file s ++ d)) ≡ count + n
    grown = grown-by-delivery ls law (used_file s) d n good ∙ ap (λ k. k + n) (sym counted)

    pub import-over : (e : Refusal) → Err e ≡ required (leb (count + n) 1200) 33 → asked (importing ls d) s ≡ Err e
    import-over e p = on ∙ over s d count n (length d) fits grown refl e p

    pub import-no-room : (e : Refusal) → Ok tt ≡ required (leb (count + n) 1200) 33 → Err e ≡ rooms (contents s) (s.fileUsed + length d) 0 → asked (importing ls d) s ≡ Err e
    import-no-room e p q = on ∙ no_room s d count n (length d) fits grown refl e p q

    pub import-done : Ok tt ≡ required (leb (count + n) 1200) 33 → Ok tt ≡ rooms (contents s) (s.fileUsed + length d) 0 → asked (importing ls d) s ≡ Ok (changed (contents s) 1 0 (used_file s ++ d) [])
    import-done p q = on ∙ done s d count n (length d) fits grown refl p q

  module _ (l : List ℕ) (j : ℕ) (good : Ok j ≡ judged ls l) where
    on_line : asked (adding ls l) s ≡ appended (contents s) (ended l)
    on_line = asked-on (adding ls l) s ok ∙ add-on ls l (contents s) j good

    grown-line : length (lines_of (used_file s ++ ended l)) ≡ count + 1
    grown-line = grown-by-line ls law (used_file s) l j good ∙ ap (λ k. k + 1) (sym counted)

    long : length (ended l) ≡ length l + 2
    long = length-append l (13 ∷ 10 ∷ [])

    pub add-over : (e : Refusal) → Err e ≡ required (leb (count + 1) 1200) 33 → asked (adding ls l) s ≡ Err e
    add-over e p = on_line ∙ over s (ended l) count 1 (length l + 2) fits grown-line long e p

    pub add-no-room : (e : Refusal) → Ok tt ≡ required (leb (count + 1) 1200) 33 → Err e ≡ rooms (contents s) (s.fileUsed + (length l + 2)) 0 → asked (adding ls l) s ≡ Err e
    add-no-room e p q = on_line ∙ no_room s (ended l) count 1 (length l + 2) fits grown-line long e p q

    pub add_done : Ok tt ≡ required (leb (count + 1) 1200) 33 → Ok tt ≡ rooms (contents s) (s.fileUsed + (length l + 2)) 0 → asked (adding ls l) s ≡ Ok (changed (contents s) 1 0 (used_file s ++ ended l) [])
    add_done p q = on_line ∙ done s (ended l) count 1 (length l + 2) fits grown-line long p q
