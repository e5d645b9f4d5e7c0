-- Replace and strike on a state whose memory is long enough: the ways behind the search for the line.
use Rattle.std.proofs.Common.{◌≡◌, ℕ, ◌+◌, ◌-◌, ◌<◌, ◌≤◌, false, List, [], length, take, drop, Some, None, Ok, Err, sym, ap, ◌∙◌, arith}
use native.Mathlib.Nat.{sub-zero}
use Rattle.std.proofs.lemmas.List.{length-take-le}
use Rattle.basics.specs.declared.refusal.Refusal.{Refusal}
use Rattle.layouts.specs.declared.field.Field.{Field}
use Rattle.lines.specs.Judging.{judged}
use Rattle.files.specs.Lines.{lines_of}
use Rattle.changes.specs.declared.places.LinePlace.{LinePlace}
use Rattle.changes.specs.Edits.{has_line, line_of, replaced, struck}
use Rattle.changes.specs.Places.{place_of, behind_lines}
use Rattle.changes.specs.States.{State, within, contents, used_file}
use Rattle.changes.specs.Calls.{draft_refusal, required, asked, rooms, changed, change, replacing, striking}
use Rattle.changes.proofs.PlaceLaws.{PlacedAt, BehindAt, place-some, place-not, behind-some, behind-not, spliced, struck-is, line_at}
use Rattle.changes.proofs.CallLaws.{asked-on, replace-none, replace-fault, replace-on, strike-none, strike-on, change-refused, change-made, used-part}
use Rattle.changes.proofs.UndoLaws.{found_within, replaced-size, length-spliced}

-- the search was for a line of the used part
pub placed : (F : List ℕ) (used n : ℕ) (p : LinePlace) → Some p ≡ place_of n (take (used - 0) F) → PlacedAt n p.at p.size (take used F)
placed F used n p e = place-some n p (take used F) (e ∙ ap (λ k. place_of n (take k F)) (sub-zero used))

pub not-placed : (F : List ℕ) (used n : ℕ) → None ≡ place_of n (take (used - 0) F) → has_line n (take used F) ≡ false
not-placed F used n e = place-not n (take used F) (e ∙ ap (λ k. place_of n (take k F)) (sub-zero used))

pub behind : (F : List ℕ) (used m at : ℕ) → Some at ≡ behind_lines m (take (used - 0) F) → BehindAt m at (take used F)
behind F used m at e = behind-some m at (take used F) (e ∙ ap (λ k. behind_lines m (take k F)) (sub-zero used))

pub not_behind : (F : List ℕ) (used m : ℕ) → None ≡ behind_lines m (take (used - 0) F) → length (lines_of (take used F)) < m
not_behind F used m e = behind-not m (take used F) (e ∙ ap (λ k. behind_lines m (take k F)) (sub-zero used))

module _ (n : ℕ) (s : State) (ok : Ok tt ≡ required (within s) 31) where
  pub strike-no-line : has_line n (used_file s) ≡ false → asked (striking n) s ≡ Err (draft_refusal 32)
  strike-no-line h = asked-on (striking n) s ok ∙ strike-none n (contents s) h

  pub replace-no-line : (ls : List (List Field)) (l : List ℕ) → has_line n (used_file s) ≡ false → asked (replacing ls n l) s ≡ Err (draft_refusal 32)
  replace-no-line ls l h = asked-on (replacing ls n l) s ok ∙ replace-none ls n l (contents s) h

  module _ (at size : ℕ) (fits : s.fileUsed ≤ length s.file) (p : PlacedAt n at size (used_file s)) where
    -- the old line, as it stands in the memory
    pub old-line : take (at + size - at) (drop at s.file) ≡ line_of n (used_file s)
    old-line =
        let w = found_within n at size (used_file s) p in
        let u = length-take-le s.fileUsed s.file fits in
        used-part s.file s.fileUsed at size (omega arith)
        ∙ (λ i. take (p.long i) (drop (p.place i) (used_file s)))
        ∙ line_at n (used_file s) p.there

    pub struck-at : spliced (used_file s) at (size + 2) [] ≡ struck n (used_file s)
    struck-at = (λ i. spliced (used_file s) (p.place i) (p.long i + 2) []) ∙ struck-is n (used_file s) p.there

    struck-size : length (struck n (used_file s)) ≡ s.fileUsed - (size + 2) + 0
    struck-size =
        let w = found_within n at size (used_file s) p in
        omega (arith, length-spliced (used_file s) at (size + 2) [] (omega arith), ap length struck-at, length-take-le s.fileUsed s.file fits)

    strike-rooms : rooms (contents s) (s.fileUsed - (size + 2) + 0) size ≡ rooms (contents s) (length (struck n (used_file s))) (length (line_of n (used_file s)))
    strike-rooms = λ i. rooms (contents s) (sym struck-size i) (p.long i)

    pub strike-no-room : (e : Refusal) → Err e ≡ rooms (contents s) (s.fileUsed - (size + 2) + 0) size → asked (striking n) s ≡ Err e
    strike-no-room e q =
        asked-on (striking n) s ok ∙ strike-on n (contents s) p.there ∙ change-refused (contents s) 3 n (struck n (used_file s)) (line_of n (used_file s)) e (q ∙ strike-rooms)

    pub strike-done : Ok tt ≡ rooms (contents s) (s.fileUsed - (size + 2) + 0) size → asked (striking n) s ≡ Ok (changed (contents s) 3 n (struck n (used_file s)) (line_of n (used_file s)))
    strike-done q =
        asked-on (striking n) s ok ∙ strike-on n (contents s) p.there ∙ change-made (contents s) 3 n (struck n (used_file s)) (line_of n (used_file s)) (q ∙ strike-rooms)

    module _ (ls : List (List Field)) (l : List ℕ) where
      pub replace-bad : (e : Refusal) → Err e ≡ judged ls l → asked (replacing ls n l) s ≡ Err e
      replace-bad e q = asked-on (replacing ls n l) s ok ∙ replace-fault ls n l (contents s) e p.there q

      replaced-long : length (replaced n l (used_file s)) ≡ s.fileUsed - size + length l
      replaced-long =
          let w = found_within n at size (used_file s) p in
          omega (arith, replaced-size n at size (used_file s) p l, length-take-le s.fileUsed s.file fits)

      replace-rooms : rooms (contents s) (s.fileUsed - size + length l) size ≡ rooms (contents s) (length (replaced n l (used_file s))) (length (line_of n (used_file s)))
      replace-rooms = λ i. rooms (contents s) (sym replaced-long i) (p.long i)

      on : (j : ℕ) → Ok j ≡ judged ls l → asked (replacing ls n l) s ≡ change (contents s) 2 n (replaced n l (used_file s)) (line_of n (used_file s))
      on j g = asked-on (replacing ls n l) s ok ∙ replace-on ls n l (contents s) j p.there g

      pub replace-no-room : (j : ℕ) (e : Refusal) → Ok j ≡ judged ls l → Err e ≡ rooms (contents s) (s.fileUsed - size + length l) size → asked (replacing ls n l) s ≡ Err e
      replace-no-room j e g q = on j g ∙ change-refused (contents s) 2 n (replaced n l (used_file s)) (line_of n (used_file s)) e (q ∙ replace-rooms)

      pub replace-done : (j : ℕ) → Ok j ≡ judged ls l → Ok tt ≡ rooms (contents s) (s.fileUsed - size + length l) size → asked (replacing ls n l) s ≡ Ok (changed (contents s) 2 n (replaced n l (used_file s)) (line_of n (used_file s)))
      replace-done j g q = on j g ∙ change-made (contents s) 2 n (replaced n l (used_file s)) (line_of n (used_file s)) (q ∙ replace-rooms)
