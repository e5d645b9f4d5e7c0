-- Files: lists of records, each with CR LF behind it.
use Rattle.std.specs.Prelude.{◌≡◌, ℕ, ◌+◌, ◌<◌, ◌≤◌, cond, ◌⊎◌, List, [], ◌∷◌, ◌++◌, length, Ok, Err, Result, nat_lt}
use Rattle.basics.specs.declared.refusal.Refusal.{Refusal}
use Rattle.basics.specs.Refusals.{refusal}
use Rattle.layouts.specs.declared.field.Field.{Field}
use Rattle.lines.specs.Judging.{and_then, judged}
use Rattle.lines.specs.Belongs.{Belongs}
use Rattle.lines.specs.Refuses.{Refuses}
use Rattle.files.specs.Lines.{lines_of, rest_of, written}

-- a line's refusal, with the number of the line
abbrev pub named : ℕ → Refusal → Refusal
named n e = record { reason = e.reason; layer = e.layer; line = n; field = e.field; byte = e.byte }

abbrev pub at_line : {A : Type 0} → ℕ → Result A Refusal → Result A Refusal
at_line n (Ok x) = Ok x
at_line n (Err e) = Err (named n e)

-- the number of lines: 22 if the last is unended, 23 if they are more than 1,200
abbrev pub counted : List ℕ → Result ℕ Refusal
counted bytes =
    cond (nat_lt 0 (length (rest_of bytes))) (Err (refusal 22 3 (length (lines_of bytes) + 1) 0 0)) (cond (nat_lt 1200 (length (lines_of bytes))) (Err (refusal 23 3 1201 0 0)) (Ok (length (lines_of bytes))))

-- an answer, if none of the lines, counted from n, has a fault: else the first fault
abbrev pub line_by_line : List (List Field) → ℕ → List (List ℕ) → ℕ → Result ℕ Refusal
line_by_line ls n [] answer = Ok answer
line_by_line ls n (l ∷ rest) answer = and_then (at_line n (judged ls l)) (λ j. line_by_line ls (n + 1) rest answer)

abbrev pub file_judged : List (List Field) → List ℕ → Result ℕ Refusal
file_judged ls bytes = and_then (counted bytes) (λ n. line_by_line ls 1 (lines_of bytes) n)

-- every line belongs to the set
abbrev pub Records : List (List Field) → List (List ℕ) → Type 0
Records ls [] = Unit {0}
Records ls (l ∷ rest) = Belongs ls l × Records ls rest

-- the bytes are these records, at most 1,200, with CR LF behind each
pub record FileOf (ls : List (List Field)) (bytes : List ℕ) (records : List (List ℕ)) : Type 0 where
  pub writing : bytes ≡ written records
  pub few : length records ≤ 1200
  pub each : Records ls records

-- 22: bytes stand behind the last CR LF
pub record Unended (bytes : List ℕ) (e : Refusal) : Type 0 where
  pub rest : 0 < length (rest_of bytes)
  pub is : e ≡ refusal 22 3 (length (lines_of bytes) + 1) 0 0

-- 23: every line is ended, and they are more than 1,200
pub record TooMany (bytes : List ℕ) (e : Refusal) : Type 0 where
  pub ended : rest_of bytes ≡ []
  pub many : 1200 < length (lines_of bytes)
  pub is : e ≡ refusal 23 3 1201 0 0

-- the first line that does not belong, with its own fault and its number
pub record BadLine (ls : List (List Field)) (bytes : List ℕ) (e : Refusal) : Type 0 where
  pub ended : rest_of bytes ≡ []
  pub few : length (lines_of bytes) ≤ 1200
  pub before : List (List ℕ)
  pub line : List ℕ
  pub after : List (List ℕ)
  pub lines : lines_of bytes ≡ before ++ line ∷ after
  pub good : Records ls before
  pub fault : Refusal
  pub refused : Refuses ls line fault
  pub is : e ≡ named (1 + length before) fault

abbrev pub FileRefused : List (List Field) → List ℕ → Refusal → Type 0
FileRefused ls bytes e = Unended bytes e ⊎ (TooMany bytes e ⊎ BadLine ls bytes e)
