-- The report of a survey, byte by byte.
use Rattle.std.specs.Prelude.{ℕ, ◌^◌, ◌<◌, cond, List, [], ◌∷◌, ◌++◌, length, take, drop, Ok, Err, codes, Result, nat_lt}
use Rattle.basics.specs.declared.refusal.Refusal.{Refusal}
use Rattle.basics.specs.Refusals.{refusal}
use Rattle.basics.specs.Decimals.{digits}
use Rattle.layouts.specs.declared.field.Field.{Field}
use Rattle.reports.specs.declared.fault_row.FaultRow.{FaultRow}
use Rattle.reports.specs.Surveys.{faults_of, lines_in}

-- LF
abbrev pub newline : List ℕ
newline = 10 ∷ []

-- LINES nnnnn BAD nnnnn
abbrev pub head_line : ℕ → ℕ → List ℕ
head_line lines bad = codes "LINES " ++ digits 5 lines ++ codes " BAD " ++ digits 5 bad ++ newline

-- LINE nnnnn FIELD nn BYTE nnnnn FAULT nn
abbrev pub fault_line : FaultRow → List ℕ
fault_line r =
    codes "LINE " ++ digits 5 r.line ++ codes " FIELD " ++ digits 2 r.field ++ codes " BYTE " ++ digits 5 r.byte ++ codes " FAULT " ++ digits 2 r.number ++ newline

abbrev pub fault_lines : List FaultRow → List ℕ
fault_lines [] = []
fault_lines (r ∷ rs) = fault_line r ++ fault_lines rs

abbrev pub too_long : List ℕ
too_long = codes "TOO LONG" ++ newline

-- the head and a line for each of these faults
abbrev pub shown : ℕ → ℕ → List FaultRow → List ℕ
shown lines bad rows = head_line lines bad ++ fault_lines rows

-- more than 65,536 bytes are not surveyed; of the bad lines the first 100 are shown
abbrev pub report_of : List (List Field) → List ℕ → List ℕ
report_of ls bytes =
    cond (nat_lt 65536 (length bytes)) too_long (shown (lines_in bytes) (length (faults_of ls bytes)) (take 100 (faults_of ls bytes)))

-- bytes put in front of a room, which stays as it was behind them
abbrev pub put_into : List ℕ → List ℕ → List ℕ
put_into text room = text ++ drop (length text) room

-- the length of the text, or 45 where there is no room for it
abbrev pub answer_of : List ℕ → List ℕ → Result ℕ Refusal
answer_of text room = cond (nat_lt (length room) (length text)) (Err (refusal 45 2 0 0 0)) (Ok (length text))

-- a text that there is no room for is not put
abbrev pub room_after : List ℕ → List ℕ → List ℕ
room_after text room = cond (nat_lt (length room) (length text)) room (put_into text room)

-- no number of a fault's line is cut by its column
pub record Uncut (r : FaultRow) : Type 0 where
  pub line : r.line < 10 ^ 5
  pub field : r.field < 10 ^ 2
  pub byte : r.byte < 10 ^ 5
  pub number : r.number < 10 ^ 2

abbrev pub AllUncut : List FaultRow → Type 0
AllUncut [] = Unit {0}
AllUncut (r ∷ rs) = Uncut r × AllUncut rs

-- no number of the report is cut by its column
pub record NumbersFit (ls : List (List Field)) (bytes : List ℕ) : Type 0 where
  pub lines : lines_in bytes < 10 ^ 5
  pub bad : length (faults_of ls bytes) < 10 ^ 5
  pub faults : AllUncut (faults_of ls bytes)
