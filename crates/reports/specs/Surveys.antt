-- What a survey finds: the first fault of each bad line, in the order of the lines.
use Rattle.std.specs.Prelude.{ℕ, ◌+◌, List, [], ◌∷◌, ◌++◌, length, take, drop, Ok, Err, Result, slice_set}
use Rattle.basics.specs.declared.refusal.Refusal.{Refusal}
use Rattle.basics.specs.Refusals.{number}
use Rattle.layouts.specs.declared.field.Field.{Field}
use Rattle.lines.specs.Judging.{judged}
use Rattle.files.specs.Lines.{lines_of, rest_of}
use Rattle.reports.specs.declared.fault_row.FaultRow.{FaultRow}

-- the fault of line n, if it has one
abbrev pub fault_of : ℕ → Result ℕ Refusal → List FaultRow
fault_of n (Ok j) = []
fault_of n (Err e) = record { line = n; field = e.field; byte = e.byte; number = number e.reason } ∷ []

-- the faults of lines that are counted from n
abbrev pub faults_in : List (List Field) → ℕ → List (List ℕ) → List FaultRow
faults_in ls n [] = []
faults_in ls n (line ∷ lines) = fault_of n (judged ls line) ++ faults_in ls (n + 1) lines

-- an unended rest is line n, with fault 22
abbrev pub rest_fault : ℕ → List ℕ → List FaultRow
rest_fault n [] = []
rest_fault n (b ∷ bs) = record { line = n; field = 0; byte = 0; number = 22 } ∷ []

-- the faults of bytes whose first line is line n
abbrev pub faults_from : List (List Field) → ℕ → List ℕ → List FaultRow
faults_from ls n bytes = faults_in ls n (lines_of bytes) ++ rest_fault (n + length (lines_of bytes)) (rest_of bytes)

abbrev pub faults_of : List (List Field) → List ℕ → List FaultRow
faults_of ls bytes = faults_from ls 1 bytes

-- how many lines there are: an unended rest is one more
abbrev pub lines_in : List ℕ → ℕ
lines_in bytes = length (lines_of bytes) + length (rest_fault 0 (rest_of bytes))

-- rows put from place i on, while rows last
abbrev pub laid : List FaultRow → ℕ → List FaultRow → List FaultRow
laid rows i [] = rows
laid rows i (x ∷ xs) = laid (slice_set rows i x) (i + 1) xs

-- rows put over others from the first on, while rows last; the others stay as they were
abbrev pub laid_over : List FaultRow → List FaultRow → List FaultRow
laid_over rows new = take (length rows) new ++ drop (length new) rows
