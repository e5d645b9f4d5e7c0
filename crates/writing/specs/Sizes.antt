-- The size of what a step writes, and its place in memory.
use Rattle.std.specs.Prelude.{ℕ, ◌-◌, Bool, true, false, List, [], ◌++◌, length, drop, Ok, Err, Result}
use Rattle.basics.specs.declared.refusal.Refusal.{Refusal}
use Rattle.values.specs.Writing.{Step, done, refused}
use Rattle.writing.specs.declared.size.Size.{Size}

abbrev pub is_done : {E : Type 0} → Step E → Bool
is_done (done s rest) = true
is_done (refused e) = false

-- the bytes that are written
abbrev pub bytes_of : {E : Type 0} → Step E → List ℕ
bytes_of (done s rest) = s
bytes_of (refused e) = []

-- their number, and how many of n rows that takes
abbrev pub size_of : {E : Type 0} → ℕ → Step E → Size
size_of n (done s rest) = record { bytes = length s; rows = n - length rest }
size_of n (refused e) = record { bytes = 0; rows = 0 }

abbrev pub sized : ℕ → Step Refusal → Result Size Refusal
sized n (done s rest) = Ok (size_of {E = Refusal} n (done s rest))
sized n (refused e) = Err e

-- new bytes in front of what stood behind them
abbrev pub in_front : List ℕ → List ℕ → List ℕ
in_front new old = new ++ drop (length new) old
