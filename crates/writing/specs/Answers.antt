-- What writing answers, and what it leaves in memory.
use Rattle.std.specs.Prelude.{ℕ, cond, List, length, Ok, Err, Result, nat_lt}
use Rattle.basics.specs.declared.refusal.Refusal.{Refusal}
use Rattle.basics.specs.Refusals.{refusal}
use Rattle.writing.specs.Sizes.{in_front}

-- the length of the line, or 45 if it is longer than the memory
abbrev pub length_of : ℕ → Result (List ℕ) Refusal → Result ℕ Refusal
length_of room (Ok s) = cond (nat_lt room (length s)) (Err (refusal 45 2 0 0 0)) (Ok (length s))
length_of room (Err e) = Err e

-- the line in front of what stood behind it; after a refusal all as it was
abbrev pub memory_after : List ℕ → Result (List ℕ) Refusal → List ℕ
memory_after old (Ok s) = cond (nat_lt (length old) (length s)) old (in_front s old)
memory_after old (Err e) = old
