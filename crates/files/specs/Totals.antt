-- The total of a file in a currency, and the difference of two files.
use Rattle.std.specs.Prelude.{ℕ, ◌+◌, Bool, true, false, cond, ◌&&◌, List, [], ◌∷◌, Ok, Err, Result, ◌==◌}
use Rattle.basics.specs.declared.refusal.Refusal.{Refusal}
use Rattle.basics.specs.Refusals.{refusal}
use Rattle.basics.specs.Money.{is_currency}
use Rattle.layouts.specs.declared.field.Field.{Field}
use Rattle.layouts.specs.Layouts.{layout_at}
use Rattle.lines.specs.Judging.{and_then, judged}
use Rattle.values.specs.Money.{amount_of, currency_of}
use Rattle.files.specs.Lines.{lines_of}
use Rattle.files.specs.Files.{file_judged}

-- the same bytes
abbrev pub same : List ℕ → List ℕ → Bool
same [] [] = true
same [] (y ∷ ys) = false
same (x ∷ xs) [] = false
same (x ∷ xs) (y ∷ ys) = x == y && same xs ys

-- what a line pays in a currency: its amount if that is its currency, else nothing
abbrev pub worth_by : List (List Field) → List ℕ → List ℕ → Result ℕ Refusal → ℕ
worth_by ls currency line (Ok j) = cond (same (currency_of (layout_at ls j) line) currency) (amount_of (layout_at ls j) line) 0
worth_by ls currency line (Err e) = 0

abbrev pub worth : List (List Field) → List ℕ → List ℕ → ℕ
worth ls currency line = worth_by ls currency line (judged ls line)

-- the same, with the line's fault in its place
abbrev pub paid_by : List (List Field) → List ℕ → List ℕ → Result ℕ Refusal → Result ℕ Refusal
paid_by ls currency line (Ok j) = Ok (worth_by ls currency line (Ok j))
paid_by ls currency line (Err e) = Err e

-- what lines pay together
abbrev pub sum_of : List (List Field) → List ℕ → List (List ℕ) → ℕ
sum_of ls currency [] = 0
sum_of ls currency (l ∷ rest) = worth ls currency l + sum_of ls currency rest

-- the faults of the file come first
abbrev pub summed : List (List Field) → List ℕ → List ℕ → Result ℕ Refusal
summed ls bytes currency = and_then (file_judged ls bytes) (λ n. Ok (sum_of ls currency (lines_of bytes)))

-- 39 before the file is looked at
abbrev pub total_of : List (List Field) → List ℕ → List ℕ → Result ℕ Refusal
total_of ls bytes currency = cond (is_currency currency) (summed ls bytes currency) (Err (refusal 39 3 0 0 0))
