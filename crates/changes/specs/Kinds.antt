-- Kinds of change by their numbers.
use Rattle.std.specs.Prelude.{◌≡◌, ℕ, ◌<◌, ◌⊎◌, Result, MatchResult}
use Rattle.changes.specs.declared.change_row.ChangeKind.{ChangeKind}
use Rattle.changes.specs.declared.change_row.ChangeKind.TheVariants.{AtTheEnd, Replaced, Struck}
use Rattle.changes.specs.declared.change_row.UnknownChange.{UnknownChange}

abbrev pub number_of : ChangeKind → ℕ
number_of AtTheEnd = 1
number_of Replaced = 2
number_of Struck = 3

-- the kind that a number names, or the number itself where it is not 1 to 3
abbrev pub Names : ℕ → Result ChangeKind UnknownChange → Type 0
Names n r = MatchResult r (λ kind. number_of kind ≡ n) (λ e. (e.0 ≡ n) × ((n ≡ 0) ⊎ (3 < n)))
