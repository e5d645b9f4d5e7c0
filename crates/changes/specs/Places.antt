-- Where lines stand: indices from 0.
use Rattle.std.specs.Prelude.{ℕ, ◌-◌, cond, List, length, take, Some, None, Option, nat_le}
use Rattle.files.specs.Lines.{lines_of, written}
use Rattle.changes.specs.declared.places.LinePlace.{LinePlace}
use Rattle.changes.specs.Edits.{has_line, line_of}

-- how many bytes the first m lines take with their CR LF
abbrev pub span : ℕ → List ℕ → ℕ
span m f = length (written (take m (lines_of f)))

abbrev pub behind_lines : ℕ → List ℕ → Option ℕ
behind_lines m f = cond (nat_le m (length (lines_of f))) (Some (span m f)) None

abbrev pub place_of : ℕ → List ℕ → Option LinePlace
place_of n f = cond (has_line n f) (Some (record { at = span (n - 1) f; size = length (line_of n f) })) None
