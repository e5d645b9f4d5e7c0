-- Files edited by lines: a line put in the place of another, a line taken out, a line put in.
use Rattle.std.specs.Prelude.{ℕ, ◌-◌, Bool, ◌&&◌, List, [], ◌∷◌, ◌++◌, length, take, drop, nat_le, slice_index_or}
use Rattle.files.specs.Lines.{lines_of, rest_of, written}

-- a line with its CR LF
abbrev pub ended : List ℕ → List ℕ
ended l = l ++ (13 ∷ 10 ∷ [])

-- lines count from 1
abbrev pub has_line : ℕ → List ℕ → Bool
has_line n f = nat_le 1 n && nat_le n (length (lines_of f))

abbrev pub line_of : ℕ → List ℕ → List ℕ
line_of n f = slice_index_or (lines_of f) (n - 1) []

-- f with these lines in place of its own: what stands behind its last CR LF stays behind them
abbrev pub with_lines : List (List ℕ) → List ℕ → List ℕ
with_lines ls f = written ls ++ rest_of f

-- the lines before line n, a new line, the lines behind line n
unfoldable pub replaced : ℕ → List ℕ → List ℕ → List ℕ
replaced n l f = with_lines (take (n - 1) (lines_of f) ++ l ∷ drop n (lines_of f)) f

-- the lines before line n, the lines behind it
unfoldable pub struck : ℕ → List ℕ → List ℕ
struck n f = with_lines (take (n - 1) (lines_of f) ++ drop n (lines_of f)) f

-- the lines before line n, a new line, line n and the lines behind it
unfoldable pub inserted : ℕ → List ℕ → List ℕ → List ℕ
inserted n l f = with_lines (take (n - 1) (lines_of f) ++ l ∷ drop (n - 1) (lines_of f)) f
