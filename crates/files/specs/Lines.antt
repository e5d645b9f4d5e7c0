-- Bytes cut into lines at each CR directly followed by LF. A lone CR or LF is a byte of its line.
use Rattle.std.specs.Prelude.{◌≡◌, ℕ, ◌+◌, Bool, cond, ◌&&◌, List, [], ◌∷◌, ◌++◌, length, drop, Some, None, Option, ◌==◌, MatchOption}
use Rattle.std.specs.Borrow.{Bor}
use Rattle.std.specs.Option.{option_map}

-- CR and then LF
abbrev pub ends : ℕ → ℕ → Bool
ends b c = b == 13 && c == 10

-- the index of the first CR directly followed by LF
abbrev pub line_end : List ℕ → Option ℕ
line_end [] = None
line_end (b ∷ []) = None
line_end (b ∷ c ∷ bs) = cond (ends b c) (Some 0) (option_map (λ k. 1 + k) (line_end (c ∷ bs)))

-- a byte in front of the first line, if a line is ended
abbrev pub onto : ℕ → List (List ℕ) → List (List ℕ)
onto b [] = []
onto b (l ∷ ls) = (b ∷ l) ∷ ls

-- the lines: the pieces that CR LF ends
abbrev pub lines_of : List ℕ → List (List ℕ)
lines_of [] = []
lines_of (b ∷ []) = []
lines_of (b ∷ c ∷ bs) = cond (ends b c) ([] ∷ lines_of bs) (onto b (lines_of (c ∷ bs)))

-- lines as they are written: CR LF behind each
abbrev pub written : List (List ℕ) → List ℕ
written [] = []
written (l ∷ ls) = l ++ (13 ∷ 10 ∷ written ls)

-- the unended rest: what stands behind the last CR LF
abbrev pub rest_of : List ℕ → List ℕ
rest_of f = drop (length (written (lines_of f))) f

-- bytes begin with a line, CR LF behind it, and then others
pub record FirstLine (bytes line others : List ℕ) : Type 0 where
  pub whole : bytes ≡ line ++ (13 ∷ 10 ∷ others)
  pub uncut : line_end line ≡ None

-- the first line is cut off and the others are left, or there is none and all is left
abbrev pub CutsLine : List ℕ → Option (Bor (List ℕ)) → List ℕ → Type 0
CutsLine bytes r left = MatchOption r ((line_end bytes ≡ None) × (left ≡ bytes)) (λ line. FirstLine bytes line.now left)

-- no line has a CR directly followed by LF
abbrev pub Whole : List (List ℕ) → Type 0
Whole [] = Unit {0}
Whole (l ∷ ls) = (line_end l ≡ None) × Whole ls

-- the lines and the rest are the bytes, none of them can be cut, and nothing else is such
pub record Cutting (f : List ℕ) : Type 0 where
  pub joins : f ≡ written (lines_of f) ++ rest_of f
  pub lines : Whole (lines_of f)
  pub rest : line_end (rest_of f) ≡ None
  pub only : (ls : List (List ℕ)) (r : List ℕ) → f ≡ written ls ++ r → Whole ls → line_end r ≡ None → (ls ≡ lines_of f) × (r ≡ rest_of f)
