-- Which lines belong to a set of layouts: the line is the joining of parts, one for each field of
-- one layout, each a lawful writing of its field.
use Rattle.std.specs.Prelude.{◌≡◌, ℕ, ◌+◌, ◌*◌, ◌<◌, Bool, true, List, [], ◌∷◌, ◌++◌, length, take, drop, Some, slice_index}
use Rattle.basics.specs.Decimals.{number_of}
use Rattle.layouts.specs.declared.field.Field.{Field}
use Rattle.layouts.specs.Kinds.{Part, Shape, one, block, shape, count, line, width, allows, passes}
use Rattle.layouts.specs.Layouts.{place}

-- bytes that a part may have: so many, each allowed where it stands, with a value that passes
pub record Fit (q : Part) (s : List ℕ) : Type 0 where
  pub wide : length s ≡ width q
  pub clean : (k : ℕ) → k < width q → allows q k (slice_index s k) ≡ true
  pub value : passes q s ≡ true

-- a lawful count, and so many lawful lines
pub record Block (counts : ℕ → Bool) (ok : List ℕ → Bool) (s : List ℕ) : Type 0 where
  pub counted : Fit (count counts) (take 2 s)
  pub wide : length s ≡ 2 + 35 * number_of (take 2 s)
  pub each : (k : ℕ) → k < number_of (take 2 s) → Fit (line ok) (take 35 (drop (2 + 35 * k) s))

abbrev pub Lawful : Shape → List ℕ → Type 0
Lawful (one q) s = Fit q s
Lawful (block high counts ok) s = Block counts ok s

-- a lawful writing of a field
abbrev pub Writes : Field → List ℕ → Type 0
Writes f s = Lawful (shape f) s

-- one part for each field
abbrev pub Parts : List Field → List (List ℕ) → Type 0
Parts [] [] = Unit {0}
Parts [] (s ∷ ss) = ⊥
Parts (f ∷ fs) [] = ⊥
Parts (f ∷ fs) (s ∷ ss) = Writes f s × Parts fs ss

abbrev pub joining : List (List ℕ) → List ℕ
joining [] = []
joining (s ∷ ss) = s ++ joining ss

-- the line is the fields of this layout end to end
pub record Follows (l : List Field) (line : List ℕ) : Type 0 where
  pub parts : List (List ℕ)
  pub each : Parts l parts
  pub whole : joining parts ≡ line

-- the line follows layout j of the set
pub record BelongsAs (ls : List (List Field)) (j : ℕ) (line : List ℕ) : Type 0 where
  pub layout : List Field
  pub at : place ls j ≡ Some layout
  pub follows : Follows layout line

-- the line follows one of the set's layouts
abbrev pub Belongs : List (List Field) → List ℕ → Type 0
Belongs ls line = (j : ℕ) × BelongsAs ls j line
