-- Texts with blanks behind them.
use Rattle.std.specs.Prelude.{ℕ, cond, List, [], ◌∷◌, ◌==◌}
use Rattle.std.specs.Char.{encode_utf8}
use Rattle.std.specs.List.{flat_map}

-- b in front of a text: a blank in front of nothing is no text
abbrev pub front : ℕ → List ℕ → List ℕ
front b [] = cond (b == 32) [] (b ∷ [])
front b (x ∷ xs) = b ∷ x ∷ xs

-- a text without its trailing blanks
abbrev pub trim : List ℕ → List ℕ
trim [] = []
trim (b ∷ bs) = front b (trim bs)

-- bytes as text: each is the character of its number
abbrev pub as_characters : List ℕ → List ℕ
as_characters bs = flat_map encode_utf8 bs
