-- Laws of texts with blanks behind them.
use Rattle.std.proofs.Common.{◌≡◌, ℕ, cond, List, [], ◌∷◌, ◌++◌, refl, ap, ◌∙◌}
use Rattle.std.proofs.lemmas.Bool.{ne_eqb}
use Rattle.basics.specs.Texts.{front, trim}

-- a blank behind a text is no part of it, and another byte is its end
pub trim_blank : (xs : List ℕ) → trim (xs ++ (32 ∷ [])) ≡ trim xs
trim_blank [] = refl
trim_blank (x ∷ xs) = ap (front x) (trim_blank xs)

front-some : (x : ℕ) (ys : List ℕ) (b : ℕ) → front x (ys ++ (b ∷ [])) ≡ x ∷ (ys ++ (b ∷ []))
front-some x [] b = refl
front-some x (y ∷ ys) b = refl

pub trim_last : (xs : List ℕ) (b : ℕ) → (b ≡ 32 → ⊥) → trim (xs ++ (b ∷ [])) ≡ xs ++ (b ∷ [])
trim_last [] b h = ap (λ t. cond t [] (b ∷ [])) (ne_eqb b 32 h)
trim_last (x ∷ xs) b h = ap (front x) (trim_last xs b h) ∙ front-some x xs b
