-- The code's test of a text that is not all blank.
use Rattle.std.proofs.Common.{◌≡◌, ℕ, true, false, not, ◌&&◌, ◌||◌, eqb, List, [], ◌∷◌, refl}
use Rattle.std.specs.List.{list_any}
use Rattle.basics.specs.declared.bytes.ByteClass.TheVariants as class
use Rattle.basics.specs.Bytes.{allowed, all}

pub filled_is_any : (s : List ℕ) → not (all (allowed class.Blank) s) ≡ list_any (λ b. not (eqb b 32)) s
filled_is_any [] = refl
filled_is_any (b ∷ bs) =
    elim (eqb b 32) as (λ t. not (t && all (allowed class.Blank) bs) ≡ (not t || list_any (λ c. not (eqb c 32)) bs))
    [ true ↦ filled_is_any bs | false ↦ refl ]
