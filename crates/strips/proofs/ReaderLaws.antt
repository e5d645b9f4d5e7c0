-- What a reader's calls have in common with the definitions that they answer as.
use Rattle.std.proofs.Common.{◌≡◌, ℕ, not, List, [], ◌∷◌, length, vec_items, vec_len, Option, Result, Vec, sym, refl, ap, ◌∙◌, subst, arith}
use Rattle.std.specs.List.{list_any}
use Rattle.std.proofs.lemmas.Bool.Decides.{nat_tests}
use Rattle.std.proofs.lemmas.List.{length-map}
use Rattle.std.specs.declared.alloc.Global.{Global}
use Rattle.basics.specs.declared.refusal.Refusal.{Refusal}
use Rattle.layouts.specs.declared.field.Field.{Field}
use Rattle.layouts.specs.Layouts.{digits_of, same_number, none_named}
use Rattle.strips.specs.declared.load.LoadError.{LoadError}
use Rattle.strips.specs.declared.load.LoadError.TheVariants.{Refused, NoMemory}
use Rattle.strips.specs.Layers.{lists_of, layouts_of}
use Rattle.strips.specs.Loads.{and_then, Tells}

-- a layout has these digits, or none has
pub used_is_any : (o : Option ℕ) (vs : List (Vec Field Global)) → not (none_named o (lists_of vs)) ≡ list_any (λ v. same_number o (digits_of (vec_items v))) vs
used_is_any o [] = refl
used_is_any o (v ∷ vs) = grind (arith, nat_tests, used_is_any o vs)

-- a refusal is handed on
pub tells-on : {A B : Type 0} (e : LoadError) (o : Result A Refusal) (k : A → Result B Refusal) → Tells e o → Tells e (and_then o k)
tells-on (Refused x) o k h = ap (λ r. and_then r k) h
tells-on NoMemory o k h = tt

pub tells-same : {A : Type 0} (e : LoadError) (o p : Result A Refusal) → p ≡ o → Tells e p → Tells e o
tells-same e o p s h = subst (λ q. Tells e q) s h

pub length-layouts : (v : Vec (Vec Field Global) Global) → vec_len v ≡ length (layouts_of v)
length-layouts v = v.ok.0 ∙ sym (length-map (vec_items v) vec_items)
