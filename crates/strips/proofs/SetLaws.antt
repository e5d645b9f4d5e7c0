-- A set's layouts and fields by their places.
use Rattle.std.proofs.Common.{◌≡◌, ℕ, suc, ◌<◌, List, length, get_or, None, vec_items, Vec, sym, ap, ◌∙◌, arith}
use Rattle.std.specs.declared.alloc.Global.{Global}
use Rattle.std.proofs.lemmas.List.{get_or-map, length-map}
use Rattle.layouts.specs.declared.field.Field.{Field}
use Rattle.layouts.specs.Layouts.{place, or_empty, field_at}
pub use Rattle.layouts.proofs.Places.{place-past}
use Rattle.layouts.proofs.Places.{place-zero, place_at}
use Rattle.strips.specs.Layers.{lists_of}
pub use Rattle.strips.proofs.ReaderLaws.{length-layouts}

pub no-layout : (ls : List (List Field)) (j : ℕ) → j ≡ 0 → place ls j ≡ None
no-layout ls j z = ap (place ls) z ∙ place-zero ls

pub field-in-place : (vs : List (Vec Field Global)) (j i k : ℕ) (v : Vec Field Global) → j ≡ suc k → k < length vs → v ≡ get_or vs k v → place (vec_items v) i ≡ field_at (lists_of vs) j i
field-in-place vs j i k v b h e =
    let n = length-map vs vec_items in
    ap (λ w. place (vec_items w) i) e
    ∙ ap (λ l. place l i) (sym (get_or-map vec_items vs k v (vec_items v) h))
    ∙ sym (ap (λ o. place (or_empty o) i) (ap (place (lists_of vs)) b ∙ place_at (lists_of vs) k (vec_items v) (omega arith)))

-- the field at a place, where there is one and where there is none
pub ruleset field_in_set = (field-in-place, no-layout, place-past, length-layouts)
