-- Strips that grow, field by field and layout by layout.
use Rattle.std.proofs.Common.{◌≡◌, ℕ, suc, ◌+◌, ◌-◌, ◌≤◌, List, [], ◌++◌, length, get_or, drop, sym, ap, ◌∙◌, append_assoc, append-nil, arith}
use Rattle.std.specs.List.{flat_map}
use Rattle.std.proofs.lemmas.List.{drop_more, drop_all}
use Rattle.layouts.specs.declared.field.Field.{Field}
use Rattle.layouts.specs.Layouts.{place, or_empty, layout_at}
use Rattle.layouts.proofs.Places.{place_at}
use Rattle.strips.specs.Strips.{strip_of, strips_of}

pub layout-put : (ls : List (List Field)) (j : ℕ) (was : List ℕ) → 1 ≤ j → j ≤ length ls → (was ++ flat_map strip_of (layout_at ls j)) ++ strips_of (drop (j + 1 - 1) ls) ≡ was ++ strips_of (drop (j - 1) ls)
layout-put ls j was h g =
    let b : j + 1 - 1 ≡ j - 1 + 1 = omega arith in
    let c : suc (j - 1) ≡ j = omega arith in
    let at : layout_at ls j ≡ get_or ls (j - 1) [] = ap (λ n. or_empty (place ls n)) (sym c) ∙ ap or_empty (place_at ls (j - 1) [] (omega arith)) in
    append_assoc was (flat_map strip_of (layout_at ls j)) (strips_of (drop (j + 1 - 1) ls))
    ∙ ap (λ n. was ++ (flat_map strip_of (layout_at ls j) ++ strips_of (drop n ls))) b
    ∙ ap (λ l. was ++ (flat_map strip_of l ++ strips_of (drop (j - 1 + 1) ls))) at
    ∙ ap (λ ks. was ++ strips_of ks) (sym (drop_more ls (j - 1) [] (omega arith)))

pub layouts-put : (ls : List (List Field)) (j : ℕ) (was : List ℕ) → length ls ≤ j → was ++ strips_of (drop j ls) ≡ was
layouts-put ls j was h = ap (λ ks. was ++ strips_of ks) (drop_all j ls h) ∙ append-nil was
