-- Which strips write which sets, and what loading leaves.
use Rattle.std.specs.Prelude.{◌≡◌, ℕ, true, List, Ok, Err, Result}
use Rattle.layouts.specs.declared.field.Field.{Field}
use Rattle.layouts.specs.Layouts.{is_lawful}
use Rattle.strips.specs.declared.load.LoadError.{LoadError}
use Rattle.strips.specs.declared.load.LoadError.TheVariants.{Refused, NoMemory}
use Rattle.strips.specs.Strips.{strips_of}
use Rattle.strips.specs.Loads.{read}

-- the strips s write the lawful set ls
pub record Writes (ls : List (List Field)) (s : List ℕ) : Type 0 where
  pub lawful : is_lawful ls ≡ true
  pub strips : strips_of ls ≡ s

-- a set is read exactly if the strips write it
abbrev pub ReadExactly : List ℕ → Type 0
ReadExactly s = (ls : List (List Field)) → (read s ≡ Ok ls → Writes ls s) × (Writes ls s → read s ≡ Ok ls)

abbrev pub WriteNone : List ℕ → Type 0
WriteNone s = (ls : List (List Field)) → Writes ls s → ⊥

-- a refusal, other than for want of memory, says that the strips write no lawful set
abbrev pub RefusedRightly : {T : Type 0} → Result T LoadError → List ℕ → Type 0
RefusedRightly (Ok x) s = Unit {0}
RefusedRightly (Err (Refused e)) s = WriteNone s
RefusedRightly (Err NoMemory) s = Unit {0}

-- no two lawful sets have the same strips
abbrev pub NoTwoAlike : Type 0
NoTwoAlike = (ls ks : List (List Field)) → is_lawful ls ≡ true → is_lawful ks ≡ true → strips_of ls ≡ strips_of ks → ls ≡ ks

-- loading replaces the set whole, or refuses and leaves it as it was
abbrev pub Replaces : {T : Type 0} → Result T LoadError → List ℕ → List (List Field) → List (List Field) → Type 0
Replaces (Ok x) s was is = read s ≡ Ok is
Replaces (Err (Refused e)) s was is = (read s ≡ Err e) × (is ≡ was)
Replaces (Err NoMemory) s was is = is ≡ was
