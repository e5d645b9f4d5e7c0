-- Equal rows, computed: number by number and text by text, what a row does not use set aside.
use Rattle.std.specs.Prelude.{◌≡◌, ℕ, zero, suc, ◌+◌, Bool, true, false, cond, ◌&&◌, List, [], ◌∷◌, ◌++◌, map, length, drop, Some, None, Ok, Err, Option, Result, ◌==◌}
use Rattle.std.specs.Str.{bytes_eq}
use Rattle.basics.specs.declared.refusal.Refusal.{Refusal}
use Rattle.basics.specs.Refusals.{refusal}
use Rattle.layouts.specs.declared.field.Field.{Field}
use Rattle.layouts.specs.Kinds.{constant, figures, letters, code, Shape, one, block, shape}
use Rattle.layouts.specs.Layouts.{layout_at}
use Rattle.lines.specs.Judging.{found}
use Rattle.values.specs.declared.row.ValueRow.{ValueRow}
use Rattle.values.specs.Values.{Value, is_number, is_text}
use Rattle.values.specs.Rows.{text_at, inside, ShowsAll}
use Rattle.values.specs.Writing.{first_number}

-- the first rows show the same number
abbrev pub same_number : List ValueRow → List ValueRow → Bool
same_number [] ss = false
same_number (r ∷ rs) [] = false
same_number (r ∷ rs) (s ∷ ss) = r.number == s.number

-- the first rows, each over its bytes, show the same text
abbrev pub same_text : List ℕ → List ValueRow → List ℕ → List ValueRow → Bool
same_text bytes [] others ss = false
same_text bytes (r ∷ rs) others [] = false
same_text bytes (r ∷ rs) others (s ∷ ss) = inside bytes r && (inside others s && bytes_eq (text_at bytes r) (text_at others s))

-- the first n rows do
abbrev pub same_texts : ℕ → List ℕ → List ValueRow → List ℕ → List ValueRow → Bool
same_texts zero bytes rs others ss = true
same_texts (suc n) bytes rs others ss = same_text bytes rs others ss && same_texts n bytes (drop 1 rs) others (drop 1 ss)

-- how many rows a block has, if they are equal
abbrev pub same_block : List ℕ → List ValueRow → List ℕ → List ValueRow → Option ℕ
same_block bytes rs others ss =
    cond (same_number rs ss && same_texts (first_number rs) bytes (drop 1 rs) others (drop 1 ss)) (Some (1 + first_number rs)) None

-- how many rows a field has, if they are equal
abbrev pub same_field : Shape → List ℕ → List ValueRow → List ℕ → List ValueRow → Option ℕ
same_field (one (constant bs)) bytes rs others ss = Some 0
same_field (one (figures w ok n)) bytes rs others ss = cond (same_number rs ss) (Some 1) None
same_field (one (letters w c ok n)) bytes rs others ss = cond (same_text bytes rs others ss) (Some 1) None
same_field (one (code c)) bytes rs others ss = cond (same_number rs ss) (Some 1) None
same_field (block high counts ok) bytes rs others ss = same_block bytes rs others ss

abbrev pub onward : Option ℕ → (ℕ → Bool) → Bool
onward None k = false
onward (Some n) k = k n

-- field by field, and then none is left
abbrev pub same_rows : List Field → List ℕ → List ValueRow → List ℕ → List ValueRow → Bool
same_rows [] bytes rs others ss = length rs == 0 && length ss == 0
same_rows (f ∷ fs) bytes rs others ss = onward (same_field (shape f) bytes rs others ss) (λ n. same_rows fs bytes (drop n rs) others (drop n ss))

-- under the layout of these digits: 41 if none has them
abbrev pub same_by : List (List Field) → Option ℕ → List ℕ → List ValueRow → List ℕ → List ValueRow → Result Bool Refusal
same_by ls None bytes rs others ss = Err (refusal 41 2 0 0 0)
same_by ls (Some j) bytes rs others ss = Ok (same_rows (layout_at ls j) bytes rs others ss)

abbrev pub same_for : List (List Field) → ℕ → List ℕ → List ValueRow → List ℕ → List ValueRow → Result Bool Refusal
same_for ls n bytes rs others ss = same_by ls (found ls 1 n) bytes rs others ss

-- values of the kinds that a field has
abbrev pub FieldKinds : Shape → List Value → Type 0
FieldKinds (one (constant bs)) vs = vs ≡ []
FieldKinds (one (figures w ok n)) vs = (m : ℕ) × (vs ≡ is_number m ∷ [])
FieldKinds (one (letters w c ok n)) vs = (t : List ℕ) × (vs ≡ is_text t ∷ [])
FieldKinds (one (code c)) vs = (m : ℕ) × (vs ≡ is_number m ∷ [])
FieldKinds (block high counts ok) vs = (ts : List (List ℕ)) × (vs ≡ is_number (length ts) ∷ map is_text ts)

-- of the kinds that a layout has
abbrev pub Kinds : List Field → List Value → Type 0
Kinds [] vs = vs ≡ []
Kinds (f ∷ fs) vs = (us : List Value) × ((ws : List Value) × (FieldKinds (shape f) us × (Kinds fs ws × (vs ≡ us ++ ws))))

-- both lists of rows show the same values of the layout
pub record SameValues (fs : List Field) (bytes : List ℕ) (rs : List ValueRow) (others : List ℕ) (ss : List ValueRow) : Type 0 where
  pub values : List Value
  pub kinds : Kinds fs values
  pub one : ShowsAll bytes rs values
  pub other : ShowsAll others ss values
