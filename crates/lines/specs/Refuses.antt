-- Which fault a line has, said of the line itself. Each row names all that it needs: the fields
-- before this one have lawful parts, this one has none, and of the reasons that the refusals list,
-- the first that holds is given.
use Rattle.std.specs.Prelude.{◌≡◌, ℕ, ◌+◌, ◌*◌, ◌<◌, ◌≤◌, Bool, true, false, ◌⊎◌, List, ◌∷◌, ◌++◌, length, take, drop, Some, slice_index}
use Rattle.basics.specs.declared.bytes.ByteClass.TheVariants as class
use Rattle.basics.specs.declared.refusal.Refusal.{Refusal}
use Rattle.basics.specs.Refusals.{refusal}
use Rattle.basics.specs.Bytes.{allowed, anywhere}
use Rattle.basics.specs.Decimals.{number_of, digits}
use Rattle.layouts.specs.declared.field.Field.{Field}
use Rattle.layouts.specs.Kinds.{Part, Shape, one, block, shape, count, width, allows, passes, refused_by}
use Rattle.layouts.specs.Layouts.{place, digits_of}
use Rattle.lines.specs.Belongs.{Fit, Writes, Parts, joining}

-- 11: the line ends before the w bytes behind place p
pub record Short (w i p : ℕ) (line : List ℕ) (e : Refusal) : Type 0 where
  pub short : length line < p + w
  pub is : e ≡ refusal 11 2 0 i (length line + 1)

-- 13: the w bytes are there, and this is the first that may not stand where it does
pub record Foreign (ok : ℕ → ℕ → Bool) (w i p : ℕ) (line : List ℕ) (e : Refusal) : Type 0 where
  pub room : p + w ≤ length line
  pub at : ℕ
  pub inside : at < w
  pub before : (k : ℕ) → k < at → ok k (slice_index line (p + k)) ≡ true
  pub here : ok at (slice_index line (p + at)) ≡ false
  pub is : e ≡ refusal 13 2 0 i (p + at + 1)

-- the bytes are there and may all stand where they do
pub record Sound (ok : ℕ → ℕ → Bool) (w p : ℕ) (line : List ℕ) : Type 0 where
  pub room : p + w ≤ length line
  pub clean : (k : ℕ) → k < w → ok k (slice_index line (p + k)) ≡ true

-- 14 to 17: of a part whose bytes are sound, the value does not pass
pub record Wrong (q : Part) (i p : ℕ) (line : List ℕ) (e : Refusal) : Type 0 where
  pub sound : Sound (allows q) (width q) p line
  pub fails : passes q (take (width q) (drop p line)) ≡ false
  pub is : e ≡ refusal (refused_by q) 2 0 i (p + 1)

abbrev pub PartRefused : Part → ℕ → ℕ → List ℕ → Refusal → Type 0
PartRefused q i p line e = Short (width q) i p line e ⊎ (Foreign (allows q) (width q) i p line e ⊎ Wrong q i p line e)

-- 14: of n lines whose bytes are sound, this is the first that does not pass
pub record WrongLine (ok : List ℕ → Bool) (n i p : ℕ) (line : List ℕ) (e : Refusal) : Type 0 where
  pub sound : Sound (anywhere (allowed class.Text)) (35 * n) p line
  pub at : ℕ
  pub inside : at < n
  pub before : (k : ℕ) → k < at → ok (take 35 (drop (p + 35 * k) line)) ≡ true
  pub here : ok (take 35 (drop (p + 35 * at) line)) ≡ false
  pub is : e ≡ refusal 14 2 0 i (p + 35 * at + 1)

abbrev pub LinesRefused : (List ℕ → Bool) → ℕ → ℕ → ℕ → List ℕ → Refusal → Type 0
LinesRefused ok n i p line e =
    Short (35 * n) i p line e ⊎ (Foreign (anywhere (allowed class.Text)) (35 * n) i p line e ⊎ WrongLine ok n i p line e)

-- a block: its count is refused; or the count is lawful, and its lines are refused
pub record LinesAfter (counts : ℕ → Bool) (ok : List ℕ → Bool) (i p : ℕ) (line : List ℕ) (e : Refusal) : Type 0 where
  pub counted : Fit (count counts) (take 2 (drop p line))
  pub lines : LinesRefused ok (number_of (take 2 (drop p line))) i (p + 2) line e

abbrev pub FieldRefused : Shape → ℕ → ℕ → List ℕ → Refusal → Type 0
FieldRefused (one q) i p line e = PartRefused q i p line e
FieldRefused (block high counts ok) i p line e = PartRefused (count counts) i p line e ⊎ LinesAfter counts ok i p line e

-- fields numbered from i, of a line from place p on: those before this field have lawful parts,
-- this one has no lawful part, and it is refused
pub record FaultIn (line : List ℕ) (fs : List Field) (i p : ℕ) (e : Refusal) : Type 0 where
  pub before : List Field
  pub here : Field
  pub after : List Field
  pub fields : fs ≡ before ++ here ∷ after
  pub parts : List (List ℕ)
  pub each : Parts before parts
  pub rest : List ℕ
  pub whole : drop p line ≡ joining parts ++ rest
  pub none : (s t : List ℕ) → rest ≡ s ++ t → Writes here s → ⊥
  pub refused : FieldRefused (shape here) (i + length before) (p + length (joining parts)) line e

-- 18: every field has its lawful part, and bytes are left over
pub record LeftOver (line : List ℕ) (fs : List Field) (i p : ℕ) (e : Refusal) : Type 0 where
  pub parts : List (List ℕ)
  pub each : Parts fs parts
  pub rest : List ℕ
  pub whole : drop p line ≡ joining parts ++ rest
  pub left : 0 < length rest
  pub is : e ≡ refusal 18 2 0 (i + length fs) (p + length (joining parts) + 1)

-- bytes 4 to 8 of the line are the digits of this layout
pub record Named (l : List Field) (line : List ℕ) : Type 0 where
  pub number : ℕ
  pub has : digits_of l ≡ Some number
  pub shown : take 5 (drop 3 line) ≡ digits 5 number

-- 11 in field 1: fewer than 8 bytes
pub record TooShort (line : List ℕ) (e : Refusal) : Type 0 where
  pub short : length line < 8
  pub is : e ≡ refusal 11 2 0 1 (length line + 1)

-- 12: bytes 4 to 8 are no layout's digits
pub record Unknown (ls : List (List Field)) (line : List ℕ) (e : Refusal) : Type 0 where
  pub long : 8 ≤ length line
  pub none : (j : ℕ) (l : List Field) → place ls j ≡ Some l → Named l line → ⊥
  pub is : e ≡ refusal 12 2 0 1 1

-- the line is to follow layout j, and has a fault
pub record FaultOf (ls : List (List Field)) (line : List ℕ) (e : Refusal) : Type 0 where
  pub long : 8 ≤ length line
  pub number : ℕ
  pub layout : List Field
  pub at : place ls number ≡ Some layout
  pub named : Named layout line
  pub fault : FaultIn line layout 1 0 e ⊎ LeftOver line layout 1 0 e

abbrev pub Refuses : List (List Field) → List ℕ → Refusal → Type 0
Refuses ls line e = TooShort line e ⊎ (Unknown ls line e ⊎ FaultOf ls line e)
