-- The first fault of a line, computed: part by part, field by field, in the order of the refusals.
use Rattle.std.specs.Prelude.{ℕ, zero, suc, ◌+◌, ◌-◌, ◌*◌, Bool, cond, List, [], ◌∷◌, length, take, drop, Some, None, Ok, Err, Option, Result, nat_lt}
use Rattle.basics.specs.declared.bytes.ByteClass.TheVariants as class
use Rattle.basics.specs.declared.refusal.Refusal.{Refusal}
use Rattle.basics.specs.Refusals.{refusal}
use Rattle.basics.specs.Bytes.{allowed, anywhere, first_forbidden}
use Rattle.basics.specs.Decimals.{number_of, value_of}
use Rattle.layouts.specs.declared.field.Field.{Field}
use Rattle.layouts.specs.Kinds.{Part, Shape, one, block, shape, count, width, allows, passes, refused_by}
use Rattle.layouts.specs.Layouts.{layout_at, digits_of, record_of, same_number}

abbrev pub and_then : {A B : Type 0} → Result A Refusal → (A → Result B Refusal) → Result B Refusal
and_then (Ok x) k = k x
and_then (Err e) k = Err e

-- the place behind a part of field i that begins behind place p, or 13 at its first forbidden byte
abbrev pub unforbidden : Option ℕ → ℕ → ℕ → ℕ → Result ℕ Refusal
unforbidden None i p e = Ok e
unforbidden (Some k) i p e = Err (refusal 13 2 0 i (p + k + 1))

abbrev pub cleaned : (ℕ → ℕ → Bool) → ℕ → ℕ → List ℕ → Result ℕ Refusal
cleaned ok i p s = unforbidden (first_forbidden ok 0 s) i p (p + length s)

-- the same, and then the value: else the refusal of the part, at its first byte
abbrev pub part_in : Part → ℕ → ℕ → List ℕ → Result ℕ Refusal
part_in q i p s = and_then (cleaned (allows q) i p s) (λ e. cond (passes q s) (Ok e) (Err (refusal (refused_by q) 2 0 i (p + 1))))

-- the number of a part of digits that is to pass a test, else refusal n at its first byte
abbrev pub numbered : (ℕ → Bool) → ℕ → ℕ → ℕ → List ℕ → Result ℕ Refusal
numbered ok n i p s =
    and_then (cleaned (anywhere (allowed class.Digit)) i p s) (λ e. cond (ok (number_of s)) (Ok (number_of s)) (Err (refusal n 2 0 i (p + 1))))

-- w bytes of the line behind place p, handed on, or 11 where the line ends first
abbrev pub cut : ℕ → ℕ → ℕ → List ℕ → (List ℕ → Result ℕ Refusal) → Result ℕ Refusal
cut w i p line k = cond (nat_lt (length line - p) w) (Err (refusal 11 2 0 i (length line + 1))) (k (take w (drop p line)))

abbrev pub part_end : Part → ℕ → ℕ → List ℕ → Result ℕ Refusal
part_end q i p line = cut (width q) i p line (part_in q i p)

-- n lines of 35 bytes: the place behind them, or 14 at the first line that does not pass
abbrev pub each_line : (List ℕ → Bool) → ℕ → ℕ → ℕ → List ℕ → Result ℕ Refusal
each_line ok zero i p s = Ok p
each_line ok (suc n) i p s = cond (ok (take 35 s)) (each_line ok n i (p + 35) (drop 35 s)) (Err (refusal 14 2 0 i (p + 1)))

-- all bytes of the lines come first, then the lines one by one
abbrev pub lines_in : (List ℕ → Bool) → ℕ → ℕ → ℕ → List ℕ → Result ℕ Refusal
lines_in ok n i p s = and_then (cleaned (anywhere (allowed class.Text)) i p s) (λ e. each_line ok n i p s)

abbrev pub lines_end : (List ℕ → Bool) → ℕ → ℕ → ℕ → List ℕ → Result ℕ Refusal
lines_end ok n i p line = cut (35 * n) i p line (lines_in ok n i p)

-- the place behind field i, which begins behind place p
abbrev pub field_end : Shape → ℕ → ℕ → List ℕ → Result ℕ Refusal
field_end (one q) i p line = part_end q i p line
field_end (block high counts ok) i p line = and_then (part_end (count counts) i p line) (λ e. lines_end ok (number_of (take 2 (drop p line))) i e line)

-- fields fs of layout j, of which the first is field i and begins behind place p: then 18 if bytes are left
abbrev pub walked : List ℕ → ℕ → List Field → ℕ → ℕ → Result ℕ Refusal
walked line j [] i p = cond (nat_lt p (length line)) (Err (refusal 18 2 0 i (p + 1))) (Ok j)
walked line j (f ∷ fs) i p = and_then (field_end (shape f) i p line) (λ q. walked line j fs (i + 1) q)

-- the digits of a layout that begins with this field
abbrev pub record_at : Option Field → Option ℕ
record_at None = None
record_at (Some f) = record_of f

-- the first layout, counted from j, that has these digits
abbrev pub found : List (List Field) → ℕ → ℕ → Option ℕ
found [] j n = None
found (l ∷ ls) j n = cond (same_number (Some n) (digits_of l)) (Some j) (found ls (j + 1) n)

-- the layout that bytes 4 to 8 name
abbrev pub found_by : List (List Field) → Option ℕ → Option ℕ
found_by ls None = None
found_by ls (Some n) = found ls 1 n

abbrev pub named : List (List Field) → List ℕ → Option ℕ
named ls line = found_by ls (value_of (take 5 (drop 3 line)))

abbrev pub chosen : List (List Field) → List ℕ → Option ℕ → Result ℕ Refusal
chosen ls line None = Err (refusal 12 2 0 1 1)
chosen ls line (Some j) = walked line j (layout_at ls j) 1 0

-- the number of the layout that the line belongs to, or its first fault
abbrev pub judged : List (List Field) → List ℕ → Result ℕ Refusal
judged ls line = cond (nat_lt (length line) 8) (Err (refusal 11 2 0 1 (length line + 1))) (chosen ls line (named ls line))
