-- One field and its strip: what is read was written so, and what is written is read back.
use Rattle.std.proofs.Common.{◌≡◌, ℕ, ◌<◌, ◌≤◌, ◌^◌, true, List, [], ◌∷◌, ◌++◌, length, take, drop, Some, None, Option, sym, refl, ap, ◌∙◌, arith, length-drop}
use Rattle.std.specs.Option.{option_map}
use Rattle.std.proofs.lemmas.Bool.Decides.{nat_tests}
use Rattle.std.proofs.lemmas.Grind.{common_steps}
use Rattle.std.proofs.lemmas.List.{nil_from_length, length-take-le, take-append-drop, take_all}
use Rattle.basics.proofs.DigitLaws.{digits-back, digits_are, length_digits, number-back, value-some}
use Rattle.basics.specs.Decimals.{digits}
use Rattle.layouts.specs.declared.field.Field.{Field}
use Rattle.layouts.specs.declared.field.Field.TheVariants as field
use Rattle.layouts.specs.Layouts.{letter, figured}
use Rattle.strips.specs.declared.kind.Kind.{Kind}
use Rattle.strips.specs.declared.kind.Kind.TheVariants.{Record, Range, Number, Zeros, Text, FilledText, Blanks, Day, DayOrZero, Amount, Currency, OneOf, Lines, AllOrNoLines}
use Rattle.strips.specs.Strips.{kind_of, body_width, number_in, in_order, pair_in, codes_in, field_in, body, strip_of}

-- the letter of a kind
abbrev pub letter_of : Kind → ℕ
letter_of Record = 85
letter_of Range = 82
letter_of Number = 78
letter_of Zeros = 90
letter_of Text = 84
letter_of FilledText = 81
letter_of Blanks = 66
letter_of Day = 68
letter_of DayOrZero = 89
letter_of Amount = 80
letter_of Currency = 86
letter_of OneOf = 69
letter_of Lines = 76
letter_of AllOrNoLines = 87

-- no other letter names the kind
pub kind-letter : (k : ℕ) (q : Kind) → kind_of k ≡ Some q → k ≡ letter_of q
kind-letter k q e = grind (arith, nat_tests)

-- the number that digits show has these digits
number-shown : (low high w : ℕ) (s : List ℕ) (n : ℕ) → length s ≡ w → number_in low high s ≡ Some n → digits w n ≡ s
number-shown low high w s n l e = ap (λ m. digits m n) (sym l) ∙ grind (arith, nat_tests, digits-back s)

-- a field of one number
number-field : (x w : ℕ) (F : ℕ → Field) → ((n : ℕ) → strip_of (F n) ≡ x ∷ digits w n) → (low high : ℕ) (s : List ℕ) (f : Field) → length s ≡ w → option_map F (number_in low high s) ≡ Some f → strip_of f ≡ x ∷ s
number-field x w F d low high s f l e = grind (arith, nat_tests, d, number-shown low high w s)

-- a field of two numbers
halves : (s : List ℕ) → length s ≡ 4 → (length (take 2 s) ≡ 2) × (length (take 2 (drop 2 s)) ≡ 2) × (take 2 s ++ take 2 (drop 2 s) ≡ s)
halves s l = (
  length-take-le 2 s (omega arith),
  length-take-le 2 (drop 2 s) (omega (arith, length-drop 2 s)),
  grind (arith, common_steps, take-append-drop 2 s, take_all 2 (drop 2 s), length-drop 2 s),
)

ordered : (a b : Option ℕ) (p : ℕ × ℕ) → in_order a b ≡ Some p → (a ≡ Some p.0) × (b ≡ Some p.1)
ordered a b p e = (grind (arith, nat_tests), grind (arith, nat_tests))

pair-field : (x : ℕ) (F : ℕ → ℕ → Field) → ((a b : ℕ) → strip_of (F a b) ≡ x ∷ (digits 2 a ++ digits 2 b)) → (high : ℕ) (s : List ℕ) (f : Field) → length s ≡ 4 → option_map (λ p. F p.0 p.1) (pair_in high s) ≡ Some f → strip_of f ≡ x ∷ s
pair-field x F d high s f l e =
    elim (pair_in high s) as (λ o. pair_in high s ≡ o → option_map (λ p. F p.0 p.1) o ≡ Some f → strip_of f ≡ x ∷ s) [
      | None ↦ λ h g. cc
      | Some p ↦ λ h g.
          let o = ordered (number_in 0 high (take 2 s)) (number_in 0 high (take 2 (drop 2 s))) p h in
          let c = halves s l in
          let is : F p.0 p.1 ≡ f = cc in
          ap strip_of (sym is)
          ∙ d p.0 p.1
          ∙ ap (λ bs. x ∷ (bs ++ digits 2 p.1)) (number-shown 0 high 2 (take 2 s) p.0 c.0 o.0)
          ∙ ap (λ bs. x ∷ (take 2 s ++ bs)) (number-shown 0 high 2 (take 2 (drop 2 s)) p.1 c.1 o.1)
          ∙ ap (λ bs. x ∷ bs) c.2
    ]
    refl e

codes-field : (s : List ℕ) (f : Field) → length s ≡ 4 → codes_in s ≡ Some f → strip_of f ≡ 69 ∷ s
codes-field (a ∷ b ∷ c ∷ d ∷ []) f l e = grind (arith, nat_tests)
codes-field _ f l e = grind (arith, nat_tests)

plain-field : (x : ℕ) (g : Field) → strip_of g ≡ x ∷ [] → (s : List ℕ) (f : Field) → length s ≡ 0 → ◌≡◌ {A = Option Field} (Some g) (Some f) → strip_of f ≡ x ∷ s
plain-field x g d s f l e = let n = nil_from_length s l in cc

-- the field that is read was written so
pub field-strip : (q : Kind) (s : List ℕ) (f : Field) → length s ≡ body_width q → field_in q s ≡ Some f → strip_of f ≡ letter_of q ∷ s
field-strip Record s f l e = number-field 85 5 field.Record (λ n. refl) 0 99999 s f l e
field-strip Range s f l e = pair-field 82 field.Range (λ a b. refl) 99 s f l e
field-strip Number s f l e = number-field 78 2 field.Number (λ n. refl) 1 19 s f l e
field-strip Zeros s f l e = number-field 90 2 field.Zeros (λ n. refl) 1 99 s f l e
field-strip Text s f l e = number-field 84 3 field.Text (λ n. refl) 1 999 s f l e
field-strip FilledText s f l e = number-field 81 3 field.FilledText (λ n. refl) 1 999 s f l e
field-strip Blanks s f l e = number-field 66 3 field.Blanks (λ n. refl) 1 999 s f l e
field-strip Day s f l e = plain-field 68 field.Day refl s f l e
field-strip DayOrZero s f l e = plain-field 89 field.DayOrZero refl s f l e
field-strip Amount s f l e = plain-field 80 field.Amount refl s f l e
field-strip Currency s f l e = plain-field 86 field.Currency refl s f l e
field-strip OneOf s f l e = codes-field s f l e
field-strip Lines s f l e = pair-field 76 field.Lines (λ a b. refl) 60 s f l e
field-strip AllOrNoLines s f l e = number-field 87 2 field.AllOrNoLines (λ n. refl) 1 60 s f l e

-- the kind of a field
abbrev pub kind_for : Field → Kind
kind_for (field.Record d) = Record
kind_for (field.Range low high) = Range
kind_for (field.Number w) = Number
kind_for (field.Zeros w) = Zeros
kind_for (field.Text w) = Text
kind_for (field.FilledText w) = FilledText
kind_for (field.Blanks w) = Blanks
kind_for field.Day = Day
kind_for field.DayOrZero = DayOrZero
kind_for field.Amount = Amount
kind_for field.Currency = Currency
kind_for (field.OneOf a b c d) = OneOf
kind_for (field.Lines low high) = Lines
kind_for (field.AllOrNoLines n) = AllOrNoLines

pub letter-kind : (f : Field) → kind_of (letter f) ≡ Some (kind_for f)
letter-kind f = grind arith

pub body-length : (f : Field) → length (body f) ≡ body_width (kind_for f)
body-length f = grind arith

number_read : (low high w n : ℕ) → w ≤ 19 → low ≤ n → n ≤ high → n < 10 ^ w → number_in low high (digits w n) ≡ Some n
number_read low high w n l a b h =
    let e = length_digits w n in
    let v = value-some (digits w n) (omega arith) (digits_are w n) in
    grind (arith, nat_tests, number-back w n h)

-- the field that is written is read back
pub body-read-back : (f : Field) → figured f ≡ true → field_in (kind_for f) (body f) ≡ Some f
body-read-back f e = grind (arith, nat_tests, number_read)
