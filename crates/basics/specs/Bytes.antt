-- Classes of bytes, and the first byte that may not stand where it does.
use Rattle.std.specs.Prelude.{ℕ, ◌+◌, Bool, true, cond, ◌&&◌, ◌||◌, List, [], ◌∷◌, Some, None, Option, ◌==◌, nat_le, slice_index}
use Rattle.basics.specs.declared.bytes.ByteClass.{ByteClass}
use Rattle.basics.specs.declared.bytes.ByteClass.TheVariants.{Digit, Capital, Text, Blank, Zero, OneOf}

abbrev pub between : ℕ → ℕ → ℕ → Bool
between low high n = nat_le low n && nat_le n high

abbrev pub allowed : ByteClass → ℕ → Bool
allowed Digit b = between 48 57 b
allowed Capital b = between 65 90 b
allowed Text b = between 32 126 b || between 160 255 b
allowed Blank b = b == 32
allowed Zero b = b == 48
allowed (OneOf p q r s) b = b == p || (b == q || (b == r || b == s))

-- every byte passes the test
abbrev pub all : (ℕ → Bool) → List ℕ → Bool
all ok [] = true
all ok (b ∷ bs) = ok b && all ok bs

-- bytes that pass a test, whatever their index
abbrev pub anywhere : (ℕ → Bool) → ℕ → ℕ → Bool
anywhere ok k b = ok b

-- the byte that is given for its index
abbrev pub these : List ℕ → ℕ → ℕ → Bool
these bs k b = b == slice_index bs k

-- the first index, counted from k, whose byte may not stand there
abbrev pub first_forbidden : (ℕ → ℕ → Bool) → ℕ → List ℕ → Option ℕ
first_forbidden ok k [] = None
first_forbidden ok k (b ∷ bs) = cond (ok k b) (first_forbidden ok (k + 1) bs) (Some k)
