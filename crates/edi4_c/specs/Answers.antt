-- An answer in numbers alone.
use Rattle.std.specs.Prelude.{◌≡◌, ℕ, Ok, Err, Result}
use Rattle.basics.specs.declared.refusal.Refusal.{Refusal}
use Rattle.basics.specs.Refusals.{number, depth}
use Rattle.edi4_c.specs.declared.answer.Edi4Answer.{Edi4Answer}

-- 0 where the call was accepted, else the refusal's numbers
abbrev pub told : Result ℕ Refusal → Edi4Answer
told (Ok n) = record { value = n; line = 0; field = 0; byte = 0; number = 0; layer = 0 }
told (Err e) = record { value = 0; line = e.line; field = e.field; byte = e.byte; number = number e.reason; layer = depth e.layer }

-- by the number alone a caller knows whether r is a value, and which
pub record ZeroMeansAccepted (r : Result ℕ Refusal) (a : Edi4Answer) : Type 0 where
  pub only_if : a.number ≡ 0 → r ≡ Ok a.value
  pub if_value : (n : ℕ) → r ≡ Ok n → (a.number ≡ 0) × (a.value ≡ n)
