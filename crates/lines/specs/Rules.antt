-- The rules of the code as the table of kinds has them.
use Rattle.std.specs.Prelude.{ℕ, Bool, List}
use Rattle.basics.specs.Bytes.{between}
use Rattle.basics.specs.Days.{is_day}
use Rattle.basics.specs.Money.{is_amount}
use Rattle.layouts.specs.Kinds.{any_number, any_text, filled, is_day_or_zero, none_or}
use Rattle.lines.specs.declared.rules.NumberRule.{NumberRule}
use Rattle.lines.specs.declared.rules.NumberRule.TheVariants as rule
use Rattle.lines.specs.declared.rules.TextRule.{TextRule}
use Rattle.lines.specs.declared.rules.TextRule.TheVariants as text

abbrev pub number_test : NumberRule → ℕ → Bool
number_test rule.Any = any_number
number_test (rule.Between low high) = between low high
number_test (rule.NoneOr m) = none_or m
number_test rule.Day = is_day
number_test rule.DayOrZero = is_day_or_zero
number_test rule.Amount = is_amount

-- the number of the refusal if it does not pass
abbrev pub number_refusal : NumberRule → ℕ
number_refusal rule.Any = 15
number_refusal (rule.Between low high) = 15
number_refusal (rule.NoneOr m) = 15
number_refusal rule.Day = 16
number_refusal rule.DayOrZero = 16
number_refusal rule.Amount = 17

abbrev pub text_test : TextRule → List ℕ → Bool
text_test text.Any = any_text
text_test text.Filled = filled
