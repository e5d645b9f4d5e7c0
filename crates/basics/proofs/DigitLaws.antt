-- Laws of numbers in digits.
use Rattle.std.proofs.Common.{◌≡◌, ℕ, zero, suc, ◌+◌, ◌-◌, ◌*◌, ◌/◌, ◌%◌, ◌^◌, ◌<◌, ◌≤◌, true, cond, ◌&&◌, leb, List, [], ◌∷◌, ◌++◌, length, Some, None, sym, refl, ap, ◌∙◌, append_assoc, append-nil, add-zero, mul-le-mul_right, mul_assoc, pow-suc, div-add-mod', zero-add, arith, lit<, length-append}
use native.Mathlib.Nat.{pow-zero, pow-succ', pow-le-pow_right}
use Rattle.std.proofs.lemmas.Nat.{div-mul-add, mod-mul-add, div_below, mod_below}
use Rattle.std.proofs.lemmas.Bool.{and_parts, and_from, leb-true, le-leb}
use Rattle.basics.specs.declared.bytes.ByteClass.TheVariants.{Digit}
use Rattle.basics.specs.Bytes.{allowed, all}
use Rattle.basics.specs.Decimals.{number_from, number_of, value_of, digits}

-- every byte is a digit
abbrev pub Digits : List ℕ → Type 0
Digits bs = all (allowed Digit) bs ≡ true

pub digit-is : (b : ℕ) → allowed Digit b ≡ true → (48 ≤ b) × (b ≤ 57)
digit-is b e = let both = and_parts (leb 48 b) (leb b 57) e in (leb-true 48 b both.0, leb-true b 57 both.1)

pub is_digit : (b : ℕ) → 48 ≤ b → b ≤ 57 → allowed Digit b ≡ true
is_digit b l h = and_from (leb 48 b) (leb b 57) (le-leb 48 b l) (le-leb b 57 h)

number_from-push : (n : ℕ) (bs : List ℕ) (b : ℕ) → number_from n (bs ++ (b ∷ [])) ≡ number_from n bs * 10 + (b - 48)
number_from-push n [] b = refl
number_from-push n (x ∷ xs) b = number_from-push (n * 10 + (x - 48)) xs b

pub length_digits : (w n : ℕ) → length (digits w n) ≡ w
length_digits zero n = refl
length_digits (suc w) n = omega (arith, length-append (digits w (n / 10)) ((48 + n % 10) ∷ []), length_digits w (n / 10))

all_push : (bs : List ℕ) (b : ℕ) → Digits bs → allowed Digit b ≡ true → Digits (bs ++ (b ∷ []))
all_push [] b h e = and_from (allowed Digit b) true e refl
all_push (x ∷ xs) b h e =
    let p = and_parts (allowed Digit x) (all (allowed Digit) xs) h in
    and_from (allowed Digit x) (all (allowed Digit) (xs ++ (b ∷ []))) p.0 (all_push xs b p.1 e)

pub digits_are : (w n : ℕ) → Digits (digits w n)
digits_are zero n = refl
digits_are (suc w) n =
    let m = mod_below n 10 (omega arith) in
    all_push (digits w (n / 10)) (48 + n % 10) (digits_are w (n / 10)) (is_digit (48 + n % 10) (omega arith) (omega arith))

-- what was written is read back, where it has room
pub number-back : (w n : ℕ) → n < 10 ^ w → number_of (digits w n) ≡ n
number-back zero n h = omega (arith, pow-zero 10)
number-back (suc w) n h =
    let front : n / 10 < 10 ^ w = div_below n 10 (10 ^ w) (omega arith) (omega (arith, pow-suc 10 w)) in
    let e = number-back w (n / 10) front in
    omega (arith, number_from-push 0 (digits w (n / 10)) (48 + n % 10), e, div-add-mod' n 10)

digits-after : (bs : List ℕ) (w n : ℕ) → Digits bs → digits (w + length bs) (number_from n bs) ≡ digits w n ++ bs
digits-after [] w n h = ap (λ k. digits k n) (add-zero w) ∙ sym (append-nil (digits w n))
digits-after (b ∷ bs) w n h =
    let p = and_parts (allowed Digit b) (all (allowed Digit) bs) h in
    let g = digit-is b p.0 in
    let low = g.0 in
    let high = g.1 in
    let d : b - 48 < 10 = omega arith in
    let q = div-mul-add n 10 (b - 48) d in
    let r : 48 + (n * 10 + (b - 48)) % 10 ≡ b = omega (arith, mod-mul-add n 10 (b - 48) d) in
    let step : digits (suc w) (n * 10 + (b - 48)) ≡ digits w n ++ (b ∷ []) = cc in
    let more : w + suc (length bs) ≡ suc w + length bs = omega arith in
    ap (λ k. digits k (number_from (n * 10 + (b - 48)) bs)) more
    ∙ digits-after bs (suc w) (n * 10 + (b - 48)) p.1
    ∙ ap (λ x. x ++ bs) step
    ∙ append_assoc (digits w n) (b ∷ []) bs

-- what was read is written back
pub digits-back : (bs : List ℕ) → Digits bs → digits (length bs) (number_of bs) ≡ bs
digits-back bs h = ap (λ k. digits k (number_of bs)) (sym (zero-add (length bs))) ∙ digits-after bs 0 0 h

number_from-lt : (bs : List ℕ) (n : ℕ) → Digits bs → number_from n bs < (n + 1) * 10 ^ length bs
number_from-lt [] n h = omega (arith, ap (λ x. (n + 1) * x) (pow-zero 10))
number_from-lt (b ∷ bs) n h =
    let p = and_parts (allowed Digit b) (all (allowed Digit) bs) h in
    let g = digit-is b p.0 in
    let high = g.1 in
    let step : n * 10 + (b - 48) + 1 ≤ (n + 1) * 10 = omega arith in
    omega (arith, number_from-lt bs (n * 10 + (b - 48)) p.1, mul-le-mul_right (10 ^ length bs) step, mul_assoc (n + 1) 10 (10 ^ length bs), ap (λ x. (n + 1) * x) (pow-succ' 10 (length bs)))

pub number_lt : (bs : List ℕ) → Digits bs → number_of bs < 10 ^ length bs
number_lt bs h = omega (arith, number_from-lt bs 0 h)

pub fits : (n k d : ℕ) → n < 10 ^ k → k < 19 → d ≤ 9 → n * 10 + d < 2 ^ 64
fits n k d h l m = let b : 10 ^ k ≤ 10 ^ 18 = pow-le-pow_right {n = 10} (lit< tt) {i = k} {j = 18} (omega arith) in omega arith

-- the value of at most 19 digits
pub value-some : (s : List ℕ) → length s ≤ 19 → Digits s → value_of s ≡ Some (number_of s)
value-some s h e =
    ap (λ t. cond (t && all (allowed Digit) s) (Some (number_of s)) None) (le-leb (length s) 19 h) ∙ ap (λ t. cond t (Some (number_of s)) None) e
