-- Laws of texts filled up with blanks.
use Rattle.std.proofs.Common.{◌≡◌, ℕ, zero, suc, ◌-◌, ◌≤◌, eqb, List, [], ◌∷◌, ◌++◌, length, take, replicate, sym, refl, ap, ◌∙◌, arith, length-append}
use Rattle.std.proofs.lemmas.Bool.{eqb-true, cond_both}
use Rattle.std.proofs.lemmas.List.{take_at, take_all, length-replicate}
use Rattle.basics.specs.Texts.{front, trim}
use Rattle.values.specs.Writing.{padded}

abbrev blanks : ℕ → List ℕ
blanks k = replicate k 32

trim-none : (k : ℕ) → trim (blanks k) ≡ []
trim-none zero = refl
trim-none (suc k) = ap (front 32) (trim-none k)

trim_blanks : (t : List ℕ) (k : ℕ) → trim (t ++ blanks k) ≡ trim t
trim_blanks [] k = trim-none k
trim_blanks (x ∷ xs) k = ap (front x) (trim_blanks xs k)

-- a text that was filled up is trimmed back
pub trim-back : (w : ℕ) (t : List ℕ) → trim t ≡ t → trim (padded w t) ≡ t
trim-back w t h = trim_blanks t (w - length t) ∙ h

pad-more : (b : ℕ) (t bs : List ℕ) → t ++ blanks (length bs - length t) ≡ bs → front b t ++ blanks (suc (length bs) - length (front b t)) ≡ b ∷ bs
pad-more b [] bs h =
    cond_both (eqb b 32) [] (b ∷ []) (λ x. x ++ blanks (suc (length bs) - length x) ≡ b ∷ bs)
    (λ e. let z : suc (length bs) - 0 ≡ suc (length bs - 0) = omega arith in ap blanks z ∙ ap (λ x. x ∷ blanks (length bs - 0)) (sym (eqb-true b 32 e)) ∙ ap (λ x. b ∷ x) h)
    (λ e. let z : suc (length bs) - 1 ≡ length bs - 0 = omega arith in ap (λ k. b ∷ blanks k) z ∙ ap (λ x. b ∷ x) h)
pad-more b (x ∷ xs) bs h =
    let z : suc (length bs) - suc (suc (length xs)) ≡ length bs - suc (length xs) = omega arith in
    ap (λ k. b ∷ ((x ∷ xs) ++ blanks k)) z ∙ ap (λ y. b ∷ y) h

-- a text that was trimmed is filled up again
pub pad-back : (s : List ℕ) → padded (length s) (trim s) ≡ s
pad-back [] = refl
pad-back (b ∷ bs) = pad-more b (trim bs) bs (pad-back bs)

front-le : (b : ℕ) (t : List ℕ) → length (front b t) ≤ suc (length t)
front-le b [] = cond_both (eqb b 32) [] (b ∷ []) (λ x. length x ≤ 1) (λ e. omega arith) (λ e. omega arith)
front-le b (x ∷ xs) = omega arith

pub trim-le : (s : List ℕ) → length (trim s) ≤ length s
trim-le [] = omega arith
trim-le (b ∷ bs) = omega (arith, front-le b (trim bs), trim-le bs)

-- a text stands in front of its blanks
pub trim-take : (s : List ℕ) → take (length (trim s)) s ≡ trim s
trim-take s = ap (take (length (trim s))) (sym (pad-back s)) ∙ take_at (trim s) (blanks (length s - length (trim s))) _ refl

pub trim-twice : (s : List ℕ) → trim (trim s) ≡ trim s
trim-twice s = sym (trim_blanks (trim s) (length s - length (trim s))) ∙ ap trim (pad-back s)

pub length-padded : (w : ℕ) (t : List ℕ) → length t ≤ w → length (padded w t) ≡ w
length-padded w t h = omega (arith, length-append t (blanks (w - length t)), length-replicate {A = ℕ} (w - length t) 32)

-- no blank behind a text: it is as long as without its blanks
pub untrailed : (t : List ℕ) → length (trim t) ≡ length t → trim t ≡ t
untrailed t h = sym (trim-take t) ∙ take_all (length (trim t)) t (omega arith)
