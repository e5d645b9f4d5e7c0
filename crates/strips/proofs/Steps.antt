-- One step of reading: what it takes from the strips, and what is left then.
use Rattle.std.proofs.Common.{◌≡◌, ℕ, zero, suc, ◌+◌, ◌-◌, ◌≤◌, List, [], ◌∷◌, length, drop, Ok, Err, Result, sym, refl, ap, ◌∙◌, add-zero, arith}
use Rattle.std.proofs.lemmas.Bool.Decides.{nat_tests}
use Rattle.std.proofs.lemmas.List.{length-drop}
use Rattle.basics.specs.declared.refusal.Refusal.{Refusal}
use Rattle.strips.specs.Strips.{kind_of}
use Rattle.strips.specs.Loads.{Reading, and_then, stepped, width_of, read_from}

-- a step that is followed was accepted
pub record Followed {A B : Type 0} (o : Result A Refusal) (k : A → Result B Refusal) (y : B) : Type 0 where
  pub value : A
  pub first : o ≡ Ok value
  pub second : k value ≡ Ok y

pub followed : {A B : Type 0} (o : Result A Refusal) (k : A → Result B Refusal) (y : B) → and_then o k ≡ Ok y → Followed o k y
followed (Ok x) k y e = record { value = x; first = refl; second = e }
followed (Err r) k y e = cc

-- the body of a letter whose step is accepted is there
pub body-left : (b : ℕ) (r : Reading) (k : ℕ) (s : List ℕ) (q : Reading) (w : ℕ) → w ≡ width_of (kind_of k) → stepped b r k s ≡ Ok q → w ≤ length s
body-left b r k s q w v e = grind (arith, nat_tests)

-- the bytes of a body are passed over
pub pass-over : (w p : ℕ) (r : Reading) (s : List ℕ) → w ≤ length s → read_from w p r s ≡ read_from 0 (p + w) r (drop w s)
pass-over zero p r s h = ap (λ n. read_from 0 n r s) (sym (add-zero p))
pass-over (suc w) p r [] h = absurd (omega arith)
pass-over (suc w) p r (b ∷ s) h = grind (arith, pass-over w (p + 1) r s)

-- one turn of a loop over n bytes of strips, of which the letter k and the bytes s are left
module _ (n : ℕ) (r : Reading) (k : ℕ) (s left : List ℕ) (e : left ≡ k ∷ s) (h : length left ≤ n) where
  pub turn : read_from 0 (n - length left) r left ≡ and_then (stepped (n - length s) r k s) (λ q. read_from (width_of (kind_of k)) (n - length s) q s)
  turn =
      let l : length left ≡ suc (length s) = ap length e in
      let b : n - length left + 1 ≡ n - length s = omega arith in
      ap (read_from 0 (n - length left) r) e ∙ ap (λ p. and_then (stepped p r k s) (λ q. read_from (width_of (kind_of k)) p q s)) b

  pub read_more : (q : Reading) (w : ℕ) → w ≡ width_of (kind_of k) → stepped (n - length s) r k s ≡ Ok q → (length (drop w s) ≤ n) × (read_from 0 (n - length (drop w s)) q (drop w s) ≡ read_from 0 (n - length left) r left)
  read_more q w v g =
      let l : length left ≡ suc (length s) = ap length e in
      let there = body-left (n - length s) r k s q w v g in
      let d = length-drop w s in
      let b : n - length s + w ≡ n - length (drop w s) = omega arith in (
        omega arith,
        sym
            (turn
            ∙ ap (λ o. and_then o (λ m. read_from (width_of (kind_of k)) (n - length s) m s)) g
            ∙ ap (λ x. read_from x (n - length s) q s) (sym v)
            ∙ pass-over w (n - length s) q s (omega arith)
            ∙ ap (λ p. read_from 0 p q (drop w s)) b),
      )
