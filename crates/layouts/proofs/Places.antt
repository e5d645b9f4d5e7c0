-- What stands at a place of a list. Assumes nothing.
use Rattle.std.proofs.Common.{◌≡◌, ℕ, zero, suc, ◌+◌, ◌-◌, ◌<◌, ◌≤◌, List, [], ◌∷◌, length, get_or, drop, Some, None, Option, sym, refl, ap, ◌∙◌, arith}
use Rattle.std.proofs.Common.{Bor}
use Rattle.std.specs.Option.{MatchOption, option_copied}
use Rattle.std.specs.List.{HoldsAt}
use Rattle.layouts.specs.Layouts.{place}

pub place-zero : {A : Type 0} (l : List A) → place l 0 ≡ None
place-zero [] = refl
place-zero (x ∷ xs) = refl

pub place-past : {A : Type 0} (l : List A) (i : ℕ) → length l < i → place l i ≡ None
place-past [] i h = refl
place-past (x ∷ xs) zero h = refl
place-past (x ∷ xs) (suc zero) h = absurd (omega arith)
place-past (x ∷ xs) (suc (suc i)) h = place-past xs (suc i) (omega arith)

pub place_at : {A : Type 0} (l : List A) (i : ℕ) (d : A) → i < length l → place l (suc i) ≡ Some (get_or l i d)
place_at [] i d h = absurd (omega arith)
place_at (x ∷ xs) zero d h = refl
place_at (x ∷ xs) (suc i) d h = place_at xs i d (omega arith)

no : {A B : Type 0} {x : A} → ◌≡◌ {A = Option A} None (Some x) → B
no e = absurd (let z : ◌≡◌ {A = ℕ} 0 1 = cc in omega arith)

-- a place that is filled begins what is left from there
from_place : {A : Type 0} (l : List A) (k : ℕ) (f : A) → place l (suc k) ≡ Some f → drop k l ≡ f ∷ drop (suc k) l
from_place [] k f e = no e
from_place (x ∷ xs) zero f e = let s : x ≡ f = cc in ap (λ y. y ∷ xs) s
from_place (x ∷ xs) (suc k) f e = from_place xs k f e

pub drop-at-place : {A : Type 0} (l : List A) (i : ℕ) (f : A) → place l i ≡ Some f → drop (i - 1) l ≡ f ∷ drop i l
drop-at-place l zero f e = no (sym (place-zero l) ∙ e)
drop-at-place l (suc k) f e = let b : suc k - 1 ≡ k = omega arith in ap (λ n. drop n l) b ∙ from_place l k f e

pub place-within : {A : Type 0} (l : List A) (i : ℕ) (f : A) → place l i ≡ Some f → i ≤ length l
place-within [] i f e = no e
place-within (x ∷ xs) zero f e = omega arith
place-within (x ∷ xs) (suc zero) f e = omega arith
place-within (x ∷ xs) (suc (suc i)) f e = let h = place-within xs (suc i) f e in omega arith

-- past a place that is not filled nothing is left
from-none : {A : Type 0} (l : List A) (k : ℕ) → place l (suc k) ≡ None → drop k l ≡ []
from-none [] zero e = refl
from-none [] (suc k) e = refl
from-none (x ∷ xs) zero e = no (sym e)
from-none (x ∷ xs) (suc k) e = from-none xs k e

pub drop-at-none : {A : Type 0} (l : List A) (i : ℕ) → 1 ≤ i → place l i ≡ None → drop (i - 1) l ≡ []
drop-at-none l zero h e = absurd (omega arith)
drop-at-none l (suc k) h e = let b : suc k - 1 ≡ k = omega arith in ap (λ n. drop n l) b ∙ from-none l k e

-- an iterator at place i gives what stands there, and goes on behind it
pub left-after : {A : Type 0} (l : List A) (i : ℕ) (f : A) → place l i ≡ Some f → drop (i - 1) l ≡ f ∷ drop (i + 1 - 1) l
left-after l i f e = let b : i ≡ i + 1 - 1 = omega arith in drop-at-place l i f e ∙ ap (λ n. f ∷ drop n l) b

-- what `get` finds at index k of a table, copied, stands at place k + 1
pub got : {A : Type 0} (l : List A) (k : ℕ) (o : Option (Bor A)) → MatchOption o (length l ≤ k) (λ x. (k < length l) × HoldsAt (λ y. x.now ≡ y) l k) → option_copied o ≡ place l (suc k)
got l k None h = sym (place-past l (suc k) (omega arith))
got l k (Some x) h = ap Some (h.1 x.now) ∙ sym (place_at l k x.now h.0)
