-- Laws of the first byte that may not stand where it does.
use Rattle.std.proofs.Common.{◌≡◌, ℕ, zero, suc, ◌+◌, ◌<◌, Bool, true, false, cond, not, ◌&&◌, List, [], ◌∷◌, length, get_or, is_some, Some, None, Option, sym, refl, ap, ◌∙◌, subst, add-zero, zero-add, arith}
use Rattle.std.proofs.lemmas.Bool.{and_parts, and_from}
use Rattle.basics.specs.Bytes.{all, anywhere, first_forbidden}

pub absurd-none : {A B : Type 0} {x : A} → ◌≡◌ {A = Option A} None (Some x) → B
absurd-none e = absurd (let z : ◌≡◌ {A = ℕ} 0 1 = cc in omega arith)

pub same_some : {A : Type 0} {x y : A} → ◌≡◌ {A = Option A} (Some x) (Some y) → x ≡ y
same_some e = cc

-- every byte may stand where it does, counted from k
abbrev Clean : (ℕ → ℕ → Bool) → ℕ → List ℕ → Type 0
Clean ok k s = (j : ℕ) → j < length s → ok (k + j) (get_or s j 0) ≡ true

-- the byte at `far` is the first that may not, counted from k
record FirstFrom (ok : ℕ → ℕ → Bool) (k : ℕ) (s : List ℕ) (far : ℕ) : Type 0 where
  pub inside : far < length s
  pub before : (j : ℕ) → j < far → ok (k + j) (get_or s j 0) ≡ true
  pub here : ok (k + far) (get_or s far 0) ≡ false

shift : (ok : ℕ → ℕ → Bool) (k j b : ℕ) (t : Bool) → ok (k + 1 + j) b ≡ t → ok (k + suc j) b ≡ t
shift ok k j b t e = let m : k + suc j ≡ k + 1 + j = omega arith in ap (λ n. ok n b) m ∙ e

shift_back : (ok : ℕ → ℕ → Bool) (k j b : ℕ) (t : Bool) → ok (k + suc j) b ≡ t → ok (k + 1 + j) b ≡ t
shift_back ok k j b t e = let m : k + 1 + j ≡ k + suc j = omega arith in ap (λ n. ok n b) m ∙ e

onto : (ok : ℕ → ℕ → Bool) (k b : ℕ) (bs : List ℕ) (n : ℕ) → ok k b ≡ true → ((j : ℕ) → j < n → ok (k + 1 + j) (get_or bs j 0) ≡ true) → (j : ℕ) → j < suc n → ok (k + j) (get_or (b ∷ bs) j 0) ≡ true
onto ok k b bs n a h zero l = ap (λ n. ok n b) (add-zero k) ∙ a
onto ok k b bs n a h (suc j) l = shift ok k j (get_or bs j 0) true (h j (omega arith))

none-clean : (ok : ℕ → ℕ → Bool) (k : ℕ) (s : List ℕ) → first_forbidden ok k s ≡ None → Clean ok k s
none-clean ok k [] e = λ j h. absurd (omega arith)
none-clean ok k (b ∷ bs) e =
    elim (ok k b) as (λ t. ok k b ≡ t → cond t (first_forbidden ok (k + 1) bs) (Some k) ≡ None → Clean ok k (b ∷ bs)) [
      | true ↦ λ a h. onto ok k b bs (length bs) a (none-clean ok (k + 1) bs h)
      | false ↦ λ a h. absurd-none (sym h)
    ]
    refl e

clean-none : (ok : ℕ → ℕ → Bool) (k : ℕ) (s : List ℕ) → Clean ok k s → first_forbidden ok k s ≡ None
clean-none ok k [] h = refl
clean-none ok k (b ∷ bs) h =
    ap (λ t. cond t (first_forbidden ok (k + 1) bs) (Some k)) (ap (λ n. ok n b) (sym (add-zero k)) ∙ h 0 (omega arith))
    ∙ clean-none ok (k + 1) bs (λ j l. shift_back ok k j (get_or bs j 0) true (h (suc j) (omega arith)))

-- the index that is answered, counted from k
record Found (ok : ℕ → ℕ → Bool) (k : ℕ) (s : List ℕ) (m : ℕ) : Type 0 where
  pub far : ℕ
  pub is : m ≡ k + far
  pub first : FirstFrom ok k s far

some_first : (ok : ℕ → ℕ → Bool) (k : ℕ) (s : List ℕ) (m : ℕ) → first_forbidden ok k s ≡ Some m → Found ok k s m
some_first ok k [] m e = absurd-none e
some_first ok k (b ∷ bs) m e =
    elim (ok k b) as (λ t. ok k b ≡ t → cond t (first_forbidden ok (k + 1) bs) (Some k) ≡ Some m → Found ok k (b ∷ bs) m) [
      | true ↦ λ a h.
          let r = some_first ok (k + 1) bs m h in
          let f = r.first in
          let i = r.is in
          let l = f.inside in
          record {
            far = suc r.far;
            is = omega arith;
            first = record { inside = omega arith; before = onto ok k b bs r.far a f.before; here = shift ok k r.far (get_or bs r.far 0) false f.here };
          }
      | false ↦ λ a h.
          let i : k ≡ m = same_some h in
          record {
            far = 0;
            is = omega arith;
            first = record { inside = omega arith; before = λ j l. absurd (omega arith); here = ap (λ n. ok n b) (add-zero k) ∙ a };
          }
    ]
    refl e

first_some : (ok : ℕ → ℕ → Bool) (k : ℕ) (s : List ℕ) (far : ℕ) → FirstFrom ok k s far → first_forbidden ok k s ≡ Some (k + far)
first_some ok k [] far f = let l = f.inside in absurd (omega arith)
first_some ok k (b ∷ bs) zero f =
    ap (λ t. cond t (first_forbidden ok (k + 1) bs) (Some k)) (ap (λ n. ok n b) (sym (add-zero k)) ∙ f.here) ∙ ap Some (sym (add-zero k))
first_some ok k (b ∷ bs) (suc far) f =
    let l = f.inside in
    let m : k + 1 + far ≡ k + suc far = omega arith in
    ap (λ t. cond t (first_forbidden ok (k + 1) bs) (Some k)) (ap (λ n. ok n b) (sym (add-zero k)) ∙ f.before 0 (omega arith))
    ∙ first_some ok (k + 1) bs far
    (record {
      inside = omega arith;
      before = λ j h. shift_back ok k j (get_or bs j 0) true (f.before (suc j) (omega arith));
      here = shift_back ok k far (get_or bs far 0) false f.here;
    })
    ∙ ap Some m

-- the same of a test that does not ask for the index
pub none-all : (ok : ℕ → Bool) (k : ℕ) (s : List ℕ) → first_forbidden (anywhere ok) k s ≡ None → all ok s ≡ true
none-all ok k [] e = refl
none-all ok k (b ∷ bs) e =
    elim (ok b) as (λ t. cond t (first_forbidden (anywhere ok) (k + 1) bs) (Some k) ≡ None → (t && all ok bs) ≡ true)
    [ true ↦ λ h. none-all ok (k + 1) bs h | false ↦ λ h. absurd-none (sym h) ]
    e

pub all-at : (ok : ℕ → Bool) (s : List ℕ) (j : ℕ) → all ok s ≡ true → j < length s → ok (get_or s j 0) ≡ true
all-at ok [] j e h = absurd (omega arith)
all-at ok (b ∷ bs) zero e h = (and_parts (ok b) (all ok bs) e).0
all-at ok (b ∷ bs) (suc j) e h = all-at ok bs j (and_parts (ok b) (all ok bs) e).1 (omega arith)

pub at_all : (ok : ℕ → Bool) (s : List ℕ) → ((j : ℕ) → j < length s → ok (get_or s j 0) ≡ true) → all ok s ≡ true
at_all ok [] h = refl
at_all ok (b ∷ bs) h = and_from (ok b) (all ok bs) (h 0 (omega arith)) (at_all ok bs (λ j l. h (suc j) (omega arith)))

-- no byte is forbidden exactly if all pass
pub forbidden-test : (ok : ℕ → Bool) (k : ℕ) (s : List ℕ) → is_some (first_forbidden (anywhere ok) k s) ≡ not (all ok s)
forbidden-test ok k [] = refl
forbidden-test ok k (b ∷ bs) =
    elim (ok b) as (λ t. is_some (cond t (first_forbidden (anywhere ok) (k + 1) bs) (Some k)) ≡ not (t && all ok bs))
    [ true ↦ forbidden-test ok (k + 1) bs | false ↦ refl ]

-- no byte is forbidden: each may stand where it does
pub clean-of-none : (ok : ℕ → ℕ → Bool) (s : List ℕ) → first_forbidden ok 0 s ≡ None → (j : ℕ) → j < length s → ok j (get_or s j 0) ≡ true
clean-of-none ok s e j h = ap (λ n. ok n (get_or s j 0)) (sym (zero-add j)) ∙ none-clean ok 0 s e j h

pub none-of-clean : (ok : ℕ → ℕ → Bool) (s : List ℕ) → ((j : ℕ) → j < length s → ok j (get_or s j 0) ≡ true) → first_forbidden ok 0 s ≡ None
none-of-clean ok s h = clean-none ok 0 s (λ j l. ap (λ n. ok n (get_or s j 0)) (zero-add j) ∙ h j l)

-- the byte at m is the first that may not stand where it does
pub record First (ok : ℕ → ℕ → Bool) (s : List ℕ) (m : ℕ) : Type 0 where
  pub inside : m < length s
  pub before : (j : ℕ) → j < m → ok j (get_or s j 0) ≡ true
  pub here : ok m (get_or s m 0) ≡ false

pub first-of-some : (ok : ℕ → ℕ → Bool) (s : List ℕ) (m : ℕ) → first_forbidden ok 0 s ≡ Some m → First ok s m
first-of-some ok s m e =
    let r = some_first ok 0 s m e in
    let same : r.far ≡ m = let i = r.is in omega arith in
    let f = r.first in
    record {
      inside = subst (λ n. n < length s) same f.inside;
      before = λ j h. ap (λ n. ok n (get_or s j 0)) (sym (zero-add j)) ∙ f.before j (omega arith);
      here = subst (λ n. ok n (get_or s n 0) ≡ false) same (ap (λ n. ok n (get_or s r.far 0)) (sym (zero-add r.far)) ∙ f.here);
    }

pub some-of-first : (ok : ℕ → ℕ → Bool) (s : List ℕ) (m : ℕ) → First ok s m → first_forbidden ok 0 s ≡ Some m
some-of-first ok s m f =
    first_some ok 0 s m
    (record {
      inside = f.inside;
      before = λ j h. ap (λ n. ok n (get_or s j 0)) (zero-add j) ∙ f.before j h;
      here = ap (λ n. ok n (get_or s m 0)) (zero-add m) ∙ f.here;
    })
    ∙ ap Some (zero-add m)

-- tests that agree within the bytes find the same
pub same-forbidden : (ok ko : ℕ → ℕ → Bool) (k : ℕ) (s : List ℕ) → ((j b : ℕ) → j < length s → ok (k + j) b ≡ ko (k + j) b) → first_forbidden ok k s ≡ first_forbidden ko k s
same-forbidden ok ko k [] h = refl
same-forbidden ok ko k (b ∷ bs) h =
    let here : ok k b ≡ ko k b = ap (λ n. ok n b) (sym (add-zero k)) ∙ h 0 b (omega arith) ∙ ap (λ n. ko n b) (add-zero k) in
    ap (λ t. cond t (first_forbidden ok (k + 1) bs) (Some k)) here
    ∙ ap (λ o. cond (ko k b) o (Some k))
    (same-forbidden ok ko (k + 1) bs (λ j c l. let m : k + 1 + j ≡ k + suc j = omega arith in ap (λ n. ok n c) m ∙ h (suc j) c (omega arith) ∙ ap (λ n. ko n c) (sym m)))
