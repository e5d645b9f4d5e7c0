-- Where the first line ends, by the CRs that come before.
use Rattle.std.proofs.Common.{◌≡◌, ℕ, zero, suc, ◌+◌, ◌-◌, ◌<◌, ◌≤◌, Bool, true, false, cond, ◌&&◌, eqb, List, [], ◌∷◌, length, get_or, take, drop, ltb, Some, None, Option, sym, refl, ap, ◌∙◌, subst, add-zero, arith, length-drop}
use Rattle.std.proofs.lemmas.List.{drop_more, drop_all, drop-drop, get_or-drop, take_rest}
use Rattle.std.proofs.lemmas.Bool.{and_parts, and_from, and_right, ltb-true, lt-ltb}
use Rattle.std.specs.Option.{option_map}
use Rattle.memchr.specs.Find.{is_byte, NoneBefore, Nowhere, Passes}
use Rattle.files.specs.Lines.{line_end}

unmoved : (o : Option ℕ) → option_map (λ m. 0 + m) o ≡ o
unmoved None = refl
unmoved (Some m) = let e : 0 + m ≡ m = omega arith in ap Some e

moved : (k : ℕ) (o : Option ℕ) → option_map (λ m. 1 + m) (option_map (λ m. k + m) o) ≡ option_map (λ m. suc k + m) o
moved k None = refl
moved k (Some m) = let e : 1 + (k + m) ≡ suc k + m = omega arith in ap Some e

-- a first byte that is no CR ends no line
past-one : (b : ℕ) (bs : List ℕ) → eqb b 13 ≡ false → line_end (b ∷ bs) ≡ option_map (λ m. 1 + m) (line_end bs)
past-one b [] e = refl
past-one b (c ∷ bs) e = ap (λ t. cond (t && eqb c 10) (Some 0) (option_map (λ m. 1 + m) (line_end (c ∷ bs)))) e

-- nor do more of them
pub past : (k : ℕ) (s : List ℕ) → k ≤ length s → ((j : ℕ) → j < k → eqb (get_or s j 0) 13 ≡ false) → line_end s ≡ option_map (λ m. k + m) (line_end (drop k s))
past zero s h f = sym (unmoved (line_end s))
past (suc k) [] h f = absurd (omega arith)
past (suc k) (b ∷ bs) h f =
    past-one b bs (f 0 (omega arith))
    ∙ ap (option_map (λ m. 1 + m)) (past k bs (omega arith) (λ j l. f (suc j) (omega arith)))
    ∙ moved k (line_end (drop k bs))

onwards : (k : ℕ) (o : Option ℕ) → option_map (λ m. k + m) (option_map (λ m. 1 + m) o) ≡ option_map (λ m. k + 1 + m) o
onwards k None = refl
onwards k (Some m) = let e : k + (1 + m) ≡ k + 1 + m = omega arith in ap Some e

-- nor does a CR with no LF behind it
past-cr : (b : ℕ) (x : List ℕ) → ((c : ℕ) (y : List ℕ) → x ≡ c ∷ y → eqb c 10 ≡ false) → line_end (b ∷ x) ≡ option_map (λ m. 1 + m) (line_end x)
past-cr b [] h = refl
past-cr b (c ∷ y) h = ap (λ t. cond t (Some 0) (option_map (λ m. 1 + m) (line_end (c ∷ y)))) (and_right (eqb b 13) (eqb c 10) (h c y refl))

not-true : (t : Bool) → ¬ (t ≡ true) → t ≡ false
not-true true n = absurd (n refl)
not-true false n = refl

second-false : (a b : Bool) → a ≡ true → (a && b) ≡ false → b ≡ false
second-false a b p e = ap (λ t. t && b) (sym p) ∙ e

joined : (a k : ℕ) (o : Option ℕ) → option_map (λ m. a + m) (option_map (λ m. k + 1 + m) o) ≡ option_map (λ m. a + k + 1 + m) o
joined a k None = refl
joined a k (Some m) = let e : a + (k + 1 + m) ≡ a + k + 1 + m = omega arith in ap Some e

-- the first CR stands at k
record FirstCr (s : List ℕ) (k : ℕ) : Type 0 where
  pub inside : k < length s
  pub before : (j : ℕ) → j < k → eqb (get_or s j 0) 13 ≡ false
  pub here : eqb (get_or s k 0) 13 ≡ true

-- as the search says it
first-cr : (s t : List ℕ) (k : ℕ) → s ≡ t → NoneBefore (Passes (is_byte 13) s) 0 (length s) k × Passes (is_byte 13) s k → FirstCr t k
first-cr s t k e p =
    let n = p.0 in
    subst (λ x. FirstCr x k) e (record {
      inside = n.high;
      before = λ j h. not-true (eqb (get_or s j 0) 13) (n.before j (omega arith) h);
      here = p.1;
    })

module _ (s : List ℕ) (k : ℕ) (c : FirstCr s k) where
  from-cr : line_end s ≡ option_map (λ m. k + m) (line_end (get_or s k 0 ∷ drop (k + 1) s))
  from-cr = let h = c.inside in past k s (omega arith) c.before ∙ ap (λ x. option_map (λ m. k + m) (line_end x)) (drop_more s k 0 c.inside)

  ends-here : k + 1 < length s → eqb (get_or s (k + 1) 0) 10 ≡ true → line_end s ≡ Some k
  ends-here more lf =
      from-cr
      ∙ ap (λ x. option_map (λ m. k + m) (line_end (get_or s k 0 ∷ x))) (drop_more s (k + 1) 0 more)
      ∙ ap (λ t. option_map (λ m. k + m) (cond t (Some 0) (option_map (λ m. 1 + m) (line_end (get_or s (k + 1) 0 ∷ drop (k + 1 + 1) s))))) (and_from (eqb (get_or s k 0) 13) (eqb (get_or s (k + 1) 0) 10) c.here lf)
      ∙ ap Some (add-zero k)

  goes-on : (k + 1 < length s → eqb (get_or s (k + 1) 0) 10 ≡ false) → line_end s ≡ option_map (λ m. k + 1 + m) (line_end (drop (k + 1) s))
  goes-on lone =
      from-cr
      ∙ ap (option_map (λ m. k + m)) (past-cr (get_or s k 0) (drop (k + 1) s) (λ b y e.
      let more : k + 1 < length s = omega (arith, ap length e, length-drop (k + 1) s) in
      let is : get_or s (k + 1) 0 ≡ b = ap (λ n. get_or s n 0) (sym (add-zero (k + 1))) ∙ sym (get_or-drop (k + 1) s 0 0) ∙ ap (λ x. get_or x 0 0) e in
      ap (λ n. eqb n 10) (sym is) ∙ lone more))
      ∙ onwards k (line_end (drop (k + 1) s))

-- around the bytes from a place on, as the code takes them
module _ (f : List ℕ) (from : ℕ) (within : from ≤ length f) where
  abbrev pub Cr : ℕ → Type 0
  Cr k = NoneBefore (Passes (is_byte 13) (take (length f - from) (drop from f))) 0 (length (take (length f - from) (drop from f))) k × Passes (is_byte 13) (take (length f - from) (drop from f)) k

  at-cr : (k : ℕ) → Cr k → FirstCr (drop from f) k
  at-cr k p = first-cr (take (length f - from) (drop from f)) (drop from f) k (take_rest f from) p

  pub cr-within : (k : ℕ) → Cr k → from + k + 1 ≤ length f
  cr-within k p = let h = (at-cr k p).inside in omega (arith, length-drop from f)

  lf-at : (k : ℕ) → get_or (drop from f) (k + 1) 0 ≡ get_or f (from + k + 1) 0
  lf-at k = let e : from + (k + 1) ≡ from + k + 1 = omega arith in get_or-drop from f (k + 1) 0 ∙ ap (λ n. get_or f n 0) e

  pub at-line-end : (k : ℕ) → Cr k → (ltb (from + k + 1) (length f) && eqb (get_or f (from + k + 1) 0) 10) ≡ true → option_map (λ m. from + m) (line_end (drop from f)) ≡ Some (from + k)
  at-line-end k p e =
      let both = and_parts (ltb (from + k + 1) (length f)) (eqb (get_or f (from + k + 1) 0) 10) e in
      let more = ltb-true (from + k + 1) (length f) both.0 in
      ap (option_map (λ m. from + m)) (ends-here (drop from f) k (at-cr k p) (omega (arith, length-drop from f)) (ap (λ n. eqb n 10) (lf-at k) ∙ both.1))

  pub past-lone-cr : (k : ℕ) → Cr k → (ltb (from + k + 1) (length f) && eqb (get_or f (from + k + 1) 0) 10) ≡ false → option_map (λ m. from + k + 1 + m) (line_end (drop (from + k + 1) f)) ≡ option_map (λ m. from + m) (line_end (drop from f))
  past-lone-cr k p e =
      let far : from + (k + 1) ≡ from + k + 1 = omega arith in
      let lone : k + 1 < length (drop from f) → eqb (get_or (drop from f) (k + 1) 0) 10 ≡ false =
      λ more. ap (λ n. eqb n 10) (lf-at k) ∙ second-false (ltb (from + k + 1) (length f)) (eqb (get_or f (from + k + 1) 0) 10) (lt-ltb (from + k + 1) (length f) (omega (arith, length-drop from f))) e in
      sym (ap (option_map (λ m. from + m)) (goes-on (drop from f) k (at-cr k p) lone ∙ ap (λ x. option_map (λ m. k + 1 + m) (line_end x)) (drop-drop (k + 1) from f ∙ ap (λ n. drop n f) far))
      ∙ joined from k (line_end (drop (from + k + 1) f)))

  pub no-cr : Nowhere (Passes (is_byte 13) (take (length f - from) (drop from f))) 0 (length (take (length f - from) (drop from f))) → option_map (λ m. from + m) (line_end (drop from f)) ≡ None
  no-cr none =
      let s = drop from f in
      let clean : Nowhere (Passes (is_byte 13) s) 0 (length s) = subst (λ x. Nowhere (Passes (is_byte 13) x) 0 (length x)) (take_rest f from) none in
      ap (option_map (λ m. from + m))
      (past (length s) s (omega arith) (λ j h. not-true (eqb (get_or s j 0) 13) (clean j (omega arith) h))
      ∙ ap (λ x. option_map (λ m. length s + m) (line_end x)) (drop_all (length s) s (omega arith)))
