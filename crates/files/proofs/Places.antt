-- Where the first line ends, byte by byte and by windows of so many places.
use Rattle.std.proofs.Common.{◌≡◌, ℕ, zero, suc, ◌+◌, ◌-◌, ◌<◌, ◌≤◌, false, List, [], ◌∷◌, ◌++◌, length, get_or, take, drop, min, Some, None, Option, sym, refl, ap, ◌∙◌, ⊎_elim, append_assoc, add-zero, arith, length-drop}
use Rattle.std.proofs.lemmas.List.{drop_more, drop_all, drop-drop, length-take, length-take-le, take-append-drop, take_min}
use Rattle.std.proofs.lemmas.Bool.{and_from, and_left, and_right, eq-eqb, ne_eqb, cases_eq, cases_lt, cond-true, cond-false}
use Rattle.std.specs.Option.{option_map}
use Rattle.files.specs.Lines.{ends, line_end}
use Rattle.basics.proofs.ByteLaws.{absurd-none}
use Rattle.files.proofs.Cuts.{first-end, end-of-line, mapped-none, uncut-front, uncut-back}

pub unmoved : (o : Option ℕ) → option_map (λ m. 0 + m) o ≡ o
unmoved None = refl
unmoved (Some m) = let e : 0 + m ≡ m = omega arith in ap Some e

-- c is the sum of two shifts, under the name that the code gives it
added : (a b c : ℕ) → a + b ≡ c → (o : Option ℕ) → option_map (λ m. a + m) (option_map (λ m. b + m) o) ≡ option_map (λ m. c + m) o
added a b c e None = refl
added a b c e (Some m) = let d : a + (b + m) ≡ c + m = omega arith in ap Some d

-- one turn of a loop that looks at each byte
module _ (f : List ℕ) (i : ℕ) where
  two : i + 1 < length f → drop i f ≡ get_or f i 0 ∷ get_or f (i + 1) 0 ∷ drop (i + 1 + 1) f
  two h = drop_more f i 0 (omega arith) ∙ ap (λ x. get_or f i 0 ∷ x) (drop_more f (i + 1) 0 h)

  pub end-here : i + 1 < length f → get_or f i 0 ≡ 13 → get_or f (i + 1) 0 ≡ 10 → option_map (λ k. i + k) (line_end (drop i f)) ≡ Some i
  end-here h p q =
      ap (λ x. option_map (λ k. i + k) (line_end x)) (two h)
      ∙ ap (option_map (λ k. i + k)) (cond-true _ (Some 0) (option_map (λ k. 1 + k) (line_end (get_or f (i + 1) 0 ∷ drop (i + 1 + 1) f))) (and_from _ _ (eq-eqb _ 13 p) (eq-eqb _ 10 q)))
      ∙ ap Some (add-zero i)

  pub end_more : i + 1 < length f → (get_or f i 0 ≡ 13 → get_or f (i + 1) 0 ≡ 10 → ⊥) → option_map (λ k. i + k) (line_end (drop i f)) ≡ option_map (λ k. i + 1 + k) (line_end (drop (i + 1) f))
  end_more h n =
      let not : ends (get_or f i 0) (get_or f (i + 1) 0) ≡ false = ⊎_elim (λ e. and_right _ _ (ne_eqb _ 10 (n e))) (λ e. and_left _ _ (ne_eqb _ 13 e)) (cases_eq (get_or f i 0) 13) in
      ap (λ x. option_map (λ k. i + k) (line_end x)) (two h)
      ∙ ap (option_map (λ k. i + k)) (cond-false _ (Some 0) (option_map (λ k. 1 + k) (line_end (get_or f (i + 1) 0 ∷ drop (i + 1 + 1) f))) not)
      ∙ added i 1 (i + 1) refl (line_end (get_or f (i + 1) 0 ∷ drop (i + 1 + 1) f))
      ∙ ap (λ x. option_map (λ k. i + 1 + k) (line_end x)) (sym (drop_more f (i + 1) 0 h))

one_none : (f : List ℕ) → length f ≤ 1 → line_end f ≡ None
one_none [] h = refl
one_none (b ∷ []) h = refl
one_none (b ∷ c ∷ bs) h = absurd (omega arith)

pub end_none : (f : List ℕ) (i : ℕ) → length f ≤ i + 1 → line_end (drop i f) ≡ None
end_none f i h = one_none (drop i f) (omega (arith, length-drop i f))

-- no line ends at the first n places: what ends behind them is the first
none-among : (n : ℕ) (s : List ℕ) → line_end (take (suc n) s) ≡ None → line_end s ≡ option_map (λ m. n + m) (line_end (drop n s))
none-among zero s e = sym (unmoved (line_end s))
none-among (suc n) [] e = refl
none-among (suc n) (b ∷ []) e = sym (ap (λ x. option_map (λ m. suc n + m) (line_end x)) (drop_all n [] (omega arith)))
none-among (suc n) (b ∷ c ∷ bs) e =
    let more : 1 + n ≡ suc n = omega arith in
    cond-false (ends b c) (Some 0) (option_map (λ m. 1 + m) (line_end (c ∷ bs))) (uncut-front b c (take n bs) e)
    ∙ ap (option_map (λ m. 1 + m)) (none-among n (c ∷ bs) (uncut-back b c (take n bs) e))
    ∙ added 1 n (suc n) more (line_end (drop n (c ∷ bs)))

-- a line that ends among the first n bytes is the first of all of them
among-first : (n : ℕ) (s : List ℕ) (k : ℕ) → line_end (take n s) ≡ Some k → line_end s ≡ Some k
among-first n s k e =
    let r = first-end (take n s) k e in
    let w = r.within in
    let l = take k (take n s) in
    let long : length l ≡ k = length-take-le k (take n s) (omega arith) in
    let whole : s ≡ l ++ (13 ∷ 10 ∷ (drop (k + 2) (take n s) ++ drop n s)) =
    sym (take-append-drop n s) ∙ ap (λ x. x ++ drop n s) r.whole ∙ append_assoc l (13 ∷ 10 ∷ drop (k + 2) (take n s)) (drop n s) in
    ap line_end whole ∙ end-of-line l (drop (k + 2) (take n s) ++ drop n s) r.line ∙ ap Some long

-- what is behind the place n, or nothing, where that lies outside
cut-short : (f : List ℕ) (n : ℕ) → option_map (λ k. n + k) (line_end (drop n f)) ≡ option_map (λ k. min (length f) n + k) (line_end (drop (min (length f) n) f))
cut-short f n =
    ⊎_elim (λ h.
    let e : min (length f) n ≡ length f = omega arith in
    ap (λ x. option_map (λ k. n + k) (line_end x)) (drop_all n f (omega arith)) ∙ sym (ap (λ x. option_map (λ k. min (length f) n + k) (line_end x)) (drop_all (min (length f) n) f (omega arith)))) (λ h.
    let e : n ≡ min (length f) n = omega arith in
    ap (λ m. option_map (λ k. m + k) (line_end (drop m f))) e) (cases_lt (length f) n)

-- the first 16 places of all bytes, as the code takes them
module _ (f : List ℕ) (n : ℕ) (o : Option ℕ) (near : n ≡ min (length f) 17) (walked : o ≡ line_end (take n f)) where
  front : o ≡ line_end (take 17 f)
  front =
      let e : n ≡ min 17 (length f) = omega arith in
      walked ∙ ap (λ m. line_end (take m f)) e ∙ ap line_end (take_min 17 f)

  pub front-found : (k : ℕ) → o ≡ Some k → line_end f ≡ Some k
  front-found k e = among-first 17 f k (sym front ∙ e)

  pub front-none : (next : ℕ) → next ≡ min (length f) 16 → o ≡ None → option_map (λ k. next + k) (line_end (drop next f)) ≡ line_end f
  front-none next m e =
      ap (λ x. option_map (λ k. x + k) (line_end (drop x f))) m
      ∙ sym (none-among 16 f (sym front ∙ e) ∙ cut-short f 16)

-- the bytes from a place on, as the code takes them: up to the byte behind 256 places, or all
module _ (f : List ℕ) (place : ℕ) (within : place ≤ length f) where
  pub window : take (min (length f) (place + 256 + 1) - place) (drop place f) ≡ take 257 (drop place f)
  window =
      let e : min (length f) (place + 256 + 1) - place ≡ min 257 (length (drop place f)) = omega (arith, length-drop place f) in
      ap (λ n. take n (drop place f)) e ∙ take_min 257 (drop place f)

  -- what a look at them says
  pub looked : (end : ℕ) (o : Option ℕ) → end ≡ min (length f) (place + 256 + 1) → o ≡ line_end (take (end - place) (drop place f)) → o ≡ line_end (take 257 (drop place f))
  looked end o e h = h ∙ ap (λ n. line_end (take (n - place) (drop place f))) e ∙ ap line_end window

  -- a line's end lies within all bytes
  pub found-fits : (k : ℕ) → Some k ≡ line_end (take 257 (drop place f)) → place + k + 2 ≤ length f
  found-fits k e =
      let w = (first-end (take 257 (drop place f)) k (sym e)).within in
      omega (arith, length-take 257 (drop place f), length-drop place f)

  pub nearby-found : (end : ℕ) → Some end ≡ option_map (λ k. place + k) (line_end (take 257 (drop place f))) → option_map (λ k. place + k) (line_end (drop place f)) ≡ Some end
  nearby-found end e =
      elim (line_end (take 257 (drop place f))) as (λ o. line_end (take 257 (drop place f)) ≡ o → Some end ≡ option_map (λ k. place + k) o → option_map (λ k. place + k) (line_end (drop place f)) ≡ Some end) [
        | None ↦ λ _ h. absurd-none (sym h)
        | Some k ↦ λ d h. ap (option_map (λ k. place + k)) (among-first 257 (drop place f) k d) ∙ sym h
      ]
      refl e

  pub nearby-none : (next : ℕ) → next ≡ min (length f) (place + 256) → None ≡ option_map (λ k. place + k) (line_end (take 257 (drop place f))) → option_map (λ k. next + k) (line_end (drop next f)) ≡ option_map (λ k. place + k) (line_end (drop place f))
  nearby-none next n e =
      let none = mapped-none (λ k. place + k) (line_end (take 257 (drop place f))) (sym e) in
      ap (λ m. option_map (λ k. m + k) (line_end (drop m f))) n
      ∙ sym (ap (option_map (λ k. place + k)) (none-among 256 (drop place f) none)
      ∙ added place 256 (place + 256) refl (line_end (drop 256 (drop place f)))
      ∙ ap (λ x. option_map (λ k. place + 256 + k) (line_end x)) (drop-drop 256 place f)
      ∙ cut-short f (place + 256))
