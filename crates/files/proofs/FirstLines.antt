-- What cutting off the first line says of the lines, of the rest and of the bytes.
use Rattle.std.proofs.Common.{◌≡◌, ℕ, ◌+◌, ◌-◌, List, [], ◌∷◌, ◌++◌, length, take, drop, Some, sym, refl, ap, ◌∙◌, append_assoc, arith, length-append}
use Rattle.std.proofs.lemmas.List.{take_at, drop_at, drop-drop, take_rest}
use Rattle.files.specs.Lines.{line_end, lines_of, written, rest_of, FirstLine}
use Rattle.files.proofs.Cuts.{first-end, end-of-line, next-rest}

-- the line and what is left, as the code cuts them
pub cut-first : (f a b t : List ℕ) (k : ℕ) → line_end f ≡ Some k → a ≡ take k f → b ≡ drop k f → t ≡ take (length b - 2) (drop 2 b) → FirstLine f a t
cut-first f a b t k e p q r =
    let x = first-end f k e in
    let u : t ≡ drop (k + 2) f = r ∙ take_rest b 2 ∙ ap (drop 2) q ∙ drop-drop 2 k f in
    record { whole = x.whole ∙ ap (λ y. y ++ (13 ∷ 10 ∷ drop (k + 2) f)) (sym p) ∙ ap (λ y. a ++ (13 ∷ 10 ∷ y)) (sym u); uncut = ap line_end p ∙ x.line }

module _ (f a t : List ℕ) (h : FirstLine f a t) where
  pub first-at : line_end f ≡ Some (length a)
  first-at = ap line_end h.whole ∙ end-of-line a t h.uncut

  pub front-is : take (length a) f ≡ a
  front-is = ap (take (length a)) h.whole ∙ take_at a (13 ∷ 10 ∷ t) (length a) refl

  pub back-is : drop (length a + 2) f ≡ t
  back-is =
      let two : length (a ++ (13 ∷ 10 ∷ [])) ≡ length a + 2 = length-append a (13 ∷ 10 ∷ []) in
      ap (drop (length a + 2)) (h.whole ∙ sym (append_assoc a (13 ∷ 10 ∷ []) t)) ∙ drop_at (a ++ (13 ∷ 10 ∷ [])) t (length a + 2) two

  pub lines-are : lines_of f ≡ a ∷ lines_of t
  lines-are = (first-end f (length a) first-at).cut ∙ ap (λ x. x ∷ lines_of (drop (length a + 2) f)) front-is ∙ ap (λ x. a ∷ lines_of x) back-is

  pub rest-is : rest_of f ≡ rest_of t
  rest-is = next-rest f (length a) (first-end f (length a) first-at) ∙ ap rest_of back-is

  pub long-is : length f ≡ length a + 2 + length t
  long-is = omega (arith, ap length h.whole, length-append a (13 ∷ 10 ∷ t))

  pub written-is : length (written (lines_of f)) ≡ length a + 2 + length (written (lines_of t))
  written-is = omega (arith, ap (λ ls. length (written ls)) lines-are, length-append a (13 ∷ 10 ∷ written (lines_of t)))
