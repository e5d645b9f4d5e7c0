-- Laws of places: where lines stand in bytes, and what moved bytes come to by lines.
use Rattle.std.proofs.Common.{◌≡◌, ℕ, zero, suc, ◌+◌, ◌-◌, ◌<◌, ◌≤◌, true, false, cond, leb, List, [], ◌∷◌, ◌++◌, length, get_or, take, drop, Some, None, Option, sym, refl, ap, ◌∙◌, append_assoc, arith, length-append, length-drop, take-append-drop}
use Rattle.std.proofs.lemmas.List.{length-take-le, take_at, drop_at, take_more, drop_more, drop-drop}
use Rattle.std.proofs.lemmas.Bool.{and_parts, and_from, and_right, leb-true, leb-false, le-leb, lt-leb, cond-true, cond-false}
use Rattle.basics.proofs.ByteLaws.{absurd-none, same_some}
use Rattle.files.specs.Lines.{line_end, lines_of, rest_of, written, Whole}
use Rattle.files.proofs.Cuts.{joined, whole-lines, rest-uncut, cut-back, ends-from, cut-from, none_from, no_lines, within-from}
use Rattle.changes.specs.declared.places.LinePlace.{LinePlace}
use Rattle.changes.specs.Edits.{ended, has_line, line_of, with_lines, replaced, struck, inserted}
use Rattle.changes.specs.Places.{span, behind_lines, place_of}

pub written-append : (xs ys : List (List ℕ)) → written (xs ++ ys) ≡ written xs ++ written ys
written-append [] ys = refl
written-append (x ∷ xs) ys = ap (λ t. x ++ (13 ∷ 10 ∷ t)) (written-append xs ys) ∙ sym (append_assoc x (13 ∷ 10 ∷ written xs) (written ys))

whole_drop : (m : ℕ) (ls : List (List ℕ)) → Whole ls → Whole (drop m ls)
whole_drop zero ls w = w
whole_drop (suc m) [] w = tt
whole_drop (suc m) (l ∷ ls) w = whole_drop m ls w.1

-- the first m lines, the others, the rest
pub front-lines : (m : ℕ) (f : List ℕ) → f ≡ written (take m (lines_of f)) ++ with_lines (drop m (lines_of f)) f
front-lines m f =
    joined f
    ∙ ap (λ x. written x ++ rest_of f) (sym (take-append-drop m (lines_of f)))
    ∙ ap (λ x. x ++ rest_of f) (written-append (take m (lines_of f)) (drop m (lines_of f)))
    ∙ append_assoc (written (take m (lines_of f))) (written (drop m (lines_of f))) (rest_of f)

pub behind-span : (m : ℕ) (f : List ℕ) → drop (span m f) f ≡ with_lines (drop m (lines_of f)) f
behind-span m f = ap (drop (span m f)) (front-lines m f) ∙ drop_at (written (take m (lines_of f))) (with_lines (drop m (lines_of f)) f) (span m f) refl

pub lines-behind : (m : ℕ) (f : List ℕ) → lines_of (drop (span m f) f) ≡ drop m (lines_of f)
lines-behind m f = ap lines_of (behind-span m f) ∙ sym (cut-back (drop m (lines_of f)) (rest_of f) (whole_drop m (lines_of f) (whole-lines f)) (rest-uncut f)).lines

pub span-within : (m : ℕ) (f : List ℕ) → span m f ≤ length f
span-within m f = omega (arith, ap length (front-lines m f), length-append (written (take m (lines_of f))) (with_lines (drop m (lines_of f)) f))

-- one line more, which ends k bytes behind the first m lines
module _ (m k : ℕ) (f : List ℕ) (e : Some k ≡ line_end (take (length f - span m f) (drop (span m f) f))) where
  more : drop m (lines_of f) ≡ take k (drop (span m f) f) ∷ lines_of (drop (span m f + (k + 2)) f)
  more = sym (lines-behind m f) ∙ cut-from f (span m f) k e

  pub there : m < length (lines_of f)
  there = omega (arith, ap length more, length-drop m (lines_of f))

  pub line-is : get_or (lines_of f) m [] ≡ take k (drop (span m f) f)
  line-is = let a = drop_more (lines_of f) m [] there in let b = more in cc

  pub size_is : length (get_or (lines_of f) m []) ≡ k
  size_is = ap length line-is ∙ length-take-le k (drop (span m f) f) (let w = (ends-from f (span m f) k e).within in omega arith)

  pub span_more : span (m + 1) f ≡ span m f + (k + 2)
  span_more =
      let l = get_or (lines_of f) m [] in
      let n = size_is in
      ap (λ x. length (written x)) (take_more (lines_of f) m [] there)
      ∙ ap length (written-append (take m (lines_of f)) (l ∷ []))
      ∙ omega (arith, length-append (written (take m (lines_of f))) (ended l), length-append l (13 ∷ 10 ∷ []))

  pub inside : span m f + (k + 2) ≤ length f
  inside = within-from f (span m f) k e (span-within m f)

pub none-there : (m : ℕ) (f : List ℕ) → None ≡ line_end (take (length f - span m f) (drop (span m f) f)) → length (lines_of f) ≤ m
none-there m f e =
    omega (arith, ap length (sym (lines-behind m f) ∙ no_lines (drop (span m f) f) (none_from f (span m f) e)), length-drop m (lines_of f))

-- what the search for a place answers
pub behind-there : (m : ℕ) (f : List ℕ) → m ≤ length (lines_of f) → behind_lines m f ≡ Some (span m f)
behind-there m f h = cond-true _ _ _ (le-leb m (length (lines_of f)) h)

pub behind-none : (m : ℕ) (f : List ℕ) → length (lines_of f) < m → behind_lines m f ≡ None
behind-none m f h = cond-false _ _ _ (lt-leb m (length (lines_of f)) h)

pub record BehindAt (m at : ℕ) (f : List ℕ) : Type 0 where
  pub there : m ≤ length (lines_of f)
  pub place : at ≡ span m f

pub behind-some : (m at : ℕ) (f : List ℕ) → Some at ≡ behind_lines m f → BehindAt m at f
behind-some m at f e =
    elim (leb m (length (lines_of f))) as (λ b. leb m (length (lines_of f)) ≡ b → Some at ≡ cond b (Some (span m f)) None → BehindAt m at f) [
      | true ↦ λ t h. record { there = leb-true m (length (lines_of f)) t; place = same_some h }
      | false ↦ λ t h. absurd-none (sym h)
    ]
    refl e

pub behind-not : (m : ℕ) (f : List ℕ) → None ≡ behind_lines m f → length (lines_of f) < m
behind-not m f e =
    elim (leb m (length (lines_of f))) as (λ b. leb m (length (lines_of f)) ≡ b → None ≡ cond b (Some (span m f)) None → length (lines_of f) < m) [
      | true ↦ λ t h. absurd-none h
      | false ↦ λ t h. leb-false m (length (lines_of f)) t
    ]
    refl e

pub has-line : (n : ℕ) (f : List ℕ) → 0 < n → n ≤ length (lines_of f) → has_line n f ≡ true
has-line n f some h = and_from (leb 1 n) (leb n (length (lines_of f))) (le-leb 1 n (omega arith)) (le-leb n (length (lines_of f)) h)

pub no_line : (n : ℕ) (f : List ℕ) → length (lines_of f) < n → has_line n f ≡ false
no_line n f h = and_right (leb 1 n) (leb n (length (lines_of f))) (lt-leb n (length (lines_of f)) h)

pub line-there : (n : ℕ) (f : List ℕ) → has_line n f ≡ true → (0 < n) × (n ≤ length (lines_of f))
line-there n f h =
    let p = and_parts (leb 1 n) (leb n (length (lines_of f))) h in
    let q = leb-true 1 n p.0 in
    (omega arith, leb-true n (length (lines_of f)) p.1)

abbrev found : ℕ → List ℕ → Option LinePlace
found n f = Some (record { at = span (n - 1) f; size = length (line_of n f) })

pub place-there : (n k : ℕ) (f : List ℕ) → 0 < n → Some k ≡ line_end (take (length f - span (n - 1) f) (drop (span (n - 1) f) f)) → place_of n f ≡ Some (record { at = span (n - 1) f; size = k })
place-there n k f some e =
    let t = there (n - 1) k f e in
    cond-true (has_line n f) (found n f) None (has-line n f some (omega arith)) ∙ ap (λ z. Some (record { at = span (n - 1) f; size = z })) (size_is (n - 1) k f e)

pub place_none : (n : ℕ) (f : List ℕ) → length (lines_of f) < n → place_of n f ≡ None
place_none n f h = cond-false (has_line n f) (found n f) None (no_line n f h)

-- what a place that was found says
pub record PlacedAt (n at size : ℕ) (f : List ℕ) : Type 0 where
  pub there : has_line n f ≡ true
  pub place : at ≡ span (n - 1) f
  pub long : size ≡ length (line_of n f)

same_at : (p q : LinePlace) → Some p ≡ Some q → (p.at ≡ q.at) × (p.size ≡ q.size)
same_at p q e = let h = same_some e in (ap (λ x. x.at) h, ap (λ x. x.size) h)

pub place-some : (n : ℕ) (p : LinePlace) (f : List ℕ) → Some p ≡ place_of n f → PlacedAt n p.at p.size f
place-some n p f e =
    elim (has_line n f) as (λ b. has_line n f ≡ b → Some p ≡ cond b (found n f) None → PlacedAt n p.at p.size f) [
      | true ↦ λ t h. let s = same_at p _ h in record { there = t; place = s.0; long = s.1 }
      | false ↦ λ t h. absurd-none (sym h)
    ]
    refl e

pub place-not : (n : ℕ) (f : List ℕ) → None ≡ place_of n f → has_line n f ≡ false
place-not n f e =
    elim (has_line n f) as (λ b. None ≡ cond b (found n f) None → b ≡ false) [ true ↦ λ h. absurd-none h | false ↦ λ h. refl ] e

-- `gone` bytes at `at`, and others in their place
abbrev pub spliced : List ℕ → ℕ → ℕ → List ℕ → List ℕ
spliced f at gone new = take at f ++ (new ++ drop (at + gone) f)

splice-parts : (p m q new : List ℕ) → spliced (p ++ (m ++ q)) (length p) (length m) new ≡ p ++ (new ++ q)
splice-parts p m q new =
    let f = p ++ (m ++ q) in
    let low : take (length p) f ≡ p = take_at p (m ++ q) (length p) refl in
    let high : drop (length p + length m) f ≡ q =
    sym (drop-drop (length m) (length p) f) ∙ ap (drop (length m)) (drop_at p (m ++ q) (length p) refl) ∙ drop_at m q (length m) refl in
    λ i. low i ++ (new ++ high i)

-- around a line that is there
module _ (n : ℕ) (f : List ℕ) (has : has_line n f ≡ true) where
  before : List (List ℕ)
  before = take (n - 1) (lines_of f)

  pub from-line : drop (n - 1) (lines_of f) ≡ line_of n f ∷ drop n (lines_of f)
  from-line =
      let h = line-there n f has in
      let a = h.0 in
      let b = h.1 in
      let one : n - 1 + 1 ≡ n = omega arith in
      drop_more (lines_of f) (n - 1) [] (omega arith) ∙ ap (λ m. line_of n f ∷ drop m (lines_of f)) one

  around : f ≡ written (take (n - 1) (lines_of f)) ++ (line_of n f ++ (13 ∷ 10 ∷ with_lines (drop n (lines_of f)) f))
  around =
      front-lines (n - 1) f
      ∙ ap (λ x. written (take (n - 1) (lines_of f)) ++ with_lines x f) from-line
      ∙ ap (λ x. written (take (n - 1) (lines_of f)) ++ x) (append_assoc (line_of n f) (13 ∷ 10 ∷ written (drop n (lines_of f))) (rest_of f))

  pub line_at : take (length (line_of n f)) (drop (span (n - 1) f) f) ≡ line_of n f
  line_at =
      let q = 13 ∷ 10 ∷ with_lines (drop n (lines_of f)) f in
      ap (λ x. take (length (line_of n f)) (drop (span (n - 1) f) x)) around
      ∙ ap (take (length (line_of n f))) (drop_at (written (take (n - 1) (lines_of f))) (line_of n f ++ q) (span (n - 1) f) refl)
      ∙ take_at (line_of n f) q (length (line_of n f)) refl

  pub line-within : span (n - 1) f + (length (line_of n f) + 2) ≤ length f
  line-within =
      let q = with_lines (drop n (lines_of f)) f in
      omega (arith, ap length around, length-append (written (take (n - 1) (lines_of f))) (line_of n f ++ (13 ∷ 10 ∷ q)), length-append (line_of n f) (13 ∷ 10 ∷ q))

  pub replaced-is : (l : List ℕ) → spliced f (span (n - 1) f) (length (line_of n f)) l ≡ replaced n l f
  unfolding replaced
  replaced-is l =
      let p = written (take (n - 1) (lines_of f)) in
      let d = written (drop n (lines_of f)) in
      ap (λ x. spliced x (length p) (length (line_of n f)) l) around
      ∙ splice-parts p (line_of n f) (13 ∷ 10 ∷ (d ++ rest_of f)) l
      ∙ ap (λ x. p ++ x) (sym (append_assoc l (13 ∷ 10 ∷ d) (rest_of f)))
      ∙ sym (append_assoc p (l ++ (13 ∷ 10 ∷ d)) (rest_of f))
      ∙ ap (λ x. x ++ rest_of f) (sym (written-append (take (n - 1) (lines_of f)) (l ∷ drop n (lines_of f))))

  pub struck-is : spliced f (span (n - 1) f) (length (line_of n f) + 2) [] ≡ struck n f
  unfolding struck
  struck-is =
      let p = written (take (n - 1) (lines_of f)) in
      let d = written (drop n (lines_of f)) in
      let x = line_of n f in
      let two : length x + 2 ≡ length (ended x) = omega (arith, length-append x (13 ∷ 10 ∷ [])) in
      let whole : f ≡ p ++ (ended x ++ (d ++ rest_of f)) = around ∙ ap (λ y. p ++ y) (sym (append_assoc x (13 ∷ 10 ∷ []) (d ++ rest_of f))) in
      (λ i. spliced (whole i) (length p) (two i) [])
      ∙ splice-parts p (ended x) (d ++ rest_of f) []
      ∙ sym (append_assoc p d (rest_of f))
      ∙ ap (λ y. y ++ rest_of f) (sym (written-append (take (n - 1) (lines_of f)) (drop n (lines_of f))))

pub inserted-is : (n : ℕ) (l f : List ℕ) → spliced f (span (n - 1) f) 0 (ended l) ≡ inserted n l f
unfolding inserted
inserted-is n l f =
    let p = written (take (n - 1) (lines_of f)) in
    let d = written (drop (n - 1) (lines_of f)) in
    ap (λ x. spliced x (length p) 0 (ended l)) (front-lines (n - 1) f)
    ∙ splice-parts p [] (d ++ rest_of f) (ended l)
    ∙ ap (λ x. p ++ x) (append_assoc l (13 ∷ 10 ∷ []) (d ++ rest_of f) ∙ sym (append_assoc l (13 ∷ 10 ∷ d) (rest_of f)))
    ∙ sym (append_assoc p (l ++ (13 ∷ 10 ∷ d)) (rest_of f))
    ∙ ap (λ x. x ++ rest_of f) (sym (written-append (take (n - 1) (lines_of f)) (l ∷ drop (n - 1) (lines_of f))))

-- the search for a line end at a place that is known by another number
pub at_place : (f : List ℕ) (at p : ℕ) (o : Option ℕ) → at ≡ p → o ≡ line_end (take (length f - at) (drop at f)) → o ≡ line_end (take (length f - p) (drop p f))
at_place f at p o h e = e ∙ ap (λ q. line_end (take (length f - q) (drop q f))) h
