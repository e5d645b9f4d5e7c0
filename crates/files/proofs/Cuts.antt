-- Laws of cutting bytes into lines.
use Rattle.std.proofs.Common.{◌≡◌, ℕ, zero, suc, ◌+◌, ◌-◌, ◌≤◌, true, false, cond, eqb, List, [], ◌∷◌, ◌++◌, length, take, drop, Some, None, Option, sym, refl, ap, ◌∙◌, subst, append_assoc, arith, length-append, length-drop}
use Rattle.std.proofs.lemmas.List.{drop-drop, take_at, drop_at, length-take-le, take_rest}
use Rattle.std.proofs.lemmas.Bool.{and_parts, and_right, eqb-true, cond-true, cond-false}
use Rattle.std.specs.Option.{option_map}
use Rattle.basics.proofs.ByteLaws.{absurd-none, same_some}
use Rattle.files.specs.Lines.{ends, line_end, onto, lines_of, written, rest_of, Whole, Cutting}

-- what a first CR LF at k says
pub record Ends (k : ℕ) (f : List ℕ) : Type 0 where
  pub within : k + 2 ≤ length f
  pub whole : f ≡ take k f ++ (13 ∷ 10 ∷ drop (k + 2) f)
  pub line : line_end (take k f) ≡ None
  pub cut : lines_of f ≡ take k f ∷ lines_of (drop (k + 2) f)

-- the same with the index in front of the number
record EndsAt (k : ℕ) (f : List ℕ) : Type 0 where
  pub within : suc (suc k) ≤ length f
  pub whole : f ≡ take k f ++ (13 ∷ 10 ∷ drop (suc (suc k)) f)
  pub line : line_end (take k f) ≡ None
  pub cut : lines_of f ≡ take k f ∷ lines_of (drop (suc (suc k)) f)

ends-here : (b c : ℕ) (bs : List ℕ) → ends b c ≡ true → EndsAt 0 (b ∷ c ∷ bs)
ends-here b c bs e =
    let both = and_parts (eqb b 13) (eqb c 10) e in
    let p : b ≡ 13 = eqb-true b 13 both.0 in
    let q : c ≡ 10 = eqb-true c 10 both.1 in
    record { within = omega arith; whole = cc; line = refl; cut = cond-true (ends b c) ([] ∷ lines_of bs) (onto b (lines_of (c ∷ bs))) e }

-- a byte in front of a line has no CR LF with it where it had none with the next byte
front-none : (b c k : ℕ) (bs : List ℕ) → ends b c ≡ false → line_end (take k (c ∷ bs)) ≡ None → line_end (b ∷ take k (c ∷ bs)) ≡ None
front-none b c zero bs e h = refl
front-none b c (suc k) bs e h = cond-false (ends b c) (Some 0) (option_map (λ n. 1 + n) (line_end (c ∷ take k bs))) e ∙ ap (option_map (λ n. 1 + n)) h

ends_next : (b c : ℕ) (bs : List ℕ) (k : ℕ) → ends b c ≡ false → EndsAt k (c ∷ bs) → EndsAt (suc k) (b ∷ c ∷ bs)
ends_next b c bs k e r =
    let w = r.within in
    record {
      within = omega arith;
      whole = ap (λ x. b ∷ x) r.whole;
      line = front-none b c k bs e r.line;
      cut = cond-false (ends b c) ([] ∷ lines_of bs) (onto b (lines_of (c ∷ bs))) e ∙ ap (onto b) r.cut;
    }

ends_at : (f : List ℕ) (k : ℕ) → line_end f ≡ Some k → EndsAt k f
ends_at [] k e = absurd-none e
ends_at (b ∷ []) k e = absurd-none e
ends_at (b ∷ c ∷ bs) k e =
    elim (ends b c) as (λ t. ends b c ≡ t → cond t (Some 0) (option_map (λ n. 1 + n) (line_end (c ∷ bs))) ≡ Some k → EndsAt k (b ∷ c ∷ bs)) [
      | true ↦ λ a h. subst (λ n. EndsAt n (b ∷ c ∷ bs)) (same_some h) (ends-here b c bs a)
      | false ↦ λ a h.
          elim (line_end (c ∷ bs)) as (λ o. line_end (c ∷ bs) ≡ o → option_map (λ n. 1 + n) o ≡ Some k → EndsAt k (b ∷ c ∷ bs)) [
            | None ↦ λ _ i. absurd-none i
            | Some m ↦ λ d i.
                let s : 1 + m ≡ k = same_some i in
                let n : suc m ≡ k = omega arith in
                subst (λ n. EndsAt n (b ∷ c ∷ bs)) n (ends_next b c bs m a (ends_at (c ∷ bs) m d))
          ]
          refl h
    ]
    refl e

pub first-end : (f : List ℕ) (k : ℕ) → line_end f ≡ Some k → Ends k f
first-end f k e =
    let r = ends_at f k e in
    let two : suc (suc k) ≡ k + 2 = omega arith in
    let w = r.within in
    record {
      within = omega arith;
      whole = r.whole ∙ ap (λ n. take k f ++ (13 ∷ 10 ∷ drop n f)) two;
      line = r.line;
      cut = r.cut ∙ ap (λ n. take k f ∷ lines_of (drop n f)) two;
    }

pub no_lines : (f : List ℕ) → line_end f ≡ None → lines_of f ≡ []
no_lines [] e = refl
no_lines (b ∷ []) e = refl
no_lines (b ∷ c ∷ bs) e =
    elim (ends b c) as (λ t. cond t (Some 0) (option_map (λ n. 1 + n) (line_end (c ∷ bs))) ≡ None → cond t ([] ∷ lines_of bs) (onto b (lines_of (c ∷ bs))) ≡ []) [
      | true ↦ λ h. absurd-none (sym h)
      | false ↦ λ h.
          elim (line_end (c ∷ bs)) as (λ o. line_end (c ∷ bs) ≡ o → option_map (λ n. 1 + n) o ≡ None → onto b (lines_of (c ∷ bs)) ≡ []) [
            | None ↦ λ d _. ap (onto b) (no_lines (c ∷ bs) d)
            | Some m ↦ λ _ i. absurd-none (sym i)
          ]
          refl h
    ]
    e

pub all_rest : (f : List ℕ) → line_end f ≡ None → rest_of f ≡ f
all_rest f e = ap (λ ls. drop (length (written ls)) f) (no_lines f e)

-- the first line takes k bytes and its CR LF
pub first-written : (f : List ℕ) (k : ℕ) (ls : List (List ℕ)) → k + 2 ≤ length f → length (written (take k f ∷ ls)) ≡ k + 2 + length (written ls)
first-written f k ls h = omega (arith, length-append (take k f) (13 ∷ 10 ∷ written ls), length-take-le k f (omega arith))

pub next-rest : (f : List ℕ) (k : ℕ) → Ends k f → rest_of f ≡ rest_of (drop (k + 2) f)
next-rest f k r =
    let ls = lines_of (drop (k + 2) f) in
    ap (λ x. drop (length (written x)) f) r.cut
    ∙ ap (λ n. drop n f) (first-written f k ls r.within)
    ∙ sym (drop-drop (length (written ls)) (k + 2) f)

-- what holds where no line ends, and of bytes if it holds behind their first line, holds of all
within : (P : List ℕ → Type 0) → ((f : List ℕ) → line_end f ≡ None → P f) → ((f : List ℕ) (k : ℕ) → Ends k f → P (drop (k + 2) f) → P f) → (n : ℕ) (f : List ℕ) → length f ≤ n → P f
within P none more zero [] h = none [] refl
within P none more zero (b ∷ bs) h = absurd (omega arith)
within P none more (suc n) f h =
    elim (line_end f) as (λ o. line_end f ≡ o → P f) [
      | None ↦ λ e. none f e
      | Some k ↦ λ e.
          let r = first-end f k e in
          let w = r.within in
          more f k r (within P none more n (drop (k + 2) f) (omega (arith, length-drop (k + 2) f)))
    ]
    refl

pub by_lines : (P : List ℕ → Type 0) → ((f : List ℕ) → line_end f ≡ None → P f) → ((f : List ℕ) (k : ℕ) → Ends k f → P (drop (k + 2) f) → P f) → (f : List ℕ) → P f
by_lines P none more f = within P none more (length f) f (omega arith)

-- the lines and the rest are the bytes
pub joined : (f : List ℕ) → f ≡ written (lines_of f) ++ rest_of f
joined =
    by_lines (λ f. f ≡ written (lines_of f) ++ rest_of f)
    (λ f e. sym (ap (λ ls. written ls ++ drop (length (written ls)) f) (no_lines f e)))
    (λ f k r h.
    let rest = drop (k + 2) f in
    r.whole
    ∙ ap (λ x. take k f ++ (13 ∷ 10 ∷ x)) h
    ∙ sym (append_assoc (take k f) (13 ∷ 10 ∷ written (lines_of rest)) (rest_of rest))
    ∙ ap (λ ls. written ls ++ rest_of rest) (sym r.cut)
    ∙ ap (λ x. written (lines_of f) ++ x) (sym (next-rest f k r)))

pub whole-lines : (f : List ℕ) → Whole (lines_of f)
whole-lines =
    by_lines (λ f. Whole (lines_of f))
    (λ f e. subst Whole (sym (no_lines f e)) tt)
    (λ f k r h. subst Whole (sym r.cut) (r.line, h))

pub rest-uncut : (f : List ℕ) → line_end (rest_of f) ≡ None
rest-uncut =
    by_lines (λ f. line_end (rest_of f) ≡ None)
    (λ f e. ap line_end (all_rest f e) ∙ e)
    (λ f k r h. ap line_end (next-rest f k r) ∙ h)

-- no cut between the first two bytes, and none behind
pub uncut-front : (b c : ℕ) (bs : List ℕ) → line_end (b ∷ c ∷ bs) ≡ None → ends b c ≡ false
uncut-front b c bs e =
    elim (ends b c) as (λ t. cond t (Some 0) (option_map (λ n. 1 + n) (line_end (c ∷ bs))) ≡ None → t ≡ false) [ true ↦ λ h. absurd-none (sym h) | false ↦ λ h. refl ] e

pub mapped-none : (g : ℕ → ℕ) (o : Option ℕ) → option_map g o ≡ None → o ≡ None
mapped-none g None e = refl
mapped-none g (Some x) e = absurd-none (sym e)

pub uncut-back : (b c : ℕ) (bs : List ℕ) → line_end (b ∷ c ∷ bs) ≡ None → line_end (c ∷ bs) ≡ None
uncut-back b c bs e =
    mapped-none (λ n. 1 + n) (line_end (c ∷ bs))
    (sym (cond-false (ends b c) (Some 0) (option_map (λ n. 1 + n) (line_end (c ∷ bs))) (uncut-front b c bs e)) ∙ e)

-- a line that has no CR LF ends at the one behind it
pub end-of-line : (l r : List ℕ) → line_end l ≡ None → line_end (l ++ (13 ∷ 10 ∷ r)) ≡ Some (length l)
end-of-line [] r e = refl
end-of-line (b ∷ []) r e =
    cond-false (ends b 13) (Some 0) (option_map (λ n. 1 + n) (line_end (13 ∷ 10 ∷ r))) (and_right (eqb b 13) (eqb 13 10) refl)
end-of-line (b ∷ c ∷ bs) r e =
    let more : 1 + length (c ∷ bs) ≡ length (b ∷ c ∷ bs) = omega arith in
    cond-false (ends b c) (Some 0) (option_map (λ n. 1 + n) (line_end (c ∷ (bs ++ (13 ∷ 10 ∷ r))))) (uncut-front b c bs e)
    ∙ ap (option_map (λ n. 1 + n)) (end-of-line (c ∷ bs) r (uncut-back b c bs e))
    ∙ ap Some more

-- what lines and a rest make is cut into these lines and this rest
pub record Back (ls : List (List ℕ)) (r f : List ℕ) : Type 0 where
  pub lines : ls ≡ lines_of f
  pub rest : r ≡ rest_of f

pub cut-back : (ls : List (List ℕ)) (r : List ℕ) → Whole ls → line_end r ≡ None → Back ls r (written ls ++ r)
cut-back [] r w e = record { lines = sym (no_lines r e); rest = sym (all_rest r e) }
cut-back (l ∷ ls) r w e =
    let f = (l ++ (13 ∷ 10 ∷ written ls)) ++ r in
    let b = cut-back ls r w.1 e in
    let same : f ≡ l ++ (13 ∷ 10 ∷ (written ls ++ r)) = append_assoc l (13 ∷ 10 ∷ written ls) r in
    let ended = first-end f (length l) (ap line_end same ∙ end-of-line l (written ls ++ r) w.0) in
    let front : take (length l) f ≡ l = ap (take (length l)) same ∙ take_at l (13 ∷ 10 ∷ (written ls ++ r)) (length l) refl in
    let back : drop (length l + 2) f ≡ written ls ++ r =
    ap (drop (length l + 2)) same ∙ sym (drop-drop 2 (length l) (l ++ (13 ∷ 10 ∷ (written ls ++ r)))) ∙ ap (drop 2) (drop_at l (13 ∷ 10 ∷ (written ls ++ r)) (length l) refl) in
    record {
      lines = sym (ended.cut ∙ (λ i. front i ∷ lines_of (back i)) ∙ ap (λ x. l ∷ x) (sym b.lines));
      rest = b.rest ∙ sym (next-rest f (length l) ended ∙ ap rest_of back);
    }

pub cutting : (f : List ℕ) → Cutting f
cutting f = record {
  joins = joined f;
  lines = whole-lines f;
  rest = rest-uncut f;
  only = λ ls r e w n. let b = cut-back ls r w n in (b.lines ∙ ap lines_of (sym e), b.rest ∙ ap rest_of (sym e));
}

-- one turn of a loop over the lines, from the place `at`
module _ (f : List ℕ) (at k : ℕ) (e : Some k ≡ line_end (take (length f - at) (drop at f))) where
  pub ends-from : Ends k (drop at f)
  ends-from = first-end (drop at f) k (ap line_end (sym (take_rest f at)) ∙ sym e)

  pub within-from : at ≤ length f → at + (k + 2) ≤ length f
  within-from h = let w = ends-from.within in omega (arith, length-drop at f)

  pub cut-from : lines_of (drop at f) ≡ take k (drop at f) ∷ lines_of (drop (at + (k + 2)) f)
  cut-from = ends-from.cut ∙ ap (λ x. take k (drop at f) ∷ lines_of x) (drop-drop (k + 2) at f)

pub none_from : (f : List ℕ) (at : ℕ) → None ≡ line_end (take (length f - at) (drop at f)) → line_end (drop at f) ≡ None
none_from f at e = ap line_end (sym (take_rest f at)) ∙ sym e
