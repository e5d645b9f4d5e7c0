-- A file is accepted exactly if it is records with line ends, and refused exactly by the rows of the refusals.
use Rattle.std.proofs.Common.{◌≡◌, ℕ, suc, ◌+◌, ◌≤◌, true, false, cond, eqb, ltb, leb, ◌⊎◌, List, [], ◌∷◌, ◌++◌, length, Some, None, Ok, Err, sym, refl, ap, ◌∙◌, subst, inl, inr, ⊎_elim, append-nil, add-zero, arith}
use Rattle.std.proofs.lemmas.List.{nil_from_length}
use Rattle.std.proofs.lemmas.Bool.{ltb-true, ltb-false, lt-ltb, and_parts, and_left, or_cases, leb-true, ne_eqb, cond-false}
use Rattle.std.specs.Option.{option_map}
use Rattle.basics.specs.declared.bytes.ByteClass.TheVariants as class
use Rattle.basics.specs.declared.refusal.Refusal.{Refusal}
use Rattle.basics.specs.Bytes.{between, allowed, all}
use Rattle.basics.specs.Refusals.{refusal}
use Rattle.layouts.specs.declared.field.Field.{Field}
use Rattle.layouts.specs.Layouts.{is_lawful}
use Rattle.lines.specs.Judging.{and_then, judged}
use Rattle.lines.specs.Refuses.{Refuses}
use Rattle.lines.proofs.Steps.{absurd-err, same_ok, same-err}
use Rattle.lines.proofs.Reasons.{absurd-ok}
use Rattle.lines.proofs.Judged.{judged-belongs, belongs-judged}
use Rattle.lines.proofs.Refused.{judged-refuses, refuses-judged}
use Rattle.lines.proofs.TextOnly.{TextOnly, belongs-text}
use Rattle.files.specs.Lines.{ends, line_end, lines_of, rest_of, written, Whole}
use Rattle.files.specs.Files.{named, at_line, counted, line_by_line, file_judged, Records, FileOf, Unended, TooMany, FileRefused}
use Rattle.files.proofs.Cuts.{joined, cutting}
use Rattle.files.proofs.Counting.{too_many, few}

-- text bytes have no line end
pub text-high : (b : ℕ) → allowed class.Text b ≡ true → 32 ≤ b
text-high b e =
    ⊎_elim (λ h. leb-true 32 b (and_parts (leb 32 b) (leb b 126) h).0)
    (λ h. let l = leb-true 160 b (and_parts (leb 160 b) (leb b 255) h).0 in omega arith)
    (or_cases (between 32 126 b) (between 160 255 b) e)

pub text-uncut : (l : List ℕ) → TextOnly l → line_end l ≡ None
text-uncut [] h = refl
text-uncut (b ∷ []) h = refl
text-uncut (b ∷ c ∷ bs) h =
    let p = and_parts (allowed class.Text b) (all (allowed class.Text) (c ∷ bs)) h in
    let high = text-high b p.0 in
    let no : eqb b 13 ≡ false = ne_eqb b 13 (λ e. omega arith) in
    cond-false (ends b c) (Some 0) (option_map (λ k. 1 + k) (line_end (c ∷ bs))) (and_left (eqb b 13) (eqb c 10) no) ∙ ap (option_map (λ k. 1 + k)) (text-uncut (c ∷ bs) p.1)

pub records-whole : (ls : List (List Field)) (rs : List (List ℕ)) → is_lawful ls ≡ true → Records ls rs → Whole rs
records-whole ls [] law h = tt
records-whole ls (r ∷ rs) law h = (text-uncut r (belongs-text ls h.0.0 r law h.0.1), records-whole ls rs law h.1)

-- the records of a file are its lines, and nothing is left
pub records-are : (ls : List (List Field)) (f : List ℕ) (rs : List (List ℕ)) → is_lawful ls ≡ true → FileOf ls f rs → (rs ≡ lines_of f) × ([] ≡ rest_of f)
records-are ls f rs law h = (cutting f).only rs [] (h.writing ∙ sym (append-nil (written rs))) (records-whole ls rs law h.each) refl

ended-written : (f : List ℕ) → rest_of f ≡ [] → f ≡ written (lines_of f)
ended-written f e = joined f ∙ ap (λ r. written (lines_of f) ++ r) e ∙ append-nil (written (lines_of f))

-- what a count says
pub record Counted (f : List ℕ) (n : ℕ) : Type 0 where
  pub ended : rest_of f ≡ []
  pub few' : length (lines_of f) ≤ 1200
  pub is : n ≡ length (lines_of f)

no-rest : (f : List ℕ) → ltb 0 (length (rest_of f)) ≡ false → rest_of f ≡ []
no-rest f e = nil_from_length (rest_of f) (let h = ltb-false 0 (length (rest_of f)) e in omega arith)

pub counted-ok : (f : List ℕ) (n : ℕ) → counted f ≡ Ok n → Counted f n
counted-ok f n e =
    elim (ltb 0 (length (rest_of f))) as (λ t. ltb 0 (length (rest_of f)) ≡ t → cond t (Err (refusal 22 3 (length (lines_of f) + 1) 0 0)) (cond (ltb 1200 (length (lines_of f))) (Err (refusal 23 3 1201 0 0)) (Ok (length (lines_of f)))) ≡ Ok n → Counted f n) [
      | true ↦ λ t h. absurd-err h
      | false ↦ λ t h.
          elim (ltb 1200 (length (lines_of f))) as (λ s. ltb 1200 (length (lines_of f)) ≡ s → cond s (Err (refusal 23 3 1201 0 0)) (Ok (length (lines_of f))) ≡ Ok n → Counted f n) [
            | true ↦ λ s g. absurd-err g
            | false ↦ λ s g. record { ended = no-rest f t; few' = ltb-false 1200 (length (lines_of f)) s; is = sym (same_ok g) }
          ]
          refl h
    ]
    refl e

pub counted-err : (f : List ℕ) (e : Refusal) → counted f ≡ Err e → Unended f e ⊎ TooMany f e
counted-err f e h =
    elim (ltb 0 (length (rest_of f))) as (λ t. ltb 0 (length (rest_of f)) ≡ t → cond t (Err (refusal 22 3 (length (lines_of f) + 1) 0 0)) (cond (ltb 1200 (length (lines_of f))) (Err (refusal 23 3 1201 0 0)) (Ok (length (lines_of f)))) ≡ Err e → Unended f e ⊎ TooMany f e) [
      | true ↦ λ t g. inl (record { rest = ltb-true 0 (length (rest_of f)) t; is = sym (same-err g) })
      | false ↦ λ t g.
          elim (ltb 1200 (length (lines_of f))) as (λ s. ltb 1200 (length (lines_of f)) ≡ s → cond s (Err (refusal 23 3 1201 0 0)) (Ok (length (lines_of f))) ≡ Err e → Unended f e ⊎ TooMany f e) [
            | true ↦ λ s k. inr (record { ended = no-rest f t; many = ltb-true 1200 (length (lines_of f)) s; is = sym (same-err k) })
            | false ↦ λ s k. absurd-ok k
          ]
          refl g
    ]
    refl h

-- whole lines, as a count has them
whole-count : (f : List ℕ) → rest_of f ≡ [] → length f ≤ length (written (lines_of f))
whole-count f e = omega (arith, ap length (ended-written f e))

-- lines that all pass
lines_ok : (ls : List (List Field)) (n : ℕ) (rs : List (List ℕ)) (c m : ℕ) → line_by_line ls n rs c ≡ Ok m → Records ls rs × (m ≡ c)
lines_ok ls n [] c m e = (tt, sym (same_ok e))
lines_ok ls n (r ∷ rs) c m e =
    elim (judged ls r) as (λ x. judged ls r ≡ x → and_then (at_line n x) (λ j. line_by_line ls (n + 1) rs c) ≡ Ok m → Records ls (r ∷ rs) × (m ≡ c)) [
      | Ok j ↦ λ x h. let rest = lines_ok ls (n + 1) rs c m h in (((j, judged-belongs ls r j x), rest.0), rest.1)
      | Err y ↦ λ x h. absurd-err h
    ]
    refl e

pub ok-lines : (ls : List (List Field)) (n : ℕ) (rs : List (List ℕ)) (c : ℕ) → is_lawful ls ≡ true → Records ls rs → line_by_line ls n rs c ≡ Ok c
ok-lines ls n [] c law h = refl
ok-lines ls n (r ∷ rs) c law h =
    ap (λ x. and_then (at_line n x) (λ j. line_by_line ls (n + 1) rs c)) (belongs-judged ls r h.0.0 law h.0.1) ∙ ok-lines ls (n + 1) rs c law h.1

-- the first line that does not
record BadAt (ls : List (List Field)) (n : ℕ) (rs : List (List ℕ)) (e : Refusal) : Type 0 where
  pub before : List (List ℕ)
  pub line : List ℕ
  pub after : List (List ℕ)
  pub lines : rs ≡ before ++ line ∷ after
  pub good : Records ls before
  pub fault : Refusal
  pub refused : Refuses ls line fault
  pub is : e ≡ named (n + length before) fault

lines-bad : (ls : List (List Field)) (n : ℕ) (rs : List (List ℕ)) (c : ℕ) (e : Refusal) → is_lawful ls ≡ true → line_by_line ls n rs c ≡ Err e → BadAt ls n rs e
lines-bad ls n [] c e law h = absurd-ok h
lines-bad ls n (r ∷ rs) c e law h =
    elim (judged ls r) as (λ x. judged ls r ≡ x → and_then (at_line n x) (λ j. line_by_line ls (n + 1) rs c) ≡ Err e → BadAt ls n (r ∷ rs) e) [
      | Ok j ↦ λ x g.
          let b = lines-bad ls (n + 1) rs c e law g in
          let to : n + 1 + length b.before ≡ n + suc (length b.before) = omega arith in
          record {
            before = r ∷ b.before;
            line = b.line;
            after = b.after;
            lines = ap (λ t. r ∷ t) b.lines;
            good = ((j, judged-belongs ls r j x), b.good);
            fault = b.fault;
            refused = b.refused;
            is = b.is ∙ ap (λ m. named m b.fault) to;
          }
      | Err y ↦ λ x g.
          record {
            before = [];
            line = r;
            after = rs;
            lines = refl;
            good = tt;
            fault = y;
            refused = judged-refuses ls r y law x;
            is = sym (same-err g) ∙ ap (λ m. named m y) (sym (add-zero n));
          }
    ]
    refl h

bad-lines : (ls : List (List Field)) (n : ℕ) (before : List (List ℕ)) (line : List ℕ) (after : List (List ℕ)) (c : ℕ) (x : Refusal) → is_lawful ls ≡ true → Records ls before → Refuses ls line x → line_by_line ls n (before ++ line ∷ after) c ≡ Err (named (n + length before) x)
bad-lines ls n [] line after c x law good r =
    ap (λ y. and_then (at_line n y) (λ j. line_by_line ls (n + 1) after c)) (refuses-judged ls line x law r) ∙ ap (λ m. Err (named m x)) (sym (add-zero n))
bad-lines ls n (b ∷ bs) line after c x law good r =
    let to : n + 1 + length bs ≡ n + suc (length bs) = omega arith in
    ap (λ y. and_then (at_line n y) (λ j. line_by_line ls (n + 1) (bs ++ line ∷ after) c)) (belongs-judged ls b good.0.0 law good.0.1)
    ∙ bad-lines ls (n + 1) bs line after c x law good.1 r
    ∙ ap (λ m. Err (named m x)) to

module _ (ls : List (List Field)) (f : List ℕ) (law : is_lawful ls ≡ true) where
  pub accepted-file : (n : ℕ) → file_judged ls f ≡ Ok n → FileOf ls f (lines_of f) × (length (lines_of f) ≡ n)
  accepted-file n e =
      elim (counted f) as (λ r. counted f ≡ r → and_then r (λ m. line_by_line ls 1 (lines_of f) m) ≡ Ok n → FileOf ls f (lines_of f) × (length (lines_of f) ≡ n)) [
        | Ok m ↦ λ r h.
            let c = counted-ok f m r in
            let l = lines_ok ls 1 (lines_of f) m n h in
            (record { writing = ended-written f c.ended; few = c.few'; each = l.0 }, sym (l.1 ∙ c.is))
        | Err x ↦ λ r h. absurd-err h
      ]
      refl e

  pub file-accepted : (rs : List (List ℕ)) → FileOf ls f rs → file_judged ls f ≡ Ok (length rs)
  file-accepted rs h =
      let same = records-are ls f rs law h in
      let w = whole-count f (sym same.1) in
      let m = subst (λ x. length x ≤ 1200) same.0 h.few in
      ap (λ r. and_then r (λ m. line_by_line ls 1 (lines_of f) m)) (few f w m)
      ∙ ok-lines ls 1 (lines_of f) (length (lines_of f)) law (subst (Records ls) same.0 h.each)
      ∙ ap (λ x. Ok (length x)) (sym same.0)

  pub one-file : (rs ks : List (List ℕ)) → FileOf ls f rs → FileOf ls f ks → rs ≡ ks
  one-file rs ks a b = (records-are ls f rs law a).0 ∙ sym (records-are ls f ks law b).0

  pub refused-file : (e : Refusal) → file_judged ls f ≡ Err e → FileRefused ls f e
  refused-file e h =
      elim (counted f) as (λ r. counted f ≡ r → and_then r (λ m. line_by_line ls 1 (lines_of f) m) ≡ Err e → FileRefused ls f e) [
        | Ok m ↦ λ r g.
            let c = counted-ok f m r in
            let b = lines-bad ls 1 (lines_of f) m e law g in
            inr (inr (record {
              ended = c.ended;
              few = c.few';
              before = b.before;
              line = b.line;
              after = b.after;
              lines = b.lines;
              good = b.good;
              fault = b.fault;
              refused = b.refused;
              is = b.is;
            }))
        | Err x ↦ λ r g. ⊎_elim inl (λ t. inr (inl t)) (counted-err f e (r ∙ g))
      ]
      refl h

  pub file-refused : (e : Refusal) → FileRefused ls f e → file_judged ls f ≡ Err e
  file-refused e (inl h) =
      ap (λ r. and_then r (λ m. line_by_line ls 1 (lines_of f) m)) (ap (λ t. cond t (Err (refusal 22 3 (length (lines_of f) + 1) 0 0)) (cond (ltb 1200 (length (lines_of f))) (Err (refusal 23 3 1201 0 0)) (Ok (length (lines_of f))))) (lt-ltb 0 (length (rest_of f)) h.rest)) ∙ ap Err (sym h.is)
  file-refused e (inr (inl h)) =
      ap (λ r. and_then r (λ m. line_by_line ls 1 (lines_of f) m)) (too_many f (whole-count f h.ended) h.many) ∙ ap Err (sym h.is)
  file-refused e (inr (inr h)) =
      ap (λ r. and_then r (λ m. line_by_line ls 1 (lines_of f) m)) (few f (whole-count f h.ended) h.few)
      ∙ ap (λ x. line_by_line ls 1 x (length (lines_of f))) h.lines
      ∙ bad-lines ls 1 h.before h.line h.after (length (lines_of f)) h.fault law h.good h.refused
      ∙ ap Err (sym h.is)
