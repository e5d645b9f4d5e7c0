-- How many lines a file has once lines are put at its end, also behind an unended rest.
use Rattle.std.proofs.Common.{◌≡◌, ℕ, ◌+◌, true, false, cond, eqb, List, [], ◌∷◌, ◌++◌, length, Some, None, Ok, Err, sym, refl, ap, ◌∙◌, subst, append_assoc, append-nil, arith, length-append}
use Rattle.std.proofs.lemmas.Bool.{and_parts, and_right, ne_eqb, cond-false, eq-eqb}
use Rattle.std.specs.Option.{option_map}
use Rattle.basics.specs.declared.bytes.ByteClass.TheVariants as class
use Rattle.basics.specs.Bytes.{allowed, all}
use Rattle.basics.specs.Refusals.{refusal}
use Rattle.layouts.specs.declared.field.Field.{Field}
use Rattle.layouts.specs.Layouts.{is_lawful}
use Rattle.lines.specs.Judging.{judged}
use Rattle.lines.proofs.Steps.{absurd-err}
use Rattle.lines.proofs.Judged.{judged-belongs}
use Rattle.lines.proofs.TextOnly.{TextOnly, belongs-text}
use Rattle.files.specs.Lines.{ends, line_end, lines_of, rest_of, written, Whole}
use Rattle.files.specs.Files.{file_judged, FileOf}
use Rattle.files.proofs.Cuts.{joined, whole-lines, rest-uncut, cut-back, uncut-front, uncut-back}
use Rattle.files.proofs.FileLaws.{text-high, text-uncut, accepted-file}
use Rattle.changes.specs.Edits.{ended}
use Rattle.changes.specs.Calls.{delivered}
use Rattle.changes.proofs.PlaceLaws.{written-append}

-- text bytes behind a rest make no line end with it
seam : (r l : List ℕ) → line_end r ≡ None → TextOnly l → line_end (r ++ l) ≡ None
seam [] l e t = text-uncut l t
seam (b ∷ []) [] e t = refl
seam (b ∷ []) (c ∷ cs) e t =
    let p = and_parts (allowed class.Text c) (all (allowed class.Text) cs) t in
    let high = text-high c p.0 in
    let no : eqb c 10 ≡ false = ne_eqb c 10 (λ z. omega arith) in
    cond-false (ends b c) (Some 0) (option_map (λ k. 1 + k) (line_end (c ∷ cs))) (and_right (eqb b 13) (eqb c 10) no) ∙ ap (option_map (λ k. 1 + k)) (text-uncut (c ∷ cs) t)
seam (b ∷ c ∷ bs) l e t =
    cond-false (ends b c) (Some 0) (option_map (λ k. 1 + k) (line_end (c ∷ (bs ++ l)))) (uncut-front b c bs e) ∙ ap (option_map (λ k. 1 + k)) (seam (c ∷ bs) l (uncut-back b c bs e) t)

whole_append : (xs ys : List (List ℕ)) → Whole xs → Whole ys → Whole (xs ++ ys)
whole_append [] ys a b = b
whole_append (x ∷ xs) ys a b = (a.0, whole_append xs ys a.1 b)

-- the first line that is put at the end goes behind the rest
grown : (f l : List ℕ) (ms : List (List ℕ)) → TextOnly l → Whole ms → length (lines_of (f ++ written (l ∷ ms))) ≡ length (lines_of f) + (1 + length ms)
grown f l ms t w =
    let ls = lines_of f in
    let r = rest_of f in
    let joint : f ++ written (l ∷ ms) ≡ written (ls ++ (r ++ l) ∷ ms) ++ [] =
    ap (λ x. x ++ written (l ∷ ms)) (joined f)
    ∙ append_assoc (written ls) r (written (l ∷ ms))
    ∙ ap (λ x. written ls ++ x) (sym (append_assoc r l (13 ∷ 10 ∷ written ms)))
    ∙ sym (written-append ls ((r ++ l) ∷ ms))
    ∙ sym (append-nil (written (ls ++ (r ++ l) ∷ ms))) in
    let cut : ls ++ (r ++ l) ∷ ms ≡ lines_of (written (ls ++ (r ++ l) ∷ ms) ++ []) =
    (cut-back (ls ++ (r ++ l) ∷ ms) [] (whole_append ls ((r ++ l) ∷ ms) (whole-lines f) (seam r l (rest-uncut f) t, w)) refl).lines in
    ap (λ x. length (lines_of x)) joint ∙ ap length (sym cut) ∙ omega (arith, length-append ls ((r ++ l) ∷ ms))

module _ (ls : List (List Field)) (law : is_lawful ls ≡ true) (f : List ℕ) where
  pub grown-by-line : (l : List ℕ) (j : ℕ) → Ok j ≡ judged ls l → length (lines_of (f ++ ended l)) ≡ length (lines_of f) + 1
  grown-by-line l j e = grown f l [] (belongs-text ls j l law (judged-belongs ls l j (sym e))) tt ∙ omega arith

  by-records : (d : List ℕ) (ms : List (List ℕ)) → ms ≡ lines_of d → (length d ≡ 0 → ⊥) → FileOf ls d ms → length (lines_of (f ++ d)) ≡ length (lines_of f) + length ms
  by-records d [] is some h = absurd (some (ap length h.writing))
  by-records d (m ∷ ms) is some h =
      let text = belongs-text ls h.each.0.0 m law h.each.0.1 in
      let whole = subst Whole (sym is) (whole-lines d) in
      ap (λ x. length (lines_of (f ++ x))) h.writing ∙ grown f m ms text whole.1 ∙ omega arith

  pub grown-by-delivery : (d : List ℕ) (n : ℕ) → Ok n ≡ delivered ls d → length (lines_of (f ++ d)) ≡ length (lines_of f) + n
  unfolding delivered
  grown-by-delivery d n e =
      elim (eqb (length d) 0) as (λ b. eqb (length d) 0 ≡ b → Ok n ≡ cond b (Err (refusal 21 3 0 0 0)) (file_judged ls d) → length (lines_of (f ++ d)) ≡ length (lines_of f) + n) [
        | true ↦ λ b h. absurd-err (sym h)
        | false ↦ λ b h.
            let a = accepted-file ls d law n (sym h) in
            let some : length d ≡ 0 → ⊥ = λ z. let clash : true ≡ false = sym (eq-eqb (length d) 0 z) ∙ b in let y : ◌≡◌ {A = ℕ} 0 1 = cc in omega arith in
            by-records d (lines_of d) refl some a.0 ∙ ap (λ m. length (lines_of f) + m) a.1
      ]
      refl e
