-- The texts of a block.
use Rattle.std.proofs.Common.{◌≡◌, ℕ, zero, suc, ◌+◌, ◌≤◌, true, ◌&&◌, List, [], ◌∷◌, length, drop, sym, refl, ap, ◌∙◌, arith}
use borrow.Author.Tests.{clash}
use Rattle.std.specs.List.{list_all, range_with_len}
use Rattle.std.proofs.lemmas.Bool.{and_parts}
use Rattle.std.proofs.lemmas.List.{drop-drop}
use Rattle.values.specs.declared.row.ValueRow.{ValueRow}
use Rattle.comparing.specs.Comparing.{same_text, same_texts}

-- equal texts are there
pub texts-within : (n : ℕ) (bytes : List ℕ) (rs : List ValueRow) (others : List ℕ) (ss : List ValueRow) → same_texts n bytes rs others ss ≡ true → (n ≤ length rs) × (n ≤ length ss)
texts-within zero bytes rs others ss e = (omega arith, omega arith)
texts-within (suc n) bytes [] others ss e = absurd (clash e)
texts-within (suc n) bytes (r ∷ rs) others [] e = absurd (clash e)
texts-within (suc n) bytes (r ∷ rs) others (s ∷ ss) e =
    let w = texts-within n bytes rs others ss (and_parts (same_text bytes (r ∷ rs) others (s ∷ ss)) (same_texts n bytes rs others ss) e).1 in
    let x = w.0 in
    let y = w.1 in
    (omega arith, omega arith)

-- the texts from place k on, place by place
pub texts-by-place : (n k : ℕ) (bytes : List ℕ) (rs : List ValueRow) (others : List ℕ) (ss : List ValueRow) → list_all (λ i. same_text bytes (drop i rs) others (drop i ss)) (range_with_len k n) ≡ same_texts n bytes (drop k rs) others (drop k ss)
texts-by-place zero k bytes rs others ss = refl
texts-by-place (suc n) k bytes rs others ss =
    ap (λ t. same_text bytes (drop k rs) others (drop k ss) && t)
    (texts-by-place n (k + 1) bytes rs others ss
    ∙ ap (λ x. same_texts n bytes x others (drop (k + 1) ss)) (sym (drop-drop 1 k rs))
    ∙ ap (same_texts n bytes (drop 1 (drop k rs)) others) (sym (drop-drop 1 k ss)))
