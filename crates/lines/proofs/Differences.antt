-- Where a part is not the expected one.
use Rattle.std.proofs.Common.{◌≡◌, ℕ, ◌+◌, Bool, true, false, not, cond, eqb, List, [], ◌∷◌, ◌++◌, length, Some, Option, sym, refl, ap, ◌∙◌, append_assoc, arith, length-append}
use Rattle.std.proofs.Math.Seq.{get_or-append_seam}
use Rattle.std.proofs.lemmas.Iterator.Adapters.{position_from-zero}
use Rattle.std.specs.List.{zip, position, position_from}
use Rattle.basics.specs.Bytes.{these, first_forbidden}

turned : (t : Bool) (x y : Option ℕ) → cond t x y ≡ cond (not t) y x
turned true x y = refl
turned false x y = refl

-- behind the expected bytes `before`, which were met
difference-from : (before es bs : List ℕ) → length es ≡ length bs → first_forbidden (these (before ++ es)) (length before) bs ≡ position_from (λ p. not (eqb p.0 p.1)) (length before) (zip bs es)
difference-from before [] [] h = refl
difference-from before [] (b ∷ bs) h = absurd (omega arith)
difference-from before (e ∷ es) [] h = absurd (omega arith)
difference-from before (e ∷ es) (b ∷ bs) h =
    let here = get_or-append_seam before e es 0 in
    let on : length (before ++ (e ∷ [])) ≡ length before + 1 = length-append before (e ∷ []) in
    let same : (before ++ (e ∷ [])) ++ es ≡ before ++ (e ∷ es) = append_assoc before (e ∷ []) es in
    let rest = difference-from (before ++ (e ∷ [])) es bs (omega arith) in
    let rest' : first_forbidden (these (before ++ (e ∷ es))) (length before + 1) bs ≡ position_from (λ p. not (eqb p.0 p.1)) (length before + 1) (zip bs es) =
    ap (λ l. first_forbidden (these l) (length before + 1) bs) (sym same)
    ∙ ap (λ n. first_forbidden (these ((before ++ (e ∷ [])) ++ es)) n bs) (sym on)
    ∙ rest
    ∙ ap (λ n. position_from (λ p. not (eqb p.0 p.1)) n (zip bs es)) on
    in
    ap (λ d. cond (eqb b d) (first_forbidden (these (before ++ (e ∷ es))) (length before + 1) bs) (Some (length before))) here
    ∙ ap (λ o. cond (eqb b e) o (Some (length before))) rest'
    ∙ turned (eqb b e) (position_from (λ p. not (eqb p.0 p.1)) (length before + 1) (zip bs es)) (Some (length before))

-- the first byte that may not stand there is the first that is not the expected one
pub difference : (es bs : List ℕ) → length es ≡ length bs → position (λ p. not (eqb p.0 p.1)) (zip bs es) ≡ first_forbidden (these es) 0 bs
difference es bs h = position_from-zero (λ p. not (eqb p.0 p.1)) (zip bs es) ∙ sym (difference-from [] es bs h)
