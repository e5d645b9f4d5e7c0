-- Laws of rows put over others.
use Rattle.std.proofs.Common.{◌≡◌, ℕ, suc, ◌+◌, List, [], ◌∷◌, ◌++◌, length, set, sym, refl, ap, ◌∙◌, add-zero, arith}
use Rattle.reports.specs.declared.fault_row.FaultRow.{FaultRow}
use Rattle.reports.specs.Surveys.{laid, laid_over}

pub laid-append : (rows : List FaultRow) (i : ℕ) (xs ys : List FaultRow) → laid rows i (xs ++ ys) ≡ laid (laid rows i xs) (i + length xs) ys
laid-append rows i [] ys = ap (λ n. laid rows n ys) (sym (add-zero i))
laid-append rows i (x ∷ xs) ys =
    let n : i + 1 + length xs ≡ i + suc (length xs) = omega arith in
    laid-append (set rows i x) (i + 1) xs ys ∙ ap (λ m. laid (laid (set rows i x) (i + 1) xs) m ys) n

laid_none : (i : ℕ) (xs : List FaultRow) → laid [] i xs ≡ []
laid_none i [] = refl
laid_none i (x ∷ xs) = laid_none (i + 1) xs

laid-behind : (r : FaultRow) (rows : List FaultRow) (i : ℕ) (xs : List FaultRow) → laid (r ∷ rows) (suc i) xs ≡ r ∷ laid rows i xs
laid-behind r rows i [] = refl
laid-behind r rows i (x ∷ xs) =
    let n : suc i + 1 ≡ suc (i + 1) = omega arith in
    ap (λ m. laid (r ∷ set rows i x) m xs) n ∙ laid-behind r (set rows i x) (i + 1) xs

pub laid-over : (rows xs : List FaultRow) → laid rows 0 xs ≡ laid_over rows xs
laid-over [] [] = refl
laid-over [] (x ∷ xs) = laid_none 1 xs
laid-over (r ∷ rows) [] = refl
laid-over (r ∷ rows) (x ∷ xs) = laid-behind x rows 0 xs ∙ ap (λ ys. x ∷ ys) (laid-over rows xs)
