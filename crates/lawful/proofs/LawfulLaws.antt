-- The words of a lawful layout in std's words.
use Rattle.std.proofs.Common.{◌≡◌, ℕ, ◌+◌, cond, not, ◌&&◌, eqb, List, [], ◌∷◌, sym, refl, ap, ◌∙◌}
use Rattle.std.specs.List.{count_by, list_all, sum_by}
use Rattle.std.proofs.lemmas.List.Sums.{sum_by-cons}
use Rattle.layouts.specs.declared.field.Field.{Field}
use Rattle.layouts.specs.Kinds.{shape, most}
use Rattle.layouts.specs.Layouts.{letter, figured, times, full_width, later}

pub times_is_count : (k : ℕ) (fs : List Field) → times k fs ≡ count_by (λ f. eqb (letter f) k) fs
times_is_count k [] = refl
times_is_count k (f ∷ fs) =
    ap (λ n. cond (eqb (letter f) k) 1 0 + n) (times_is_count k fs) ∙ sym (sum_by-cons (λ g. cond (eqb (letter g) k) 1 0) f fs)

pub later_is_all : (fs : List Field) → later fs ≡ list_all (λ f. not (eqb (letter f) 85) && figured f) fs
later_is_all [] = refl
later_is_all (f ∷ fs) = ap (λ b. not (eqb (letter f) 85) && figured f && b) (later_is_all fs)

pub full_width_is_sum : (fs : List Field) → full_width fs ≡ sum_by (λ f. most (shape f)) fs
full_width_is_sum [] = refl
full_width_is_sum (f ∷ fs) = ap (λ n. most (shape f) + n) (full_width_is_sum fs) ∙ sym (sum_by-cons (λ g. most (shape g)) f fs)
