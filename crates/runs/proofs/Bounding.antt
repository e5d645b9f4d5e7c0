-- The first accepted undo tells that the rows are as long as their count; later ones know it.
use Rattle.std.proofs.Common.{◌≡◌, ℕ, ◌+◌, ◌<◌, ◌≤◌, ⊎_elim, arith}
use Rattle.std.proofs.lemmas.Bool.{cases_eq}

pub first-or-later : (undone rows all long : ℕ) → undone + rows ≡ all → rows ≤ long → (0 < undone → all ≤ long) → all ≤ long
first-or-later undone rows all long sum now before = ⊎_elim (λ (z : undone ≡ 0). omega arith) (λ (z : undone ≡ 0 → ⊥). before (omega arith)) (cases_eq undone 0)
