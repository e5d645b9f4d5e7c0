-- How many calls of a run were accepted, with one call more.
use Rattle.std.proofs.Common.{◌≡◌, ◌+◌, cond, List, [], ◌∷◌, ◌++◌, is_ok, sym, ap, ◌∙◌, add-zero, add_assoc, zero-add}
use Rattle.history.specs.Runs.{Step, events}
use Rattle.runs.specs.Replays.{accepted_of}

pub accepted-more : (ps : List Step) (p : Step) → accepted_of (events (ps ++ p ∷ [])) ≡ accepted_of (events ps) + cond (is_ok p.answer) 1 0
accepted-more [] p = add-zero (cond (is_ok p.answer) 1 0) ∙ sym (zero-add (cond (is_ok p.answer) 1 0))
accepted-more (q ∷ ps) p = ap (λ n. cond (is_ok q.answer) 1 0 + n) (accepted-more ps p) ∙ sym (add_assoc (cond (is_ok q.answer) 1 0) (accepted_of (events ps)) (cond (is_ok p.answer) 1 0))
