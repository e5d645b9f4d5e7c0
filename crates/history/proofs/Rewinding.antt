-- Undo, called until it is refused, where undo leads back through a list of files.
use Rattle.std.proofs.Common.{◌≡◌, ℕ, List, [], ◌∷◌, length, Ok, Err, Result, sym, refl, ◌∙◌, subst}
use Rattle.basics.specs.declared.refusal.Refusal.{Refusal}
use Rattle.lines.proofs.Steps.{absurd-err, same-err}
use Rattle.lines.proofs.Reasons.{absurd-ok}
use Rattle.changes.specs.States.{State, Contents, used_file, Promise}
use Rattle.changes.specs.Calls.{asked, undoing, draft_refusal}
use Rattle.history.specs.History.{earlier}
use Rattle.history.specs.Runs.{UndoneTo}
use Rattle.history.specs.Law.{LeadsBack, UndoneUntil}

-- it went through every earlier file, to no bytes, and 36 came
pub record AllTheWay (fs gs : List (List ℕ)) (t : State) (e : Refusal) : Type 0 where
  pub files : gs ≡ earlier fs
  pub empty : used_file t ≡ []
  pub reason : e ≡ draft_refusal 36

pub all_the_way : (s t : State) (fs gs : List (List ℕ)) (e : Refusal) → LeadsBack s fs → UndoneTo s gs t → Promise (asked undoing t) t t (Err e) → AllTheWay fs gs t e
all_the_way s t [] gs e back h p = absurd back
all_the_way s t (f ∷ []) [] e back h p =
    let there : LeadsBack t (f ∷ []) = subst (λ x. LeadsBack x (f ∷ [])) h back in
    record { files = refl; empty = there.0; reason = same-err (there.1 t (Err e) p) }
all_the_way s t (f ∷ []) (g ∷ gs) e back h p = absurd-ok (back.1 h.0 (Ok tt) h.1)
all_the_way s t (f ∷ k ∷ fs) [] e back h p =
    let there : LeadsBack t (f ∷ k ∷ fs) = subst (λ x. LeadsBack x (f ∷ k ∷ fs)) h back in
    absurd-err (there t (Err e) p).0
all_the_way s t (f ∷ k ∷ fs) (g ∷ gs) e back h p =
    let one = back h.0 (Ok tt) h.1 in
    let rest = all_the_way h.0 t (k ∷ fs) gs e one.2 h.3 p in
    let same : g ≡ k = sym h.2 ∙ one.1 in
    record { files = (λ i. same i ∷ rest.files i); empty = rest.empty; reason = rest.reason }

-- a refused call leaves the state as it was
refused-same : (o : Result Contents Refusal) (t u : State) (e : Refusal) → Promise o t u (Err e) → u ≡ t
refused-same (Err x) t u e h = h.1
refused-same (Ok c) t u e h = absurd-err h.0

pub until-refused : (s t u : State) (fs : List (List ℕ)) (n : ℕ) (e : Refusal) → UndoneTo s fs t → n ≡ length fs → Promise (asked undoing t) t u (Err e) → UndoneUntil s n u e
until-refused s t u fs n e each count p =
    let same = refused-same (asked undoing t) t u e p in
    subst (λ x. UndoneUntil s n x e) (sym same) (record { files = fs; each = each; count = count; refused = subst (λ x. Promise (asked undoing t) t x (Err e)) same p })
