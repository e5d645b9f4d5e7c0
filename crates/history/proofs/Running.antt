-- Along a run: after each call the draft's contents stand in the chain of the history, and the books balance.
use Rattle.std.proofs.Common.{◌≡◌, ℕ, true, cond, List, [], ◌∷◌, is_ok, Ok, Err, Result, sym, refl, ◌∙◌, subst}
use Rattle.basics.specs.declared.refusal.Refusal.{Refusal}
use Rattle.layouts.specs.declared.field.Field.{Field}
use Rattle.layouts.specs.Layouts.{is_lawful}
use Rattle.lines.proofs.Steps.{absurd-err, same_ok}
use Rattle.changes.specs.States.{State, Contents, within, contents, Promise}
use Rattle.changes.proofs.UndoLaws.{undo-none}
use Rattle.history.specs.Acts.{Act, imports, adds, replaces, strikes, undoes}
use Rattle.history.specs.History.{entered, history_from, last_file}
use Rattle.history.specs.Accounts.{Account, moved_by, booked, posted, account_from}
use Rattle.history.specs.Runs.{called, Step, events, Run}
use Rattle.history.proofs.Changing.{new_file, Changes, imported, added, put_in_place, taken_out}
use Rattle.history.proofs.Chain.{Chain, chain-holds, chain_more, call-on}
use Rattle.history.proofs.Accounting.{Moves, Books, books-more, books-back}

-- what is known of a draft's contents beside its history and its account
pub record Kept (ls : List (List Field)) (currency : List ℕ) (c : Contents) (fs : List (List ℕ)) (a : Account) : Type 0 where
  pub chain : Chain ls c fs
  pub books : Books ls currency fs a

module _ (ls : List (List Field)) (law : is_lawful ls ≡ true) (currency : List ℕ) where
  by-change : (x : Act) (c d : Contents) (f : List ℕ) (fs : List (List ℕ)) (a : Account) → Changes ls x c d → Kept ls currency c (f ∷ fs) a → Kept ls currency d (new_file x f ∷ f ∷ fs) (booked (moved_by ls currency x f) a)
  by-change x c d f fs a m k =
      let is : c.file ≡ f = (chain-holds ls c (f ∷ fs) k.chain).is in
      let now : d.file ≡ new_file x c.file = m.file in
      let step : Moves ls currency (moved_by ls currency x f) f (new_file x f) =
      subst (λ y. Moves ls currency (moved_by ls currency x y) y (new_file x y)) is (subst (λ y. Moves ls currency (moved_by ls currency x c.file) c.file y) now (m.sum currency)) in
      record { chain = chain_more ls x c d f fs m k.chain; books = books-more ls currency (moved_by ls currency x f) a f (new_file x f) fs step k.books }

  accepted : (x : Act) (c d : Contents) (fs : List (List ℕ)) (a : Account) → called ls x c ≡ Ok d → Kept ls currency c fs a → Kept ls currency d (entered x fs) (posted ls currency x (last_file fs) a)
  accepted x c d [] a e k = absurd k.chain
  accepted (imports more) c d (f ∷ fs) a e k =
      let h = chain-holds ls c (f ∷ fs) k.chain in
      by-change (imports more) c d f fs a (imported ls law c d h.records h.room more e) k
  accepted (adds l) c d (f ∷ fs) a e k =
      let h = chain-holds ls c (f ∷ fs) k.chain in
      by-change (adds l) c d f fs a (added ls law c d h.records h.room l e) k
  accepted (replaces n l) c d (f ∷ fs) a e k =
      let h = chain-holds ls c (f ∷ fs) k.chain in
      by-change (replaces n l) c d f fs a (put_in_place ls law c d h.records h.room n l e) k
  accepted (strikes n) c d (f ∷ fs) a e k =
      let h = chain-holds ls c (f ∷ fs) k.chain in
      by-change (strikes n) c d f fs a (taken_out ls law c d h.records h.room n e) k
  accepted undoes c d (f ∷ []) a e k = absurd-err (sym (undo-none c k.chain.1) ∙ e)
  accepted undoes c d (f ∷ g ∷ fs) a e k =
      let next = k.chain.1 in
      record {
        chain = subst (λ x. Chain ls x (g ∷ fs)) (same_ok (sym next.1 ∙ e)) next.2;
        books = books-back ls currency a.brought a.taken a.standing f g fs k.books.balance k.books.changes;
      }

  -- a call, accepted or refused
  by_answer : (x : Act) (s t : State) (answer : Result (Unit {0}) Refusal) (fs : List (List ℕ)) (a : Account) (o : Result Contents Refusal) → called ls x (contents s) ≡ o → within s ≡ true → Kept ls currency (contents s) fs a → Promise o s t answer
      → (within t ≡ true) × Kept ls currency (contents t) (cond (is_ok answer) (entered x fs) fs) (cond (is_ok answer) (posted ls currency x (last_file fs) a) a)
  by_answer x s t answer fs a (Err e) is ok k p =
      subst (λ r. (within t ≡ true) × Kept ls currency (contents t) (cond (is_ok r) (entered x fs) fs) (cond (is_ok r) (posted ls currency x (last_file fs) a) a)) (sym p.0)
      (subst (λ u. (within u ≡ true) × Kept ls currency (contents u) fs a) (sym p.1) (ok, k))
  by_answer x s t answer fs a (Ok d) is ok k p =
      subst (λ r. (within t ≡ true) × Kept ls currency (contents t) (cond (is_ok r) (entered x fs) fs) (cond (is_ok r) (posted ls currency x (last_file fs) a) a)) (sym p.0)
      (p.2, subst (λ c. Kept ls currency c (entered x fs) (posted ls currency x (last_file fs) a)) (sym p.1) (accepted x (contents s) d fs a is k))

  pub kept_on : (ps : List Step) (s t : State) (fs : List (List ℕ)) (a : Account) → within s ≡ true → Kept ls currency (contents s) fs a → Run ls s ps t
      → (within t ≡ true) × Kept ls currency (contents t) (history_from fs (events ps)) (account_from ls currency fs a (events ps))
  kept_on [] s t fs a ok k p = subst (λ u. (within u ≡ true) × Kept ls currency (contents u) fs a) p (ok, k)
  kept_on (x ∷ ps) s t fs a ok k p =
      let call = called ls x.act in
      let next = by_answer x.act s p.0 x.answer fs a (call (contents s)) refl ok k (call-on call s p.0 x.answer ok p.1) in
      kept_on ps p.0 t _ _ next.0 next.1 p.2
