-- The law over runs, and what is found where undo is called until it is refused.
use Rattle.std.proofs.Common.{◌≡◌, ℕ, ◌+◌, ◌-◌, true, List, [], ◌∷◌, ◌++◌, length, take, Ok, Err, sym, refl, ap, ◌∙◌, subst, arith}
use Rattle.std.proofs.lemmas.Bool.{cond-true}
use Rattle.basics.specs.declared.refusal.Refusal.{Refusal}
use Rattle.basics.specs.Refusals.{refusal}
use Rattle.basics.specs.Money.{is_currency}
use Rattle.layouts.specs.declared.field.Field.{Field}
use Rattle.layouts.specs.Layouts.{is_lawful}
use Rattle.lines.specs.Judging.{and_then}
use Rattle.files.specs.Lines.{lines_of}
use Rattle.files.specs.Files.{FileOf}
use Rattle.files.specs.Totals.{sum_of, summed, total_of}
use Rattle.files.proofs.FileLaws.{file-accepted}
use Rattle.changes.specs.States.{State, within, contents, used_file, Promise}
use Rattle.changes.specs.Calls.{asked, undoing}
use Rattle.changes.proofs.CallLaws.{is_within}
use Rattle.history.specs.Acts.{Event}
use Rattle.history.specs.History.{history}
use Rattle.history.specs.Accounts.{no_money, account}
use Rattle.history.specs.Runs.{called, Step, events, New, Run, UndoneTo}
use Rattle.history.specs.Law.{OneWriting, Balanced, Law, UndoneUntil, UndoesEveryStandingChange}
use Rattle.history.proofs.Editing.{lines_are}
use Rattle.history.proofs.Chain.{chain-holds, chain_back}
use Rattle.history.proofs.Running.{Kept, kept_on}
use Rattle.history.proofs.Rewinding.{all_the_way}

-- a file of records is the writing of its lines and of no other records
one-writing : (ls : List (List Field)) (law : is_lawful ls ≡ true) (f : List ℕ) → FileOf ls f (lines_of f) → OneWriting ls f
one-writing ls law f file = record { records = lines_of f; file = file; only = λ others each e. sym (lines_are ls law f others e each) }

-- its total is the sum of its lines
total-is : (ls : List (List Field)) (law : is_lawful ls ≡ true) (f currency : List ℕ) → FileOf ls f (lines_of f) → is_currency currency ≡ true → total_of ls f currency ≡ Ok (sum_of ls currency (lines_of f))
total-is ls law f currency file e =
    cond-true (is_currency currency) (summed ls f currency) (Err (refusal 39 3 0 0 0)) e
    ∙ ap (λ r. and_then r (λ n. Ok (sum_of ls currency (lines_of f)))) (file-accepted ls f law (lines_of f) file)

-- so a sum that balances is what `total` answers
balanced : (ls : List (List Field)) (law : is_lawful ls ≡ true) (es : List Event) (f : List ℕ) → FileOf ls f (lines_of f) → ((currency : List ℕ) → sum_of ls currency (lines_of f) + (account ls currency es).taken ≡ (account ls currency es).brought) → Balanced ls es f
balanced ls law es f file amounts =
    let less : (currency : List ℕ) → sum_of ls currency (lines_of f) ≡ (account ls currency es).brought - (account ls currency es).taken = λ currency. omega (arith, amounts currency) in
    record { amounts = amounts; total = λ currency e. total-is ls law f currency file e ∙ ap Ok (less currency) }

-- a new draft
new-within : (s : State) → New s → within s ≡ true
new-within s new = is_within s (omega (arith, new.0)) (omega (arith, new.1)) (omega (arith, new.2))

new-kept : (ls : List (List Field)) (currency : List ℕ) (s : State) → New s → Kept ls currency (contents s) ([] ∷ []) no_money
new-kept ls currency s new =
    let none : used_file s ≡ [] = ap (λ n. take n s.file) new.0 in
    let no_rows : length (take s.rowsUsed s.rows) ≡ 0 = ap (λ n. length (take n s.rows)) new.1 in
    let empty : FileOf ls [] (lines_of []) = record { writing = refl; few = omega arith; each = tt } in
    record {
      chain = (record { is = none; records = subst (λ f. FileOf ls f (lines_of f)) (sym none) empty; room = omega (arith, ap length none) }, no_rows, refl);
      books = record { balance = refl; changes = tt };
    }

-- the law holds of every run from a new draft
pub law : (ls : List (List Field)) → is_lawful ls ≡ true → (s t : State) (ps : List Step) → New s → Run ls s ps t → Law ls ps t
law ls ok s t ps new run =
    let end = λ (currency : List ℕ). kept_on ls ok currency ps s t ([] ∷ []) no_money (new-within s new) (new-kept ls currency s new) run in
    let files = history (events ps) in
    let h = chain-holds ls (contents t) files (end []).1.chain in
    let moved = λ (currency : List ℕ). ap (λ f. sum_of ls currency (lines_of f) + (account ls currency (events ps)).taken) h.is ∙ (end currency).1.books.balance in
    record {
      last = h.is;
      writing = one-writing ls ok (used_file t) h.records;
      balance = balanced ls ok (events ps) (used_file t) h.records moved;
      back = chain_back ls t files (end []).0 (end []).1.chain;
    }

-- one call more
pub run_more : (ls : List (List Field)) (s t u : State) (ps : List Step) (p : Step) → Run ls s ps t → Promise (asked (called ls p.act) t) t u p.answer → Run ls s (ps ++ p ∷ []) u
run_more ls s t u [] p run h = subst (λ x. (y : State) × Promise (asked (called ls p.act) x) x y p.answer × (y ≡ u)) (sym run) (u, h, refl)
run_more ls s t u (x ∷ ps) p run h = (run.0, run.1, run_more ls run.0 t u ps p run.2 h)

-- one undo more
pub undone-more : (s t u : State) (fs : List (List ℕ)) → UndoneTo s fs t → Promise (asked undoing t) t u (Ok tt) → UndoneTo s (fs ++ used_file u ∷ []) u
undone-more s t u [] h p = subst (λ x. (y : State) × Promise (asked undoing x) x y (Ok tt) × (used_file y ≡ used_file u) × (y ≡ u)) (sym h) (u, p, refl, refl)
undone-more s t u (f ∷ fs) h p = (h.0, h.1, h.2, undone-more h.0 t u fs h.3 p)

-- undo until it is refused takes every change back that stands
pub rewound : (s t : State) (n : ℕ) (e : Refusal) → UndoneUntil s n t e → UndoesEveryStandingChange s n t e
rewound s t n e until ls ok r ps new run =
    let w = all_the_way s t (history (events ps)) until.files e (law ls ok r s ps new run).back until.each until.refused in
    record {
      each = subst (λ fs. UndoneTo s fs t) w.files until.each;
      count = until.count ∙ ap length w.files;
      empty = w.empty;
      nothingLeft = w.reason;
    }
