-- What loading promises of the strips and of the set.
use Rattle.std.proofs.Common.{◌≡◌, ℕ, List, Ok, Err, Result, sym, ap, ◌∙◌, subst}
use Rattle.layouts.specs.declared.field.Field.{Field}
use Rattle.strips.specs.declared.load.LoadError.{LoadError}
use Rattle.strips.specs.declared.load.LoadError.TheVariants.{Refused, NoMemory}
use Rattle.strips.specs.Loads.{read, Tells}
use Rattle.strips.specs.Sets.{Writes, ReadExactly, RefusedRightly}
use Rattle.strips.proofs.Complete.{writes-read}
use Rattle.strips.proofs.Sound.{read-writes}

pub writes-then-read : (s : List ℕ) (ls : List (List Field)) → Writes ls s → read s ≡ Ok ls
writes-then-read s ls w = ap read (sym w.strips) ∙ writes-read ls w.lawful

pub read-exactly : (s : List ℕ) → ReadExactly s
read-exactly s = λ ls. (λ e. read-writes s ls e, λ w. writes-then-read s ls w)

pub refused-rightly : {T : Type 0} (r : Result T LoadError) (e : LoadError) (s : List ℕ) → r ≡ Err e → Tells e (read s) → RefusedRightly r s
refused-rightly {T} r (Refused x) s i h =
    subst (λ q. RefusedRightly q s) (sym i) (λ ls w. let e = writes-then-read s ls w in cc)
refused-rightly {T} r NoMemory s i h = subst (λ q. RefusedRightly q s) (sym i) tt
