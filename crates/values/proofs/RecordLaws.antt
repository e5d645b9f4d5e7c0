-- The laws of a record: read and written, it is the same; what is written is a record of the set.
use Rattle.std.proofs.Common.{◌≡◌, ℕ, suc, ◌+◌, ◌-◌, true, List, [], ◌∷◌, Some, None, Ok, Option, sym, refl, ap, ◌∙◌, subst, append-nil, arith}
use Rattle.basics.specs.declared.refusal.Refusal.{Refusal}
use Rattle.layouts.specs.declared.field.Field.{Field}
use Rattle.layouts.specs.Layouts.{place, or_empty, is_lawful, digits_of}
use Rattle.layouts.proofs.Laws.{lawful-layouts}
use Rattle.lines.specs.Judging.{found}
use Rattle.lines.specs.Belongs.{Follows}
use Rattle.lines.proofs.Steps.{absurd-err, same_ok}
use Rattle.lines.proofs.Names.{positive, found_at, found-has}
use Rattle.values.specs.declared.row.ValueRow.{ValueRow}
use Rattle.values.specs.Values.{Value, cuts, values_in, values_of}
use Rattle.values.specs.Rows.{rows_in, rows_of, ShowsThen, ShowsAll}
use Rattle.values.specs.Writing.{Step, done, refused, field_steps, finished, line_of, line_by, line_for}
use Rattle.values.specs.Records.{IsRecord, ShowsRecord}
use Rattle.values.proofs.FieldLaws.{cuts_are, writes-parts, reads-parts, shows-parts}

-- the parts of a line are its cuts
pub cut-follows : (fs : List Field) (line : List ℕ) (h : Follows fs line) → cuts fs line ≡ h.parts
cut-follows fs line h = ap (cuts fs) (sym h.whole) ∙ cuts_are fs h.parts h.each

-- the rows of a line show its values
pub rows-show : (fs : List Field) (line : List ℕ) → Follows fs line → ShowsAll line (rows_of fs line) (values_of fs line)
rows-show fs line h =
    let s = shows-parts fs h.parts line 0 h.each (sym h.whole) (omega arith) in
    subst (λ ss. ShowsAll line (rows_in fs 0 ss) (values_in fs ss)) (sym (cut-follows fs line h)) (subst (λ x. ShowsThen line x (values_in fs h.parts) []) (append-nil (rows_in fs 0 h.parts)) s)

-- rows that show the values of a line are written as that line
pub writes_line : (fs : List Field) (line bytes : List ℕ) (rs : List ValueRow) → Follows fs line → ShowsAll bytes rs (values_of fs line) → line_of fs bytes rs ≡ Ok line
writes_line fs line bytes rs h d =
    let e = writes-parts 1 fs h.parts bytes rs [] h.each (subst (λ ss. ShowsAll bytes rs (values_in fs ss)) (cut-follows fs line h) d) in
    ap finished e ∙ ap Ok h.whole

record Ended (fs : List Field) (bytes : List ℕ) (rs : List ValueRow) (s : List ℕ) : Type 0 where
  follows : Follows fs s
  shown : ShowsAll bytes rs (values_of fs s)

finished-ok : (x : Step Refusal) (s : List ℕ) → finished x ≡ Ok s → x ≡ done s []
finished-ok (done t []) s e = let p : t ≡ s = same_ok e in ap (λ y. done y []) p
finished-ok (done t (r ∷ rs)) s e = absurd-err e
finished-ok (refused x) s e = absurd-err e

-- what is written follows the layout, and the rows show its values
reads-line : (fs : List Field) (s bytes : List ℕ) (rs : List ValueRow) → line_of fs bytes rs ≡ Ok s → Ended fs bytes rs s
reads-line fs s bytes rs e =
    let p = reads-parts 1 fs s bytes rs [] (finished-ok (field_steps 1 fs bytes rs) s e) in
    let f : Follows fs s = record { parts = p.parts; each = p.each; whole = p.whole } in
    record { follows = f; shown = subst (λ ss. ShowsAll bytes rs (values_in fs ss)) (sym (cut-follows fs s f)) p.shown }

-- the same of a record of a set
pub writes-record : (ls : List (List Field)) (n : ℕ) (bytes : List ℕ) (rs : List ValueRow) (line : List ℕ) → is_lawful ls ≡ true → ShowsRecord ls n bytes rs line → line_for ls n bytes rs ≡ Ok line
writes-record ls n bytes rs line law h =
    let i = h.is in
    let j = i.number in
    let l = i.layout in
    let one = positive ls j l i.at in
    let to : 1 + (j - 1) ≡ j = omega arith in
    ap (λ o. line_by ls o bytes rs) (found_at ls j 1 l n (lawful-layouts ls law) i.at i.has ∙ ap Some to)
    ∙ ap (λ o. line_of (or_empty o) bytes rs) i.at
    ∙ writes_line l line bytes rs i.follows (subst (ShowsAll bytes rs) (sym i.values) h.shown)

by-found : (ls : List (List Field)) (n : ℕ) (bytes : List ℕ) (rs : List ValueRow) (s : List ℕ) (o : Option ℕ) → found ls 1 n ≡ o → line_by ls o bytes rs ≡ Ok s → ShowsRecord ls n bytes rs s
by-found ls n bytes rs s None f e = absurd-err e
by-found ls n bytes rs s (Some j) f e =
    let r = found-has ls 1 n j f in
    let to : suc r.far ≡ j = let q = r.is in omega arith in
    let at : place ls j ≡ Some r.layout = ap (place ls) (sym to) ∙ r.at in
    let x = reads-line r.layout s bytes rs (ap (λ o. line_of (or_empty o) bytes rs) (sym at) ∙ e) in
    record {
      values = values_of r.layout s;
      is = record { number = j; layout = r.layout; at = at; has = r.has; follows = x.follows; values = refl };
      shown = x.shown;
    }

pub reads-record : (ls : List (List Field)) (n : ℕ) (bytes : List ℕ) (rs : List ValueRow) (s : List ℕ) → line_for ls n bytes rs ≡ Ok s → ShowsRecord ls n bytes rs s
reads-record ls n bytes rs s e = by-found ls n bytes rs s (found ls 1 n) refl e

-- a record's own rows show it
pub rows-record : (ls : List (List Field)) (j n : ℕ) (l : List Field) (line : List ℕ) → place ls j ≡ Some l → digits_of l ≡ Some n → Follows l line → ShowsRecord ls n line (rows_of l line) line
rows-record ls j n l line at has f =
    record { values = values_of l line; is = record { number = j; layout = l; at = at; has = has; follows = f; values = refl }; shown = rows-show l line f }

-- records of the same digits and the same values are the same line
pub values-tell : (ls : List (List Field)) (n : ℕ) (vs : List Value) (s t : List ℕ) → is_lawful ls ≡ true → IsRecord ls n vs s → IsRecord ls n vs t → s ≡ t
values-tell ls n vs s t law a b =
    let l = a.layout in
    let d : ShowsAll s (rows_of l s) vs = subst (ShowsAll s (rows_of l s)) a.values (rows-show l s a.follows) in
    same_ok
    (sym (writes-record ls n s (rows_of l s) s law (record { values = vs; is = a; shown = d }))
    ∙ writes-record ls n s (rows_of l s) t law (record { values = vs; is = b; shown = d }))
