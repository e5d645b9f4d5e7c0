use Rattle.std.proofs.Common.{◌-◌, ◌≤◌, length, drop, take, sym, subst, ◌∙◌, arith}
use Rattle.memchr.specs.Find.{is_byte, IsFirstByte}
use Rattle.files.proofs.Finding.{at-line-end, past-lone-cr, no-cr}
use Rattle.files.proofs.Places.{front-found, front-none}
use Rattle.files.proofs.cut.line_end.Goals as goal

pub returns-in-Some : goal.returns-in-Some
returns-in-Some c = sym (front-found c.args.bytes.now c.min-near.result c.walked_end.result c.min-near.ensures c.walked_end.ensures c.in-Some.k c.in-Some.is)

pub returns-in_err-at : goal.returns-in_err-at
returns-in_err-at c =
    let f = c.args.bytes.now in
    let from = c.min-from.result in
    let short = c.min-from.ensures in
    let within : from ≤ length f = omega arith in
    let none = subst (IsFirstByte (is_byte 13) (take (length f - from) (drop from f))) c.in_err-at.was c.memchr.ensures in
    c.from_residual.ensures
    ∙ sym (no-cr f from within none)
    ∙ front-none f c.min-near.result c.walked_end.result c.min-near.ensures c.walked_end.ensures from short c.in_default.is

pub returns-then-has_lf : goal.returns-then-has_lf
returns-then-has_lf c =
    let f = c.args.bytes.now in
    let from = c.min-from.result in
    let short = c.min-from.ensures in
    let within : from ≤ length f = omega arith in
    let cr = subst (IsFirstByte (is_byte 13) (take (length f - from) (drop from f))) c.in_ok-at.was c.memchr.ensures in
    sym (at-line-end f from within c.in_ok-at.field-0 cr (sym c.has_lf.ensures ∙ c.if-has_lf.true))
    ∙ front-none f c.min-near.result c.walked_end.result c.min-near.ensures c.walked_end.ensures from short c.in_default.is

pub returns : goal.returns
returns c =
    let f = c.args.bytes.now in
    let from = c.min-from.result in
    let short = c.min-from.ensures in
    let within : from ≤ length f = omega arith in
    let cr = subst (IsFirstByte (is_byte 13) (take (length f - from) (drop from f))) c.in_ok-at.was c.memchr.ensures in
    c.end_from.ensures
    ∙ past-lone-cr f from within c.in_ok-at.field-0 cr (sym c.has_lf.ensures ∙ c.if-has_lf.false)
    ∙ front-none f c.min-near.result c.walked_end.result c.min-near.ensures c.walked_end.ensures from short c.in_default.is
