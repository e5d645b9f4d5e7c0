use Rattle.std.proofs.Common.{◌-◌, ◌<◌, Some, sym, ap, ◌∙◌, arith}
use Rattle.changes.specs.Places.{span}
use Rattle.changes.proofs.PlaceLaws.{at_place, none-there, inside, behind-some, place-there, place_none}
use Rattle.changes.proofs.places.place_of.Goals as goal

pub returns-in_err-size-clause-place : goal.returns-in_err-size-clause-place
returns-in_err-size-clause-place c =
    let f = c.args.bytes.now in
    let q = c.in_ok-checked_sub.field-0 in
    let n = c.in_ok-checked_sub.ensures in
    let b = behind-some q c.in_ok-at.at f (sym (sym c.behind_lines.ensures.place ∙ c.in_ok-at.was)) in
    let few = none-there q f (at_place f c.in_ok-at.at (span q f) _ b.place (sym c.in_err-size.was ∙ c.line_end.ensures)) in
    c.from_residual-in_err-size.ensures ∙ sym (place_none c.args.n f (omega arith))

pub returns : goal.returns
returns c =
    let f = c.args.bytes.now in
    let m = c.args.n - 1 in
    let k = c.in_ok-size.size in
    let n = c.in_ok-checked_sub.ensures in
    let b = behind-some c.in_ok-checked_sub.field-0 c.in_ok-at.at f (sym (sym c.behind_lines.ensures.place ∙ c.in_ok-at.was)) in
    let place = b.place ∙ ap (λ q. span q f) n.1 in
    let e = at_place f c.in_ok-at.at (span m f) _ place (sym c.in_ok-size.was ∙ c.line_end.ensures) in
    let some : 0 < c.args.n = omega arith in
    let w = inside m k f e in
    record { place = ap (λ p. Some (record { at = p; size = k })) place ∙ sym (place-there c.args.n k f some e); inside = omega arith }
