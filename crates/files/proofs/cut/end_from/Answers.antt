use Rattle.std.proofs.Common.{◌+◌, sym, ◌∙◌, arith}
use Rattle.files.proofs.Finding.{cr-within, at-line-end, past-lone-cr, no-cr}
use Rattle.files.proofs.Places.{nearby-found, nearby-none}
use Rattle.files.proofs.cut.end_from.Goals as goal

pub returns-then-has_lf : goal.returns-then-has_lf
returns-then-has_lf c = sym (at-line-end c.args.bytes.now c.loop-k.from c.loop-k.invariant.within c.in-Some.k c.in-Some.ensures (sym c.has_lf.ensures ∙ c.if-has_lf.true)) ∙ c.loop-k.invariant.same

pub returns-in-Some-end_nearby : goal.returns-in-Some-end_nearby
returns-in-Some-end_nearby c =
    let f = c.args.bytes.now in
    let from = c.loop-k.from in
    let k = c.in-Some.k in
    let known = c.loop-k.invariant in
    sym (nearby-found f (from + k + 1) (cr-within f from known.within k c.in-Some.ensures) c.in-Some-end_nearby.end (sym c.in-Some-end_nearby.is ∙ c.end_nearby.ensures))
    ∙ past-lone-cr f from known.within k c.in-Some.ensures (sym c.has_lf.ensures ∙ c.if-has_lf.false)
    ∙ known.same

pub loop-k-preserved-then-k-lt-NEAR : goal.loop-k-preserved-then-k-lt-NEAR
loop-k-preserved-then-k-lt-NEAR c =
    let f = c.args.bytes.now in
    let from = c.loop-k.from in
    let k = c.in-Some.k in
    let known = c.loop-k.invariant in
    let short = c.min-from.ensures in
    record {
      within = omega arith;
      same =
          nearby-none f (from + k + 1) (cr-within f from known.within k c.in-Some.ensures) c.min-from.result c.min-from.ensures (sym c.in_default-end_nearby.is ∙ c.end_nearby.ensures)
          ∙ past-lone-cr f from known.within k c.in-Some.ensures (sym c.has_lf.ensures ∙ c.if-has_lf.false)
          ∙ known.same;
    }

pub loop-k-preserved : goal.loop-k-preserved
loop-k-preserved c = record {
  within = cr-within c.args.bytes.now c.loop-k.from c.loop-k.invariant.within c.in-Some.k c.in-Some.ensures;
  same = past-lone-cr c.args.bytes.now c.loop-k.from c.loop-k.invariant.within c.in-Some.k c.in-Some.ensures (sym c.has_lf.ensures ∙ c.if-has_lf.false) ∙ c.loop-k.invariant.same;
}

pub returns : goal.returns
returns c = sym (no-cr c.args.bytes.now c.loop-k.from c.loop-k.invariant.within c.in_default.ensures) ∙ c.loop-k.invariant.same
