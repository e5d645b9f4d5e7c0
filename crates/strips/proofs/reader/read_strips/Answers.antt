use Rattle.std.proofs.Common.{◌≤◌, length, sym, ◌∙◌, arith}
use Rattle.std.proofs.lemmas.List.{take_rest}
use Rattle.std.proofs.lemmas.Result.{err_from_is_err_and}
use Rattle.strips.specs.Loads.{read}
use Rattle.strips.specs.Readers.{reading_of}
use Rattle.strips.proofs.ReaderLaws.{tells-on, tells-same}
use Rattle.strips.proofs.Steps.{turn, body-left, read_more}
use Rattle.strips.proofs.reader.read_strips.Goals as goal

pub returns-in_err-reader-2 : goal.returns-in_err-reader-2
returns-in_err-reader-2 c =
    let p = err_from_is_err_and c.from_residual-in_err-reader-2.result c.from_residual-in_err-reader-2.ensures.1 in
    let l = c.in-Some in
    let t = turn (length c.args.strips.now) (reading_of c.loop-letter.reader) l.letter.now l.behind.now c.loop-letter.rest.now l.ensures.cases.0 c.loop-letter.invariant.0 in
    rw (p.1, p.2) (tells-same _ (read c.args.strips.now) _ (sym t ∙ c.loop-letter.invariant.1) (tells-on _ _ _ c.in_err-reader-2.ensures))

pub slice_bounds-rest-count-in-Some : goal.slice_bounds-rest-count-in-Some
slice_bounds-rest-count-in-Some c =
    let h : c.width_after.result ≤ length c.in-Some.behind.now = body-left _ (reading_of c.loop-letter.reader) c.in-Some.letter.now _ (reading_of c.in_ok-reader-2.reader) _ c.width_after.ensures c.in_ok-reader-2.ensures in
    omega arith

pub slice_bounds-rest-start-in-Some : goal.slice_bounds-rest-start-in-Some
slice_bounds-rest-start-in-Some c =
    let h : c.width_after.result ≤ length c.in-Some.behind.now = body-left _ (reading_of c.loop-letter.reader) c.in-Some.letter.now _ (reading_of c.in_ok-reader-2.reader) _ c.width_after.ensures c.in_ok-reader-2.ensures in
    omega arith

pub loop-letter-preserved : goal.loop-letter-preserved
loop-letter-preserved c =
    let l = c.in-Some in
    let m = read_more (length c.args.strips.now) (reading_of c.loop-letter.reader) l.letter.now l.behind.now c.loop-letter.rest.now l.ensures.cases.0 c.loop-letter.invariant.0 (reading_of c.in_ok-reader-2.reader) c.width_after.result c.width_after.ensures c.in_ok-reader-2.ensures in
    rw (take_rest l.behind.now c.width_after.result) (m.0, m.1 ∙ c.loop-letter.invariant.1)
