use Rattle.std.proofs.Common.{◌≤◌, sym, refl, ap, ◌∙◌, length, arith, rules}
use Rattle.std.proofs.lemmas.Grind.{common_steps}
use Rattle.files.proofs.Cuts.{first-end}
use Rattle.files.proofs.FirstLines.{cut-first, lines-are}
use Rattle.files.proofs.cut.LinesIterator.next.Goals as goal

pub split_at-requires : goal.split_at-requires
split_at-requires c = let w = (first-end c.self.inside.rest.now c.in_ok-end.end (sym c.line_end.ensures ∙ c.in_ok-end.was)).within in omega arith

pub slice_bounds-self-count : goal.slice_bounds-self-count
slice_bounds-self-count c =
    let w = (first-end c.self.inside.rest.now c.in_ok-end.end (sym c.line_end.ensures ∙ c.in_ok-end.was)).within in
    let s = c.split_at.ensures.back_len in
    omega arith

pub slice_bounds-self-start : goal.slice_bounds-self-start
slice_bounds-self-start c =
    let w = (first-end c.self.inside.rest.now c.in_ok-end.end (sym c.line_end.ensures ∙ c.in_ok-end.was)).within in
    let s = c.split_at.ensures.back_len in
    let h : 2 ≤ length c.split_at.result.1.now = omega arith in
    search (rules, h)

pub returns-clause-steps : goal.returns-clause-steps
returns-clause-steps c =
    rw (← c.self.view_is)
    (cut-first c.self.inside.rest.now c.split_at.result.0.now c.split_at.result.1.now _ c.in_ok-end.end (sym c.line_end.ensures ∙ c.in_ok-end.was) c.split_at.ensures.front c.split_at.ensures.back refl)

pub returns-clause-goes : goal.returns-clause-goes
returns-clause-goes c =
    let first = cut-first c.self.inside.rest.now c.split_at.result.0.now c.split_at.result.1.now _ c.in_ok-end.end (sym c.line_end.ensures ∙ c.in_ok-end.was) c.split_at.ensures.front c.split_at.ensures.back refl in
    let lines = ap length (lines-are _ _ _ first) in
    rw (← c.self.view_is) (grind (arith, common_steps, lines))
