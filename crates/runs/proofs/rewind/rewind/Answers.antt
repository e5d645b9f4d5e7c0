use Rattle.std.proofs.Common.{◌+◌, [], ◌∷◌, ◌++◌, length, ap, ◌∙◌, arith, length-append}
use Rattle.changes.specs.States.{State, used_file}
use Rattle.drafts.specs.Drafts.{state}
use Rattle.history.proofs.Theorem.{undone-more, rewound}
use Rattle.history.proofs.Rewinding.{until-refused}
use Rattle.history.proofs.Shrinking.{undo-shrinks}
use Rattle.runs.proofs.Bounding.{first-or-later}
use Rattle.runs.proofs.rewind.rewind.Goals as goal

pub loop-undone-smaller : goal.loop-undone-smaller
loop-undone-smaller c =
    let t : State = state c.loop-undone.draft c.loop-undone.file c.args.rows.now c.args.kept.now in
    let u : State = state c.undo.new.self c.undo.new.file c.args.rows.now c.args.kept.now in
    let less = (undo-shrinks t u c.in-Ok.ensures).0 in
    omega arith

pub loop-undone-preserved : goal.loop-undone-preserved
loop-undone-preserved c =
    let s : State = state c.args.draft.now c.args.file.now c.args.rows.now c.args.kept.now in
    let t : State = state c.loop-undone.draft c.loop-undone.file c.args.rows.now c.args.kept.now in
    let u : State = state c.undo.new.self c.undo.new.file c.args.rows.now c.args.kept.now in
    let h = c.loop-undone.invariant in
    let less = undo-shrinks t u c.in-Ok.ensures in
    let one = less.0 in
    let all = h.3 in
    let long = first-or-later c.loop-undone.undone c.loop-undone.draft.rows c.args.draft.now.rows (length c.args.rows.now) all less.1 h.4 in (
      h.0 ++ used_file u ∷ [],
      undone-more s t u h.0 h.1 c.in-Ok.ensures,
      ap (λ n. n + 1) h.2 ∙ omega (arith, length-append h.0 (used_file u ∷ [])),
      omega arith,
      λ _. long,
    )

pub returns-in-Err : goal.returns-in-Err
returns-in-Err c =
    let s : State = state c.args.draft.now c.args.file.now c.args.rows.now c.args.kept.now in
    let t : State = state c.loop-undone.draft c.loop-undone.file c.args.rows.now c.args.kept.now in
    let u : State = state c.undo.new.self c.undo.new.file c.args.rows.now c.args.kept.now in
    let h = c.loop-undone.invariant in
    let until = until-refused s t u h.0 c.loop-undone.undone c.in-Err.refusal h.1 h.2 c.in-Err.ensures in
    record { undoes_until_it_is_refused = until; undoes_every_standing_change = rewound s u c.loop-undone.undone c.in-Err.refusal until }
