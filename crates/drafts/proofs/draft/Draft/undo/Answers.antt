use Rattle.std.proofs.Common.{◌-◌, ◌<◌, sym, refl, ◌∙◌, subst, arith}
use Rattle.std.proofs.lemmas.List.{length-take-le}
use Rattle.changes.specs.States.{State, Promise, contents}
use Rattle.changes.specs.Calls.{draft_refusal, asked, undoing}
use Rattle.changes.proofs.CallLaws.{leave, refuse, accept, asked-short, asked-on}
use Rattle.changes.proofs.UndoLaws.{undo-none, top_row, undo-short, undo-stuck, undo-done, after-undo}
use Rattle.drafts.specs.Drafts.{state}
use Rattle.drafts.proofs.draft.Draft.undo.Goals as goal

pub returns-in_err-fits : goal.returns-in_err-fits
returns-in_err-fits c =
    let s : State = state c.args.self.now c.args.file.now c.args.rows.now c.args.kept.now in
    leave _ s _ _ c.from_residual.ensures.1 (asked-short _ s _ c.in_err-fits.ensures.tells)

pub returns-then-self-eq0 : goal.returns-then-self-eq0
returns-then-self-eq0 c =
    let s : State = state c.args.self.now c.args.file.now c.args.rows.now c.args.kept.now in
    rw c.refused.ensures
    (refuse _ s (draft_refusal 36)
    (asked-on _ s c.in_ok-fits.ensures.tells ∙ undo-none (contents s) (length-take-le s.rowsUsed s.rows c.in_ok-fits.ensures.fit.1 ∙ c.if-self-eq0.true)))

pub returns-then-row-self : goal.returns-then-row-self
returns-then-row-self c =
    let s : State = state c.args.self.now c.args.file.now c.args.rows.now c.args.kept.now in
    let fit = c.in_ok-fits.ensures.fit in
    let some : 0 < s.rowsUsed = omega arith in
    rw c.refused-then-row-self.ensures (refuse _ s (draft_refusal 37) (undo-short s c.in_ok-fits.ensures.tells fit.1 fit.2 some c.if-row-self.true))

pub returns-in_err-self : goal.returns-in_err-self
returns-in_err-self c =
    let s : State = state c.args.self.now c.args.file.now c.args.rows.now c.args.kept.now in
    let fit = c.in_ok-fits.ensures.fit in
    let some : 0 < s.rowsUsed = omega arith in
    let h = c.in_err-self.ensures in
    let same = h.same in
    let r = c.from_residual-in_err-self.result in
    subst (λ F. Promise (asked undoing s) s (state c.args.self.now F c.args.rows.now c.args.kept.now) r) (sym same)
    (leave _ s _ _ c.from_residual-in_err-self.ensures.1 (undo-stuck s c.in_ok-fits.ensures.tells fit.1 fit.2 some c.if-row-self.false c.take_back.new.file _ h))

pub returns : goal.returns
returns c =
    let s : State = state c.args.self.now c.args.file.now c.args.rows.now c.args.kept.now in
    let t : State = state (record { file = c.in_ok-self.field-0; rows = s.rowsUsed - 1; kept = s.keptUsed - (top_row s).kept }) c.take_back.new.file c.args.rows.now c.args.kept.now in
    let ok = c.in_ok-fits.ensures.tells in
    let fit = c.in_ok-fits.ensures.fit in
    let some : 0 < s.rowsUsed = omega arith in
    let h = c.in_ok-self.ensures in
    accept _ s t _ (undo-done s ok fit.1 fit.2 some c.if-row-self.false t.file t.fileUsed h)
    (after-undo s ok fit.1 fit.2 some c.if-row-self.false t refl refl refl refl (omega arith) h)
    (omega (arith, h.within)) (omega arith) (omega arith)
