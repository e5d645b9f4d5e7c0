use Rattle.std.proofs.Common.{◌≡◌, ℕ, ◌+◌, ◌-◌, List, take, drop, ap, ◌∙◌, arith}
use Rattle.std.proofs.lemmas.List.{length-take-le}
use Rattle.changes.specs.Edits.{line_of, replaced}
use Rattle.changes.specs.States.{State, contents, used_file}
use Rattle.changes.specs.Calls.{draft_refusal, changed}
use Rattle.changes.proofs.PlaceLaws.{PlacedAt, spliced}
use Rattle.changes.proofs.CallLaws.{leave, refuse, accept, asked-short, after-change}
use Rattle.changes.proofs.UndoLaws.{found_within, replaced-at}
use Rattle.changes.proofs.InPlace.{placed, not-placed, old-line, replace-no-line, replace-bad, replace-no-room, replace-done}
use Rattle.drafts.specs.Drafts.{state}
use Rattle.drafts.proofs.draft.Draft.replace.Goals as goal

pub returns-in_err-fits : goal.returns-in_err-fits
returns-in_err-fits g c =
    let s : State = state c.args.self.now c.args.file.now c.args.rows.now c.args.kept.now in
    leave _ s _ _ c.from_residual.ensures.1 (asked-short _ s _ c.in_err-fits.ensures.tells)

pub returns-in_default : goal.returns-in_default
returns-in_default g c =
    let s : State = state c.args.self.now c.args.file.now c.args.rows.now c.args.kept.now in
    let ls = g.S.LayoutSet.meaning c.args.set.now in
    rw c.refused.ensures (refuse _ s (draft_refusal 32) (replace-no-line c.args.n s c.in_ok-fits.ensures.tells ls c.args.line.now (not-placed s.file s.fileUsed c.args.n c.in_default.ensures.place)))

pub returns-in_err-judge : goal.returns-in_err-judge
returns-in_err-judge g c =
    let s : State = state c.args.self.now c.args.file.now c.args.rows.now c.args.kept.now in
    let ls = g.S.LayoutSet.meaning c.args.set.now in
    let p = placed s.file s.fileUsed c.args.n c.in-Some.place c.in-Some.ensures.place in
    leave _ s _ _ c.from_residual-in_err-judge.ensures.1
    (replace-bad c.args.n s c.in_ok-fits.ensures.tells _ _ c.in_ok-fits.ensures.fit.0 p ls c.args.line.now _ c.in_err-judge.ensures.answer_is_the_first_fault)

pub returns-in_err-room : goal.returns-in_err-room
returns-in_err-room g c =
    let s : State = state c.args.self.now c.args.file.now c.args.rows.now c.args.kept.now in
    let ls = g.S.LayoutSet.meaning c.args.set.now in
    let p = placed s.file s.fileUsed c.args.n c.in-Some.place c.in-Some.ensures.place in
    leave _ s _ _ c.from_residual-in_err-room.ensures.1
    (replace-no-room c.args.n s c.in_ok-fits.ensures.tells _ _ c.in_ok-fits.ensures.fit.0 p ls c.args.line.now _ _ c.in_ok-judge.ensures.answer_is_the_first_fault c.in_err-room.ensures.tells)

pub returns : goal.returns
returns g c =
    let s : State = state c.args.self.now c.args.file.now c.args.rows.now c.args.kept.now in
    let t : State = state (record { file = c.splice-self.result; rows = c.note.new.self.rows; kept = c.note.new.self.kept }) c.splice-self.new.memory c.note.new.rows c.note.new.kept in
    let ls = g.S.LayoutSet.meaning c.args.set.now in
    let n = c.args.n in
    let l : List ℕ = c.args.line.now in
    let at = c.in-Some.place.at in
    let size = c.in-Some.place.size in
    let ok = c.in_ok-fits.ensures.tells in
    let fits = c.in_ok-fits.ensures.fit.0 in
    let p : PlacedAt n at size (used_file s) = placed s.file s.fileUsed n c.in-Some.place c.in-Some.ensures.place in
    let inside = found_within n at size (used_file s) p in
    let whole = length-take-le s.fileUsed s.file fits in
    let old : List ℕ = take (at + size - at) (drop at s.file) in
    let is : old ≡ line_of n (used_file s) = old-line n s ok at size fits p in
    let holds : used_file t ≡ replaced n l (used_file s) =
    c.splice-self.ensures.holds ∙ ap (λ k. spliced (take k s.file) at size l) c.note.ensures.file ∙ replaced-at n at size (used_file s) p l in
    let room = c.in_ok-room.ensures.fit in
    let counts = c.note.ensures.counts in
    let used = c.splice-self.ensures.used in
    let file = c.note.ensures.file in
    accept _ s t _
    (replace-done n s ok at size fits p ls l _ c.in_ok-judge.ensures.answer_is_the_first_fault c.in_ok-room.ensures.tells)
    (after-change s t 2 n (replaced n l (used_file s)) old fits holds c.note.ensures.rows c.note.ensures.kept (omega arith) (omega arith) (omega arith)
    ∙ ap (λ x. changed (contents s) 2 n (replaced n l (used_file s)) x) is)
    (omega arith) (omega arith) (omega arith)
