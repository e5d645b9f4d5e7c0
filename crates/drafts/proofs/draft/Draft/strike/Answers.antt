use Rattle.std.proofs.Common.{◌≡◌, ℕ, ◌+◌, ◌-◌, List, [], take, drop, ap, ◌∙◌, arith}
use Rattle.std.proofs.lemmas.List.{length-take-le}
use Rattle.changes.specs.Edits.{line_of, struck}
use Rattle.changes.specs.States.{State, contents, used_file}
use Rattle.changes.specs.Calls.{draft_refusal, changed}
use Rattle.changes.proofs.PlaceLaws.{PlacedAt, spliced}
use Rattle.changes.proofs.CallLaws.{leave, refuse, accept, asked-short, after-change}
use Rattle.changes.proofs.UndoLaws.{found_within}
use Rattle.changes.proofs.InPlace.{placed, not-placed, old-line, struck-at, strike-no-line, strike-no-room, strike-done}
use Rattle.drafts.specs.Drafts.{state}
use Rattle.drafts.proofs.draft.Draft.strike.Goals as goal

pub returns-in_err-fits : goal.returns-in_err-fits
returns-in_err-fits c =
    let s : State = state c.args.self.now c.args.file.now c.args.rows.now c.args.kept.now in
    leave _ s _ _ c.from_residual.ensures.1 (asked-short _ s _ c.in_err-fits.ensures.tells)

pub returns-in_default : goal.returns-in_default
returns-in_default c =
    let s : State = state c.args.self.now c.args.file.now c.args.rows.now c.args.kept.now in
    rw c.refused.ensures (refuse _ s (draft_refusal 32) (strike-no-line c.args.n s c.in_ok-fits.ensures.tells (not-placed s.file s.fileUsed c.args.n c.in_default.ensures.place)))

pub returns-in_err-room : goal.returns-in_err-room
returns-in_err-room c =
    let s : State = state c.args.self.now c.args.file.now c.args.rows.now c.args.kept.now in
    let p = placed s.file s.fileUsed c.args.n c.in-Some.place c.in-Some.ensures.place in
    leave _ s _ _ c.from_residual-in_err-room.ensures.1
    (strike-no-room c.args.n s c.in_ok-fits.ensures.tells _ _ c.in_ok-fits.ensures.fit.0 p _ c.in_err-room.ensures.tells)

pub returns : goal.returns
returns c =
    let s : State = state c.args.self.now c.args.file.now c.args.rows.now c.args.kept.now in
    let t : State = state (record { file = c.splice-self.result; rows = c.note.new.self.rows; kept = c.note.new.self.kept }) c.splice-self.new.memory c.note.new.rows c.note.new.kept in
    let n = c.args.n in
    let at = c.in-Some.place.at in
    let size = c.in-Some.place.size in
    let ok = c.in_ok-fits.ensures.tells in
    let fits = c.in_ok-fits.ensures.fit.0 in
    let p : PlacedAt n at size (used_file s) = placed s.file s.fileUsed n c.in-Some.place c.in-Some.ensures.place in
    let inside = found_within n at size (used_file s) p in
    let whole = length-take-le s.fileUsed s.file fits in
    let old : List ℕ = take (at + size - at) (drop at s.file) in
    let is : old ≡ line_of n (used_file s) = old-line n s ok at size fits p in
    let holds : used_file t ≡ struck n (used_file s) =
    c.splice-self.ensures.holds ∙ ap (λ k. spliced (take k s.file) at (size + 2) []) c.note.ensures.file ∙ struck-at n s ok at size fits p in
    let room = c.in_ok-room.ensures.fit in
    let counts = c.note.ensures.counts in
    let used = c.splice-self.ensures.used in
    let file = c.note.ensures.file in
    accept _ s t _
    (strike-done n s ok at size fits p c.in_ok-room.ensures.tells)
    (after-change s t 3 n (struck n (used_file s)) old fits holds c.note.ensures.rows c.note.ensures.kept (omega arith) (omega arith) (omega arith)
    ∙ ap (λ x. changed (contents s) 3 n (struck n (used_file s)) x) is)
    (omega arith) (omega arith) (omega arith)
