use Rattle.std.proofs.Common.{◌≡◌, ℕ, List, [], ◌∷◌, ◌++◌, length, take, ap, ◌∙◌, append_assoc, arith}
use Rattle.files.specs.Lines.{lines_of}
use Rattle.changes.specs.Edits.{ended}
use Rattle.changes.specs.States.{State, contents, used_file}
use Rattle.changes.proofs.CallLaws.{leave, accept, asked-short, asked-on, add-fault, after-change}
use Rattle.changes.proofs.Moving.{front-part}
use Rattle.changes.proofs.AtTheEnd.{add-over, add-no-room, add_done}
use Rattle.drafts.specs.Drafts.{state}
use Rattle.drafts.proofs.draft.Draft.add.Goals as goal

pub returns-in_err-fits : goal.returns-in_err-fits
returns-in_err-fits g c =
    let s : State = state c.args.self.now c.args.file.now c.args.rows.now c.args.kept.now in
    leave _ s _ _ c.from_residual.ensures.1 (asked-short _ s _ c.in_err-fits.ensures.tells)

pub returns-in_err-judge : goal.returns-in_err-judge
returns-in_err-judge g c =
    let s : State = state c.args.self.now c.args.file.now c.args.rows.now c.args.kept.now in
    leave _ s _ _ c.from_residual-in_err-judge.ensures.1
    (asked-on _ s c.in_ok-fits.ensures.tells ∙ add-fault _ _ (contents s) _ c.in_err-judge.ensures.answer_is_the_first_fault)

pub returns-in_err-few : goal.returns-in_err-few
returns-in_err-few g c =
    let s : State = state c.args.self.now c.args.file.now c.args.rows.now c.args.kept.now in
    let ls = g.S.LayoutSet.meaning c.args.set.now in
    let l : List ℕ = c.args.line.now in
    let count = c.count_lines.result.lines in
    let counted : count ≡ length (lines_of (used_file s)) = c.count_lines.ensures.lines ∙ front-part (λ f. length (lines_of f)) s.file s.fileUsed in
    leave _ s _ _ c.from_residual-in_err-few.ensures.1
    (add-over ls (g.met.S.LayoutSet.lawful c.args.set.now) s c.in_ok-fits.ensures.tells c.in_ok-fits.ensures.fit.0 count counted l _ c.in_ok-judge.ensures.answer_is_the_first_fault _ c.in_err-few.ensures)

pub returns-in_err-room : goal.returns-in_err-room
returns-in_err-room g c =
    let s : State = state c.args.self.now c.args.file.now c.args.rows.now c.args.kept.now in
    let ls = g.S.LayoutSet.meaning c.args.set.now in
    let l : List ℕ = c.args.line.now in
    let count = c.count_lines.result.lines in
    let counted : count ≡ length (lines_of (used_file s)) = c.count_lines.ensures.lines ∙ front-part (λ f. length (lines_of f)) s.file s.fileUsed in
    leave _ s _ _ c.from_residual-in_err-room.ensures.1
    (add-no-room ls (g.met.S.LayoutSet.lawful c.args.set.now) s c.in_ok-fits.ensures.tells c.in_ok-fits.ensures.fit.0 count counted l _ c.in_ok-judge.ensures.answer_is_the_first_fault _ c.in_ok-few.ensures c.in_err-room.ensures.tells)

pub returns : goal.returns
returns g c =
    let s : State = state c.args.self.now c.args.file.now c.args.rows.now c.args.kept.now in
    let t : State = state (record { file = c.append-self.result; rows = c.note.new.self.rows; kept = c.note.new.self.kept }) c.append-self.new.memory c.note.new.rows c.note.new.kept in
    let ls = g.S.LayoutSet.meaning c.args.set.now in
    let l : List ℕ = c.args.line.now in
    let crlf : List ℕ = 13 ∷ 10 ∷ [] in
    let count = c.count_lines.result.lines in
    let counted : count ≡ length (lines_of (used_file s)) = c.count_lines.ensures.lines ∙ front-part (λ f. length (lines_of f)) s.file s.fileUsed in
    let fits = c.in_ok-fits.ensures.fit.0 in
    let holds : used_file t ≡ used_file s ++ ended l =
    c.append-self.ensures.holds
    ∙ ap (λ x. x ++ crlf) (c.append-end.ensures.holds ∙ ap (λ k. take k s.file ++ l) c.note.ensures.file)
    ∙ append_assoc (used_file s) l crlf in
    let room = c.in_ok-room.ensures.fit in
    let counts = c.note.ensures.counts in
    accept _ s t _
    (add_done ls (g.met.S.LayoutSet.lawful c.args.set.now) s c.in_ok-fits.ensures.tells fits count counted l _ c.in_ok-judge.ensures.answer_is_the_first_fault c.in_ok-few.ensures c.in_ok-room.ensures.tells)
    (after-change s t 1 0 (used_file s ++ ended l) [] fits holds c.note.ensures.rows c.note.ensures.kept (omega arith) (omega arith) (omega arith))
    (omega arith) (omega arith) (omega arith)
