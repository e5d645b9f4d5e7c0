use Rattle.std.proofs.Common.{◌-◌, ◌<◌, sym, ap, ◌∙◌, arith}
use Rattle.std.proofs.lemmas.List.{length-take-le}
use Rattle.changes.specs.Kinds.{number_of}
use Rattle.changes.proofs.InPlace.{placed, behind}
use Rattle.changes.proofs.UndoLaws.{taken-2, taken-3, stuck-2, stuck-3}
use Rattle.drafts.proofs.undo.take_back.Goals as goal

pub returns-then-old-file : goal.returns-then-old-file
returns-then-old-file c =
    let F = c.args.file.now in
    let p = placed F c.args.used c.args.change.line c.in-Some.place c.in-Some.ensures.place in
    rw c.refused-then-old-file.ensures (stuck-2 c.args.change c.args.old.now F c.args.used c.requires c.in-Some.place.at c.in-Some.place.size (sym c.in-Ok-Replaced.ensures ∙ ap number_of c.in-Ok-Replaced.field-0-is) p c.if-old-file.true)

pub returns-then-old-file-2 : goal.returns-then-old-file-2
returns-then-old-file-2 c =
    let F = c.args.file.now in
    let some : 0 < c.args.change.line = omega arith in
    let b = behind F c.args.used (c.args.change.line - 1) c.in-Some-behind_lines.at c.in-Some-behind_lines.ensures.place in
    rw c.refused-then-old-file-2.ensures (stuck-3 c.args.change c.args.old.now F c.args.used c.requires c.in-Some-behind_lines.at (sym c.in-Ok-Struck.ensures ∙ ap number_of c.in-Ok-Struck.field-0-is) some b c.if-old-file-2.true)

pub returns-else-old-file : goal.returns-else-old-file
returns-else-old-file c =
    let F = c.args.file.now in
    let u = c.args.used in
    let p = placed F u c.args.change.line c.in-Some.place c.in-Some.ensures.place in
    let i = c.in-Some.ensures.inside in
    let long = length-take-le u F c.requires in
    let room = c.if-old-file.false in
    let end = c.splice.ensures.used in
    taken-2 c.args.change c.args.old.now F u c.requires c.in-Some.place.at c.in-Some.place.size c.splice.result c.splice.new.memory (sym c.in-Ok-Replaced.ensures ∙ ap number_of c.in-Ok-Replaced.field-0-is) p c.splice.ensures.holds (omega arith) (omega arith)

pub returns-else-old-file-2 : goal.returns-else-old-file-2
returns-else-old-file-2 c =
    let F = c.args.file.now in
    let u = c.args.used in
    let some : 0 < c.args.change.line = omega arith in
    let b = behind F u (c.args.change.line - 1) c.in-Some-behind_lines.at c.in-Some-behind_lines.ensures.place in
    let room = c.if-old-file-2.false in
    let end = c.insert_line.ensures.used in
    taken-3 c.args.change c.args.old.now F u c.requires c.in-Some-behind_lines.at c.insert_line.result c.insert_line.new.memory (sym c.in-Ok-Struck.ensures ∙ ap number_of c.in-Ok-Struck.field-0-is) some b c.insert_line.ensures.holds (omega arith) (omega arith)
