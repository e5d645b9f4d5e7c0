use Rattle.std.proofs.Common.{Err, ap, ◌+◌, ◌*◌, length, ◌∙◌}
use Rattle.reports.specs.Reports.{shown}
use Rattle.reports.proofs.Putting.{length-shown, no_room, has_room}
use Rattle.reports.proofs.writing.put_report.Goals as goal

pub returns-then-room-length : goal.returns-then-room-length
returns-then-room-length c =
    let rows = c.args.rows.now in
    let text = shown c.args.found.lines c.args.found.bad rows in
    let p =
    no_room text c.args.room.now (22 + 40 * length rows) (length-shown c.args.found.lines c.args.found.bad rows) c.if-room-length.true in
    record { answer = ap Err c.new.ensures ∙ p.answer; room = p.room' }

pub returns : goal.returns
returns c =
    let rows = c.args.rows.now in
    let text = shown c.args.found.lines c.args.found.bad rows in
    let p =
    has_room text c.args.room.now (22 + 40 * length rows) (length-shown c.args.found.lines c.args.found.bad rows) c.if-room-length.false in
    record { answer = p.answer; room = c.put_lines.ensures ∙ p.room' }
