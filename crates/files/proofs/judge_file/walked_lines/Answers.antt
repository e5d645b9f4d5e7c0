use Rattle.std.proofs.Common.{length, Ok, sym, ap, ◌∙◌, arith}
use Rattle.std.proofs.lemmas.Bool.{eqb-true}
use Rattle.files.proofs.Counting.{few}
use Rattle.files.proofs.judge_file.walked_lines.Goals as goal

pub returns-then-count-le-MOST_LINES : goal.returns-then-count-le-MOST_LINES
returns-then-count-le-MOST_LINES c =
    let none = eqb-true (length c.args.rest.now) 0 (sym c.is_empty.ensures ∙ c.if-is_empty.true) in
    let whole = c.requires.rest in
    let lines = c.requires.lines in
    let most = c.if-count-le-MOST_LINES.true in
    ap Ok lines ∙ sym (few c.args.bytes.now (omega arith) (omega arith))
