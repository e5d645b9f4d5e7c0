use Rattle.std.proofs.Common.{sym, ◌∙◌}
use Rattle.basics.specs.Bytes.{allowed}
use Rattle.writing.proofs.Fitting.{blanks-are}
use Rattle.writing.proofs.suits.takes_blanks.Goals as goal

pub returns-else-n-eq0 : goal.returns-else-n-eq0
returns-else-n-eq0 c = c.allows.ensures ∙ sym (blanks-are (allowed c.args.class) c.args.n c.if-n-eq0.false)
