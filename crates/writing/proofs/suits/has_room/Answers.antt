use Rattle.std.proofs.Common.{sym, ◌∙◌, arith}
use Rattle.std.proofs.lemmas.Bool.{lt-ltb}
use Rattle.writing.proofs.Fitting.{wide_enough}
use Rattle.writing.proofs.suits.has_room.Goals as goal

pub returns-then-w-gt19 : goal.returns-then-w-gt19
returns-then-w-gt19 c = lt-ltb 19 c.args.w c.if-w-gt19.true ∙ sym (wide_enough c.args.n c.args.w (omega arith) (omega arith))
