use Rattle.std.proofs.Common.{Err, sym, ap, ◌∙◌}
use Rattle.std.proofs.lemmas.Bool.{cond-true, cond-false}
use Rattle.changes.specs.Calls.{delivered}
use Rattle.drafts.proofs.calls.delivered_lines.Goals as goal

pub returns-then-is_empty : goal.returns-then-is_empty
unfolding delivered
returns-then-is_empty g c = ap Err c.new.ensures ∙ sym (cond-true _ _ _ (sym c.if-is_empty.ensures))

pub returns : goal.returns
unfolding delivered
returns g c = c.judge_file.ensures.answer_is_the_first_fault ∙ sym (cond-false _ _ _ (sym c.if-is_empty.ensures))
