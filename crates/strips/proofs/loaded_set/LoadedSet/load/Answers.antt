use Rattle.std.proofs.Common.{Err, ap, ◌∙◌}
use Rattle.std.proofs.lemmas.Result.{err_from_is_err_and}
use Rattle.strips.specs.Layers.{layouts_of}
use Rattle.strips.proofs.Complete.{strips-apart}
use Rattle.strips.proofs.Loading.{read-exactly, refused-rightly}
use Rattle.strips.proofs.Sound.{read-writes}
use Rattle.strips.proofs.loaded_set.LoadedSet.load.Goals as goal

pub returns-in_err-self-clause-refused_only_if_they_write_no_lawful_set : goal.returns-in_err-self-clause-refused_only_if_they_write_no_lawful_set
returns-in_err-self-clause-refused_only_if_they_write_no_lawful_set c =
    let p = err_from_is_err_and c.from_residual.result c.from_residual.ensures.1 in
    refused-rightly c.from_residual.result c.in_err-self.field-0.0 c.args.strips.now (p.1 ∙ ap Err p.2) c.in_err-self.ensures

pub returns-in_err-self-clause-read_exactly_when_they_write_a_lawful_set : goal.returns-in_err-self-clause-read_exactly_when_they_write_a_lawful_set
returns-in_err-self-clause-read_exactly_when_they_write_a_lawful_set c = read-exactly c.args.strips.now

pub returns-in_err-self-clause-no_two_sets_have_the_same_strips : goal.returns-in_err-self-clause-no_two_sets_have_the_same_strips
returns-in_err-self-clause-no_two_sets_have_the_same_strips c = strips-apart

pub invariant_of-self : goal.invariant_of-self
invariant_of-self c = record { lawful = (read-writes c.args.strips.now (layouts_of c.in_ok-self.field-0) c.in_ok-self.ensures).lawful }

pub returns-clause-accepted_only_if_they_write_the_new_set : goal.returns-clause-accepted_only_if_they_write_the_new_set
returns-clause-accepted_only_if_they_write_the_new_set c = read-writes c.args.strips.now (layouts_of c.in_ok-self.field-0) c.in_ok-self.ensures

pub returns-clause-read_exactly_when_they_write_a_lawful_set : goal.returns-clause-read_exactly_when_they_write_a_lawful_set
returns-clause-read_exactly_when_they_write_a_lawful_set c = read-exactly c.args.strips.now

pub returns-clause-no_two_sets_have_the_same_strips : goal.returns-clause-no_two_sets_have_the_same_strips
returns-clause-no_two_sets_have_the_same_strips c = strips-apart
