use Rattle.lines.specs.Rules.{text_test}
use Rattle.writing.proofs.PutLaws.{LinesSofar}
use Rattle.writing.proofs.put.put_lines.Given as goal

abbrev pub invariant-loop-k : goal.invariant-loop-k
invariant-loop-k l = LinesSofar (text_test l.texts) l.n l.values.bytes.now l.values.rows.now l.initial.out l.out l.k
