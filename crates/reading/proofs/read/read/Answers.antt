use Rattle.std.proofs.Common.{take, IfOk, sym, subst}
use Rattle.values.specs.Records.{ShowsRecord}
use Rattle.reading.specs.Reading.{rows_after}
use Rattle.reading.proofs.Outcomes.{rows-show-the-record}
use Rattle.reading.proofs.read.read.Goals as goal

pub returns : goal.returns
returns g c =
    let ls = g.S.LayoutSet.meaning c.args.set.now in
    let line = c.args.line.now in
    let old = c.args.rows.now in
    let p = rows-show-the-record ls line old (g.met.S.LayoutSet.lawful c.args.set.now) in
    record {
      answer = c.read_rows.ensures.answer;
      memory = c.read_rows.ensures.memory;
      rows_show_the_values =
          subst (λ rs. IfOk c.read_rows.result (λ x. ShowsRecord ls x.digits line (take x.rows rs) line)) (sym c.read_rows.ensures.memory)
          (subst (λ r. IfOk r (λ x. ShowsRecord ls x.digits line (take x.rows (rows_after ls line old)) line)) (sym c.read_rows.ensures.answer) p);
    }
