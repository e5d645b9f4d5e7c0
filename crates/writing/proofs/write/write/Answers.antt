use Rattle.std.proofs.Common.{take, IfOk, sym, ◌∙◌, subst}
use Rattle.lines.specs.Belongs.{Belongs}
use Rattle.values.specs.Records.{ShowsRecord}
use Rattle.values.specs.Writing.{line_for}
use Rattle.writing.specs.Answers.{memory_after}
use Rattle.writing.proofs.Outcomes.{shows-what-is-written, belongs-what-is-written, writes-what-is-shown}
use Rattle.writing.proofs.write.write.Goals as goal

pub returns : goal.returns
returns g c =
    let ls = g.S.LayoutSet.meaning c.args.set.now in
    let n = c.args.digits in
    let bytes = c.args.values.now.bytes.now in
    let rs = c.args.values.now.rows.now in
    let old = c.args.out.now in
    let a = c.write_line.ensures.answer in
    let m = c.write_line.ensures.memory in
    record {
      answer = a;
      memory = m;
      what_is_written_belongs =
          subst (λ x. IfOk c.write_line.result (λ k. Belongs ls (take k x))) (sym m)
          (subst (λ r. IfOk r (λ k. Belongs ls (take k (memory_after old (line_for ls n bytes rs))))) (sym a) (belongs-what-is-written ls n bytes rs old));
      reading_what_was_written_gives_the_same_values =
          subst (λ x. IfOk c.write_line.result (λ k. ShowsRecord ls n bytes rs (take k x))) (sym m)
          (subst (λ r. IfOk r (λ k. ShowsRecord ls n bytes rs (take k (memory_after old (line_for ls n bytes rs))))) (sym a) (shows-what-is-written ls n bytes rs old));
      writing_what_was_read_gives_the_same_bytes = λ line h l. let w = writes-what-is-shown ls n bytes rs old (g.met.S.LayoutSet.lawful c.args.set.now) line h l in (a ∙ w.0, m ∙ w.1);
    }
