use Rattle.std.proofs.Common.{sym, ◌∙◌}
use Rattle.files.specs.Lines.{lines_of}
use Rattle.files.proofs.FileLaws.{accepted-file, file-accepted, one-file, refused-file, file-refused}
use Rattle.files.proofs.judge_file.judge_file.Goals as goal

pub returns : goal.returns
returns g c =
    let M = g.S.LayoutSet.meaning c.args.set.now in
    let law = g.met.S.LayoutSet.lawful c.args.set.now in
    let f = c.args.bytes.now in
    let e = c.judge_lines.ensures in
    record {
      answer_is_the_first_fault = e;
      accepted_only_if_it_is_records_with_line_ends = λ n h. (lines_of f, accepted-file M f law n (sym e ∙ h));
      accepted_if_it_is_records_with_line_ends = λ rs h. e ∙ file-accepted M f law rs h;
      no_other_records_have_this_writing = one-file M f law;
      refused_exactly_as_the_rules_say = λ x. (λ h. refused-file M f law x (sym e ∙ h), λ h. e ∙ file-refused M f law x h);
    }
