use Rattle.std.proofs.Common.{◌≡◌, ◌-◌, ◌++◌, length, get_or, take, drop, sym, ap, ◌∙◌, arith, length-append}
use Rattle.std.proofs.lemmas.List.{length-take, length-drop}
use Rattle.basics.specs.Decimals.{digits}
use Rattle.basics.proofs.DigitLaws.{length_digits}
use Rattle.lines.specs.Rules.{number_test, text_test}
use Rattle.values.specs.declared.row.ValueRow.{ValueRow}
use Rattle.values.specs.Writing.{line_steps}
use Rattle.writing.specs.Sizes.{is_done, bytes_of, in_front}
use Rattle.writing.proofs.Memory.{front-two}
use Rattle.writing.proofs.PutLaws.{block-ends}
use Rattle.writing.proofs.put.put_block.Goals as goal

pub put_lines-requires : goal.put_lines-requires
put_lines-requires c =
    let d : ValueRow = record { number = 0; place = 0; length = 0 } in
    let rs = c.args.values.now.rows.now in
    let b = block-ends (number_test c.args.counts) (text_test c.args.texts) c.args.values.now.bytes.now rs c.skip.result.rows.now d c.skip.ensures.rows c.requires.suits in
    let a = c.put.new.out in
    let out = c.args.out.now in
    let mem = a ++ drop 2 out in
    let n = (get_or rs 0 d).number in
    let wa = ap length c.put.ensures ∙ length_digits (length (take 2 out)) n in
    let t = length-take 2 out in
    let wt = ap length b.text ∙ length-append (digits 2 n) (bytes_of (line_steps (text_test c.args.texts) n c.args.values.now.bytes.now c.skip.result.rows.now)) in
    let wd = length_digits 2 n in
    let wide = b.wide in
    let ma = length-append a (drop 2 out) in
    let mo = length-drop 2 out in
    let mt = length-take (length mem - 2) (drop 2 mem) in
    let md = length-drop 2 mem in
    let room = c.requires.room in
    record { few = b.few; suits = ap (λ y. is_done (line_steps (text_test c.args.texts) n y c.skip.result.rows.now)) c.skip.ensures.bytes ∙ b.lines; room = omega arith }

pub returns : goal.returns
returns c =
    let d : ValueRow = record { number = 0; place = 0; length = 0 } in
    let rs = c.args.values.now.rows.now in
    let us = c.skip.result.rows.now in
    let b = block-ends (number_test c.args.counts) (text_test c.args.texts) c.args.values.now.bytes.now rs us d c.skip.ensures.rows c.requires.suits in
    let a = c.put.new.out in
    let out = c.args.out.now in
    let n = (get_or rs 0 d).number in
    let lines = bytes_of (line_steps (text_test c.args.texts) n c.args.values.now.bytes.now us) in
    let t = length-take 2 out in
    let wt = ap length b.text ∙ length-append (digits 2 n) lines in
    let wd = length_digits 2 n in
    let wide = b.wide in
    let room = c.requires.room in
    let two : length (take 2 out) ≡ 2 = omega arith in
    let is : a ≡ digits 2 n = c.put.ensures ∙ ap (λ k. digits k n) two in
    let wa : length a ≡ 2 = ap length is ∙ wd in
    record {
      out = front-two a lines out c.put_lines.new.out wa (omega arith) (c.put_lines.ensures ∙ ap (λ y. in_front (bytes_of (line_steps (text_test c.args.texts) n y us)) (take (length (a ++ drop 2 out) - 2) (drop 2 (a ++ drop 2 out)))) c.skip.ensures.bytes) ∙ ap (λ x. in_front (x ++ lines) out) is ∙ ap (λ x. in_front x out) (sym b.text);
      size = b.size;
    }
