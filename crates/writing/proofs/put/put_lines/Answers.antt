use Rattle.std.proofs.Common.{◌+◌, ◌-◌, ◌*◌, drop, refl, arith}
use Rattle.std.proofs.lemmas.List.{length-take, length-drop}
use Rattle.lines.specs.Rules.{text_test}
use Rattle.writing.proofs.PutLaws.{line_row, lines-put, lines-all}
use Rattle.writing.proofs.put.put_lines.Goals as goal

pub bounds-values-k : goal.bounds-values-k
bounds-values-k c =
    (line_row (text_test c.args.texts) c.args.n c.args.values.now.bytes.now c.args.values.now.rows.now c.args.out.now c.loop-k.out c.loop-k.k c.requires.suits c.loop-k-test.true c.loop-k.invariant (record { number = 0; place = 0; length = 0 })).0

pub put-requires : goal.put-requires
put-requires c =
    let r = line_row (text_test c.args.texts) c.args.n c.args.values.now.bytes.now c.args.values.now.rows.now c.args.out.now c.loop-k.out c.loop-k.k c.requires.suits c.loop-k-test.true c.loop-k.invariant (record { number = 0; place = 0; length = 0 }) in
    let t = length-take (35 * c.loop-k.k + 35 - 35 * c.loop-k.k) (drop (35 * c.loop-k.k) c.loop-k.out) in
    let d = length-drop (35 * c.loop-k.k) c.loop-k.out in
    record { suits = r.1; whole = omega (arith, c.requires.room, c.loop-k.invariant.same) }

pub loop-k-preserved : goal.loop-k-preserved
loop-k-preserved c =
    lines-put (text_test c.args.texts) c.args.n c.args.values.now.bytes.now c.args.values.now.rows.now c.args.out.now c.loop-k.out c.loop-k.k _ c.put.new.out (record { number = 0; place = 0; length = 0 }) (35 * c.loop-k.k + 35 - 35 * c.loop-k.k) c.requires.suits c.loop-k-test.true c.requires.room c.loop-k.invariant (omega arith) c.put.ensures refl

pub returns : goal.returns
returns c = lines-all (text_test c.args.texts) c.args.n c.args.values.now.bytes.now c.args.values.now.rows.now c.args.out.now c.loop-k.out c.loop-k.k (omega arith) c.loop-k.invariant
