use Rattle.std.proofs.Common.{◌+◌, ◌-◌, ◌*◌, length, drop, set, refl, ap, ◌∙◌, arith, length-set}
use Rattle.values.specs.Rows.{line_rows, laid}
use Rattle.reading.proofs.RowSteps.{lines_more}
use Rattle.reading.proofs.parts.Cut.put_lines.Goals as goal

pub loop-k-preserved : goal.loop-k-preserved
loop-k-preserved c =
    let cut = c.args.self.now in
    let rows = c.loop-k.stack.rows.now in
    let top = c.loop-k.stack.used in
    let left = line_rows (c.args.n - (c.loop-k.k + 1)) (cut.before + 35 * (c.loop-k.k + 1)) (drop (35 * (c.loop-k.k + 1)) cut.part.now) in
    let u = c.lay.ensures.used in
    let t = c.loop-k.invariant.used in
    record {
      lent = c.lay.ensures.lent ∙ c.loop-k.invariant.lent;
      used = omega arith;
      long = ap length c.lay.ensures.laid ∙ length-set rows top c.text_row.result ∙ c.loop-k.invariant.long;
      rows =
          ap (λ x. laid x c.lay.new.stack.used left) c.lay.ensures.laid
          ∙ ap (λ x. laid (set rows top c.text_row.result) x left) u
          ∙ ap (λ x. laid (set rows top x) (top + 1) left) c.text_row.ensures
          ∙ lines_more rows top c.args.n c.loop-k.k cut.before cut.part.now _ c.loop-k-test.true refl
          ∙ c.loop-k.invariant.rows;
    }
