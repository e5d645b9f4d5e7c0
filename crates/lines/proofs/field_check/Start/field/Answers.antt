use Rattle.std.proofs.Common.{sym, ap, ◌∙◌}
use Rattle.basics.specs.declared.bytes.ByteClass.TheVariants.{Zero, Blank}
use Rattle.basics.specs.Bytes.{allowed}
use Rattle.layouts.specs.Kinds.{shape, letters, any_text}
use Rattle.lines.specs.Judging.{part_end, field_end}
use Rattle.lines.proofs.Steps.{filler-end}
use Rattle.lines.proofs.field_check.Start.field.Goals as goal

pub returns-in-Zeros : goal.returns-in-Zeros
returns-in-Zeros c =
    let s = c.args.self.now in
    c.bytes_of-in-Zeros.ensures
    ∙ ap (λ w. part_end (letters w (allowed Zero) any_text 14) s.field s.place s.line.now) c.from-in-Zeros.ensures
    ∙ filler-end 48 c.in-Zeros.w s.field s.place s.line.now
    ∙ sym (ap (λ f. field_end (shape f) s.field s.place s.line.now) c.in-Zeros.is)

pub returns-in-Blanks : goal.returns-in-Blanks
returns-in-Blanks c =
    let s = c.args.self.now in
    c.bytes_of-in-Blanks.ensures
    ∙ ap (λ w. part_end (letters w (allowed Blank) any_text 14) s.field s.place s.line.now) c.from-in-Blanks.ensures
    ∙ filler-end 32 c.in-Blanks.w s.field s.place s.line.now
    ∙ sym (ap (λ f. field_end (shape f) s.field s.place s.line.now) c.in-Blanks.is)

pub returns-in-Lines : goal.returns-in-Lines
returns-in-Lines c = let s = c.args.self.now in c.block.ensures c.in-Lines.high ∙ sym (ap (λ f. field_end (shape f) s.field s.place s.line.now) c.in-Lines.is)

pub returns-in-AllOrNoLines : goal.returns-in-AllOrNoLines
returns-in-AllOrNoLines c = let s = c.args.self.now in c.block-in-AllOrNoLines.ensures c.in-AllOrNoLines.n ∙ sym (ap (λ f. field_end (shape f) s.field s.place s.line.now) c.in-AllOrNoLines.is)
