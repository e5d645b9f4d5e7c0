-- The forms of the code as the table of kinds has them.
use Rattle.std.specs.Prelude.{replicate}
use Rattle.basics.specs.declared.bytes.ByteClass.TheVariants as class
use Rattle.basics.specs.Bytes.{allowed}
use Rattle.layouts.specs.Kinds.{constant, figures, letters, code, Shape, one, block, record_name}
use Rattle.lines.specs.Rules.{number_test, number_refusal, text_test}
use Rattle.values.specs.declared.form.Form.{Form}
use Rattle.values.specs.declared.form.Form.TheVariants.{Name, Fill, Figures, Letters, Code, Block}

abbrev pub shape_of : Form → Shape
shape_of (Name d) = one (constant (record_name d))
shape_of (Fill b w) = one (constant (replicate w b))
shape_of (Figures w rule) = one (figures w (number_test rule) (number_refusal rule))
shape_of (Letters w c rule) = one (letters w (allowed c) (text_test rule) 14)
shape_of (Code a b c d) = one (code (allowed (class.OneOf a b c d)))
shape_of (Block high counts texts) = block high (number_test counts) (text_test texts)
