-- The pieces of the code as the table of kinds has them.
use Rattle.basics.specs.declared.bytes.ByteClass.TheVariants as class
use Rattle.basics.specs.Bytes.{allowed}
use Rattle.layouts.specs.Kinds.{Part, figures, letters, code}
use Rattle.lines.specs.Rules.{number_test, number_refusal, text_test}
use Rattle.writing.specs.declared.piece.Piece.{Piece}
use Rattle.writing.specs.declared.piece.Piece.TheVariants.{Figures, Letters, Code}

abbrev pub part_of : Piece → Part
part_of (Figures w rule) = figures w (number_test rule) (number_refusal rule)
part_of (Letters w c rule) = letters w (allowed c) (text_test rule) 14
part_of (Code a b c d) = code (allowed (class.OneOf a b c d))
