-- What a reader holds.
use Rattle.std.specs.Prelude.{vec_items}
use Rattle.strips.specs.declared.reader.Reader.{Reader}
use Rattle.strips.specs.Layers.{layouts_of}
use Rattle.strips.specs.Loads.{Reading}

abbrev pub reading_of : Reader → Reading
reading_of r = record { done = layouts_of r.done; fields = vec_items r.open.fields; from = r.open.from }
