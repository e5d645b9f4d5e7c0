-- The lists that vectors of vectors hold.
use Rattle.std.specs.Prelude.{List, map, vec_items, Vec}
use Rattle.std.specs.declared.alloc.Global.{Global}
use Rattle.layouts.specs.declared.field.Field.{Field}

abbrev pub lists_of : List (Vec Field Global) → List (List Field)
lists_of vs = map vec_items vs

abbrev pub layouts_of : Vec (Vec Field Global) Global → List (List Field)
layouts_of v = lists_of (vec_items v)
