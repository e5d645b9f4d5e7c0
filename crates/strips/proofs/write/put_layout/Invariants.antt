use Rattle.std.proofs.Common.{◌≡◌, ◌++◌, vec_items}
use Rattle.std.specs.List.{flat_map}
use Rattle.layouts.specs.Layouts.{layout_at}
use Rattle.strips.specs.Strips.{strip_of}
use Rattle.strips.proofs.write.put_layout.Given as goal

abbrev pub invariant-loop-f : goal.invariant-loop-f
invariant-loop-f g l =
    vec_items l.out ++ flat_map strip_of l.f-iterator ≡ vec_items l.initial.out ++ flat_map strip_of (layout_at (g.S.LayoutSet.meaning l.set) l.j)
