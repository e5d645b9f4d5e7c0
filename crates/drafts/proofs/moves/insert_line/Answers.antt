use Rattle.std.proofs.Common.{arith}
use Rattle.changes.proofs.Moving.{insert-holds}
use Rattle.drafts.proofs.moves.insert_line.Goals as goal

pub returns : goal.returns
returns c = record {
  used = omega arith;
  holds = insert-holds _ _ _ _ _ _ _ c.requires.inside c.requires.room c.copy_within.ensures.after c.copy_from_slice.ensures.after c.copy_from_slice-2.ensures.after;
}
