use Rattle.std.proofs.Common.{arith}
use Rattle.changes.proofs.Moving.{splice-holds}
use Rattle.drafts.proofs.moves.splice.Goals as goal

pub returns : goal.returns
returns c = record {
  used = omega arith;
  holds = splice-holds _ _ _ _ _ _ _ c.requires.inside c.requires.used c.requires.room c.copy_within.ensures.after c.copy_from_slice.ensures.after;
}
