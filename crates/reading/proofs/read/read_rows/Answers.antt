use Rattle.std.proofs.Common.{refl, arith}
use Rattle.reading.proofs.Outcomes.{belongs-follows}
use Rattle.reading.proofs.read.read_rows.Goals as goal

pub count_rows-needed-requires : goal.count_rows-needed-requires
count_rows-needed-requires g c =
    belongs-follows (g.S.LayoutSet.meaning c.args.set.now) c.in_ok-j.j c.args.line.now ((c.in_ok-j.ensures.accepted_exactly_when_it_belongs c.in_ok-j.j).0 refl)

pub put_rows-requires : goal.put_rows-requires
put_rows-requires g c =
    let n = c.count_rows-needed.ensures in
    record {
      follows = belongs-follows (g.S.LayoutSet.meaning c.args.set.now) c.in_ok-j.j c.args.line.now ((c.in_ok-j.ensures.accepted_exactly_when_it_belongs c.in_ok-j.j).0 refl);
      room = omega arith;
    }
