use Rattle.std.proofs.Common.{rules, arith}
use Rattle.ready_core.proofs.Stops.{spare_most}
use Rattle.ready_core.proofs.log.Log.make_room.Goals as goal

pub returns-clause-room : goal.returns-clause-room
returns-clause-room c =
    record {
      taken = search rules;
      out = search rules;
      steps = omega (arith, c.in_ok-reserve-3.ensures.ok, c.len.ensures, c.len-2.ensures, spare_most c.reserve-3.new.self.items);
    }
