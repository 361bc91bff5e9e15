use Rattle.std.proofs.Common.{◌≡◌, true, [], ◌∷◌, drop}
use Rattle.std.specs.List.{slice_set}
use Rattle.wdl_order.specs.Positions.{Need}
use Rattle.wdl_order.specs.Working.{IsKept, IsFree}
use Rattle.wdl_order.proofs.working.Working.place.Given as goal

abbrev pub invariant-loop-waiter : goal.invariant-loop-waiter
invariant-loop-waiter l = record {
  flags : l.self.placed.items ≡ slice_set l.fn.self.placed.items l.member true;
  kept : (need : Need) → IsKept need l.fn.self (l.member ∷ []) → IsFree need l.fn.self.placed.items l.fn.self.ready l.member
      → IsKept need l.self (drop l.waiter-index l.waiter-items);
}
