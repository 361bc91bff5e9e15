use Rattle.std.proofs.Common.{◌<◌, length}
use Rattle.wdl_order.proofs.working.Working.on_circle.Given as goal

abbrev pub invariant-loop : goal.invariant-loop
invariant-loop l = l.at < length l.self.left.items
