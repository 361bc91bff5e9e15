use Rattle.std.proofs.Common.{◌≡◌, map, take}
use Rattle.wdl_order.specs.Names.{as_needing}
use Rattle.statement_order.proofs.ordering.uses_of.Given as goal

abbrev pub invariant-loop-member : goal.invariant-loop-member
invariant-loop-member g l = map as_needing l.all.items ≡ map g.M.Member.needing (take l.member-index l.list)
