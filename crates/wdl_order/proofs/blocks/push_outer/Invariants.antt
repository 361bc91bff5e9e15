use Rattle.std.proofs.Common.{◌≡◌, ◌++◌, drop}
use Rattle.wdl_typed.specs.Order.{without}
use Rattle.wdl_order.proofs.blocks.push_outer.Given as goal

abbrev pub invariant-loop-name : goal.invariant-loop-name
invariant-loop-name l = l.names ++ without l.inside (drop l.name-index l.body) ≡ l.fn.names ++ without l.inside l.body
