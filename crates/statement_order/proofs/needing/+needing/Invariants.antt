use Rattle.std.proofs.Common.{◌≡◌, ◌++◌, drop, map}
use Rattle.wdl_typed.specs.Order.{all_given, all_referred, statement_needing}
use Rattle.statement_order.proofs.needing.+needing.Given as goal

abbrev pub invariant-body_uses-loop-statement : goal.invariant-body_uses-loop-statement
invariant-body_uses-loop-statement l = record {
  gives : l.gives ++ all_given (map statement_needing (drop l.statement-index l.body)) ≡ all_given (map statement_needing l.body);
  refers : l.refers ++ all_referred (map statement_needing (drop l.statement-index l.body)) ≡ all_referred (map statement_needing l.body);
}
