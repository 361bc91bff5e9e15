use Rattle.std.proofs.Common.{◌≡◌, ℕ, [], length}
use Rattle.wdl_order.proofs.Greedy.{Greedy}
use Rattle.wdl_order.specs.Rows.{has, is_set}
use Rattle.wdl_order.specs.Working.{IsKept}
use Rattle.wdl_typed.specs.Lists.{has_number}
use Rattle.wdl_order.proofs.least.least_order.Given as goal

abbrev pub invariant-loop : goal.invariant-loop
invariant-loop l = record {
  kept : IsKept (has l.fn.needs.items) l.work [];
  flags : length l.work.placed.items ≡ length l.fn.needs.items;
  placed : (p : ℕ) → is_set l.work.placed.items p ≡ has_number p l.order.items;
  greedy : Greedy (length l.fn.needs.items) (has l.fn.needs.items) [] l.order.items;
  long : length l.order.items ≡ l.counter;
}
