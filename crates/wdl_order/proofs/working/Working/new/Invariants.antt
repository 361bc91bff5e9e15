use Rattle.std.proofs.Common.{◌≡◌, ◌-◌, false, length, replicate}
use Rattle.std.specs.List.{range_with_len}
use Rattle.wdl_order.specs.Rows.{has}
use Rattle.wdl_order.specs.Working.{IsKept}
use Rattle.wdl_order.proofs.working.Working.new.Given as goal

abbrev pub invariant-loop-member : goal.invariant-loop-member
invariant-loop-member l = record {
  placed : l.work.placed.items ≡ replicate (length l.fn.needs.items) false;
  kept : IsKept (has l.fn.needs.items) l.work (range_with_len l.member (length l.fn.needs.items - l.member));
}
