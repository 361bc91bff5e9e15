use Rattle.std.proofs.Common.{◌≡◌, ℕ, false, None, length, slice_get, slice_index_or, take}
use Rattle.wdl_typed.specs.Lists.{has_number}
use Rattle.wdl_typed.specs.Order.{picked}
use Rattle.statement_order.proofs.picking.picked.Given as goal

abbrev pub invariant-loop-at : goal.invariant-loop-at
invariant-loop-at g l = record {
  items : l.items ≡ picked l.fn.list (take l.at-index l.positions);
  long : length l.slots.items ≡ length l.fn.list;
  slots : (k : ℕ) → has_number k (take l.at-index l.positions) ≡ false → slice_index_or l.slots.items k None ≡ slice_get l.fn.list k;
}
