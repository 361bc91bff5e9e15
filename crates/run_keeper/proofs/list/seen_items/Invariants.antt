use Rattle.std.proofs.Common.{drop}
use Rattle.run_keeper.specs.Ahead.{IsRead}
use Rattle.run_keeper.specs.Entries.{IsSeen}
use Rattle.run_keeper.specs.RowText.{seen_data}
use Rattle.run_keeper.proofs.list.seen_items.Given as goal

abbrev pub invariant-loop-value : goal.invariant-loop-value
invariant-loop-value l = IsRead seen_data IsSeen l.values (drop l.value-index l.values) l.all
