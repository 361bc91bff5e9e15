use Rattle.std.proofs.Common.{drop}
use Rattle.run_keeper.specs.Ahead.{IsRead}
use Rattle.run_keeper.specs.Entries.{IsLaid}
use Rattle.run_keeper.specs.RowText.{laid_data}
use Rattle.run_keeper.proofs.list.laid_items.Given as goal

abbrev pub invariant-loop-value : goal.invariant-loop-value
invariant-loop-value l = IsRead laid_data IsLaid l.values (drop l.value-index l.values) l.all
