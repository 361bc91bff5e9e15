use Rattle.std.proofs.Common.{drop}
use Rattle.run_keeper.specs.Ahead.{IsRead}
use Rattle.run_keeper.specs.Entries.{IsAttribute}
use Rattle.run_keeper.specs.RowText.{attribute_data}
use Rattle.run_keeper.proofs.list.attribute_items.Given as goal

abbrev pub invariant-loop-value : goal.invariant-loop-value
invariant-loop-value l = IsRead attribute_data IsAttribute l.values (drop l.value-index l.values) l.all
