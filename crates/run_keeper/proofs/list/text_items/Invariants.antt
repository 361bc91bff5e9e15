use Rattle.std.proofs.Common.{drop}
use Rattle.run_keeper.specs.Ahead.{IsRead}
use Rattle.run_keeper.specs.Entries.{IsText}
use Rattle.serde_json.specs.Data.{string}
use Rattle.run_keeper.proofs.list.text_items.Given as goal

abbrev pub invariant-loop-value : goal.invariant-loop-value
invariant-loop-value l = IsRead string IsText l.values (drop l.value-index l.values) l.all
