use Rattle.std.proofs.Common.{◌≡◌, map, take}
use Rattle.serde_json.specs.View.{view}
use Rattle.run_keeper.specs.RowText.{laid_data}
use Rattle.run_keeper.proofs.write.laid_value.Given as goal

abbrev pub invariant-loop-file : goal.invariant-loop-file
invariant-loop-file l = map view l.all.items ≡ map laid_data (take l.file-index l.files)
