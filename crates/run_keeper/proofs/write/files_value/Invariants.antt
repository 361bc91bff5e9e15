use Rattle.std.proofs.Common.{◌≡◌, map, take}
use Rattle.serde_json.specs.View.{view}
use Rattle.run_keeper.specs.RowText.{seen_data}
use Rattle.run_keeper.proofs.write.files_value.Given as goal

abbrev pub invariant-loop-file : goal.invariant-loop-file
invariant-loop-file l = map view l.all.items ≡ map seen_data (take l.file-index l.files)
