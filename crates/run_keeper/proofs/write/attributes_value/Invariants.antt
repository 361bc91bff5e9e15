use Rattle.std.proofs.Common.{◌≡◌, map, take}
use Rattle.serde_json.specs.View.{view}
use Rattle.run_keeper.specs.RowText.{attribute_data}
use Rattle.run_keeper.proofs.write.attributes_value.Given as goal

abbrev pub invariant-loop-attribute : goal.invariant-loop-attribute
invariant-loop-attribute l = map view l.all.items ≡ map attribute_data (take l.attribute-index l.attributes)
