use Rattle.std.proofs.Common.{◌≡◌, map, take}
use Rattle.leaf_image.specs.Records.{expanded}
use Rattle.struct_leaves.specs.Settings.{setting_of}
use Rattle.struct_leaves.proofs.expanding.+expanding.Given as goal

abbrev pub invariant-expanded_body-loop-statement : goal.invariant-expanded_body-loop-statement
invariant-expanded_body-loop-statement l = l.all ≡ map (expanded (setting_of l.setting)) (take l.statement-index l.body)
