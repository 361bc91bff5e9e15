use Rattle.std.proofs.Common.{◌≡◌, ◌++◌, drop, map}
use Rattle.wdl_check_rules.specs.Locals.{stands_for}
use Rattle.wdl_copies.specs.Renamed.{attribute_with}
use Rattle.wdl_copies.proofs.task.copy_runtime.Given as goal

abbrev pub invariant-loop-attribute : goal.invariant-loop-attribute
invariant-loop-attribute l = l.attributes ++ map (attribute_with (stands_for l.locals)) (drop l.attribute-index l.section.attributes) ≡ map (attribute_with (stands_for l.locals)) l.section.attributes
