use Rattle.std.proofs.Common.{◌≡◌, ◌++◌, drop, map}
use Rattle.wdl_check_rules.specs.Locals.{stands_for}
use Rattle.wdl_copies.specs.Renamed.{declaration_with}
use Rattle.wdl_copies.proofs.sections.copy_outputs.Given as goal

abbrev pub invariant-loop-output : goal.invariant-loop-output
invariant-loop-output l = l.outputs ++ map (declaration_with (stands_for l.locals)) (drop l.output-index l.section.outputs) ≡ map (declaration_with (stands_for l.locals)) l.section.outputs
