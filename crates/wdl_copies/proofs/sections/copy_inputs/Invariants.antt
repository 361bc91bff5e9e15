use Rattle.std.proofs.Common.{◌≡◌, ◌++◌, drop, map}
use Rattle.wdl_check_rules.specs.Locals.{stands_for}
use Rattle.wdl_copies.specs.Renamed.{input_with}
use Rattle.wdl_copies.proofs.sections.copy_inputs.Given as goal

abbrev pub invariant-loop-input : goal.invariant-loop-input
invariant-loop-input l = l.inputs ++ map (input_with (stands_for l.locals)) (drop l.input-index l.section.inputs) ≡ map (input_with (stands_for l.locals)) l.section.inputs
