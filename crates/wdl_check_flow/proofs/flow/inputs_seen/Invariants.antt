use Rattle.std.proofs.Common.{◌≡◌, ◌++◌, drop}
use Rattle.wdl_typed.specs.Declarations.{inputs_bound}
use Rattle.wdl_check_flow.specs.Flows.{inputs_seen}
use Rattle.wdl_check_flow.proofs.SeenLaws.{seen_with}
use Rattle.wdl_check_flow.proofs.flow.inputs_seen.Given as goal

abbrev pub invariant-loop-input : goal.invariant-loop-input
invariant-loop-input l =
    seen_with (l.visible.names ++ inputs_bound (drop l.input-index l.inputs)) l.visible.calls ≡ inputs_seen l.inputs
