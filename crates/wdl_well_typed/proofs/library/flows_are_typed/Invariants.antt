use Rattle.std.proofs.Common.{◌≡◌, drop}
use Rattle.std.specs.List.{list_all}
use Rattle.wdl_typed.specs.Kept.{flow_typed}
use Rattle.wdl_well_typed.specs.Calls.{library_of}
use Rattle.wdl_well_typed.proofs.library.flows_are_typed.Given as goal

abbrev pub invariant-loop-flow : goal.invariant-loop-flow
invariant-loop-flow l = list_all (flow_typed (library_of l.library)) (drop l.flow-index l.flow-items) ≡ list_all (flow_typed (library_of l.library)) l.library.flows.now
