use Rattle.std.proofs.Common.{◌≡◌, take}
use Rattle.wdl_typed.specs.Bodies.{library}
use Rattle.cwl_subset.specs.Tables.{own_table}
use Rattle.cwl_subset.proofs.flow.flows_broken.Given as goal

abbrev pub invariant-loop-flow : goal.invariant-loop-flow
invariant-loop-flow l =
    l.table ≡ own_table (library l.structs l.tasks l.flows) (take l.flow-index l.flows)
