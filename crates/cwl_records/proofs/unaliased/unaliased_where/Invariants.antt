use Rattle.std.proofs.Common.{◌≡◌, ◌++◌, drop}
use Rattle.wdl_typed.specs.Bodies.{library}
use Rattle.cwl_records.specs.Lowered.{unaliased_where}
use Rattle.cwl_records.proofs.unaliased.unaliased_where.Given as goal

abbrev pub invariant-loop-flow : goal.invariant-loop-flow
invariant-loop-flow l = l.all ++ unaliased_where (library l.structs l.tasks l.flows) (drop l.flow-index l.flows) l.left ≡ unaliased_where (library l.structs l.tasks l.flows) l.flows l.marks
