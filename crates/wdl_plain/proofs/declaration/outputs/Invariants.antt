use Rattle.std.proofs.Common.{drop, map}
use Rattle.wdl_typed.specs.declared.task.TDecl.{TDecl}
use Rattle.wdl_typed.specs.Flow as flow
use Rattle.flow_soundness.specs.Readiness.{AreDeclsReady}
use Rattle.wdl_plain.specs.Views.{flowing_of, sight_of}
use Rattle.wdl_plain.proofs.Turns.{Going}
use Rattle.wdl_plain.proofs.declaration.outputs.Given as goal

abbrev pub invariant-loop-output : goal.invariant-loop-output
invariant-loop-output g l =
    Going (flowing_of l.total)
    (map (λ (d : TDecl) (s : flow.Sight). flow.declaration s d.name d.value) (drop l.output-index l.outputs))
    (sight_of l.sight) (sight_of l.initial.sight) (flow.outputs l.outputs (sight_of l.initial.sight))
    × AreDeclsReady (drop l.output-index l.outputs) (sight_of l.sight)
