use Rattle.std.proofs.Common.{◌≡◌, map, take}
use Rattle.wdl_typed.specs.declared.task.TDecl.{TDecl}
use Rattle.cwl_flow.proofs.calls.out_ids.Given as goal

abbrev pub invariant-loop-output : goal.invariant-loop-output
invariant-loop-output l = l.ids ≡ map (λ (d : TDecl). d.name) (take l.output-index l.outputs)
