use Rattle.std.proofs.Common.{drop, map}
use Rattle.wdl_typed.specs.declared.task.TInput.{TInput}
use Rattle.wdl_typed.specs.Declarations.{plain_key}
use Rattle.wdl_typed.specs.Flow as flow
use Rattle.wdl_typed.specs.Scope.{lookup}
use Rattle.flow_soundness.specs.Readiness.{AreInputsReady}
use Rattle.wdl_plain.specs.Views.{env_in, flowing_of, sight_of}
use Rattle.wdl_plain.proofs.Turns.{Going}
use Rattle.wdl_plain.proofs.declaration.inputs.Given as goal

abbrev pub invariant-loop-input : goal.invariant-loop-input
invariant-loop-input g l =
    Going (flowing_of l.total)
    (map (λ (i : TInput) (s : flow.Sight). flow.input_of s i (lookup (env_in l.given) (plain_key i.name))) (drop l.input-index l.inputs))
    (sight_of l.sight) (sight_of l.initial.sight) (flow.inputs (env_in l.given) l.inputs (sight_of l.initial.sight))
    × AreInputsReady (env_in l.given) (drop l.input-index l.inputs) (sight_of l.sight)
