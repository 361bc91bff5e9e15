use Rattle.std.proofs.Common.{◌≡◌, ◌++◌, drop, map}
use Rattle.wdl_typed.specs.declared.task.TDecl.{TDecl}
use Rattle.wdl_typed.specs.Declarations.{plain_key}
use Rattle.wdl_typed.specs.Flow.{env_of, known}
use Rattle.wdl_typed.specs.Scope.{lookup}
use Rattle.wdl_plain.specs.Views.{env_in}
use Rattle.wdl_plain.proofs.flow.outputs_in.Given as goal

abbrev pub invariant-loop-output : goal.invariant-loop-output
invariant-loop-output l =
    l.env ++ env_of (map (λ (d : TDecl). known d.name (lookup (env_in l.names) (plain_key d.name))) (drop l.output-index l.outputs))
    ≡ env_of (map (λ (d : TDecl). known d.name (lookup (env_in l.names) (plain_key d.name))) l.outputs)
