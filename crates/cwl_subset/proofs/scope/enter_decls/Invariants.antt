use Rattle.std.proofs.Common.{◌≡◌, ◌++◌, drop}
use Rattle.wdl_typed.specs.Declarations.{decls_bound}
use Rattle.cwl_subset.proofs.scope.enter_decls.Given as goal

abbrev pub invariant-loop-d : goal.invariant-loop-d
invariant-loop-d l = l.names ++ decls_bound (drop l.d-index l.decls) ≡ l.initial.names ++ decls_bound l.decls
