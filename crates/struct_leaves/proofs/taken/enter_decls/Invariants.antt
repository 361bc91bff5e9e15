use Rattle.std.proofs.Common.{◌≡◌, ◌++◌, take}
use Rattle.wdl_typed.specs.Declarations.{decl_names}
use Rattle.struct_leaves.proofs.taken.enter_decls.Given as goal

abbrev pub invariant-loop-d : goal.invariant-loop-d
invariant-loop-d l = l.names ≡ l.initial.names ++ decl_names (take l.d-index l.decls)
