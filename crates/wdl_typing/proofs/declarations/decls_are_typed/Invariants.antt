use Rattle.std.proofs.Common.{◌≡◌, ◌++◌, drop}
use Rattle.wdl_typed.specs.Declarations.{decls_bound, decls_typed}
use Rattle.wdl_typing.specs.Standings.{type_at}
use Rattle.wdl_typing.proofs.declarations.decls_are_typed.Given as goal

abbrev pub invariant-loop-d : goal.invariant-loop-d
invariant-loop-d l =
    (l.names ++ decls_bound (drop l.d-index l.decls) ≡ l.initial.names ++ decls_bound l.decls)
    × (decls_typed (type_at l.standing l.structs) l.structs l.names (drop l.d-index l.decls)
    ≡ decls_typed (type_at l.standing l.structs) l.structs l.initial.names l.decls)
