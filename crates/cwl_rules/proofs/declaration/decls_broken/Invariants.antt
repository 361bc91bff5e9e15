use Rattle.std.proofs.Common.{◌≡◌, drop}
use Rattle.cwl_image.specs.Subset.{each_broken}
use Rattle.cwl_rules.specs.Lowest.{lower, lowest}
use Rattle.cwl_rules.specs.Roles.{decl_broken}
use Rattle.cwl_rules.proofs.declaration.decls_broken.Given as goal

abbrev pub invariant-loop-d : goal.invariant-loop-d
invariant-loop-d l =
    lower l.found (lowest (each_broken (decl_broken l.role l.structs l.names) (drop l.d-index l.decls)))
    ≡ lowest (each_broken (decl_broken l.role l.structs l.names) l.decls)
