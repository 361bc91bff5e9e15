use Rattle.std.proofs.Common.{◌≡◌, true, take}
use Rattle.wdl_typed.specs.Declarations.{decl_names}
use Rattle.cwl_image.specs.Named.{are_names}
use Rattle.cwl_rules.proofs.named.see_decls.Given as goal

abbrev pub invariant-loop-d : goal.invariant-loop-d
invariant-loop-d l = are_names (decl_names (take l.d-index l.decls)) ≡ true
