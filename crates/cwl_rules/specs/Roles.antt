-- Declarations, by where they stand.
use Rattle.std.specs.Prelude.{Bool, false, List, ◌++◌, ◌&&◌}
use Rattle.wdl_value.specs.Fits.{Structs}
use Rattle.wdl_typed.specs.declared.expr.TExpr.{TExpr}
use Rattle.wdl_typed.specs.declared.scope.Bound.{Bound}
use Rattle.wdl_typed.specs.declared.task.TDecl.{TDecl}
use Rattle.cwl_image.specs.declared.broken.Broken.{Broken}
use Rattle.cwl_image.specs.Expressions.{are_allowed, is_file, is_file_type, is_simple, output_allowed, refers_to_output}
use Rattle.cwl_image.specs.Subset.{unless}
use Rattle.cwl_rules.specs.declared.declaration.Role.{Role}
use Rattle.cwl_rules.specs.declared.declaration.Role.TheVariants as role

abbrev pub value_allowed : Role → Structs → List Bound → TExpr → Bool
value_allowed role.Private structs names e = are_allowed structs names e false
value_allowed role.TaskOutput structs names e = output_allowed structs names e
value_allowed role.FlowOutput structs names e = are_allowed structs names e false
value_allowed role.Body structs names e = are_allowed structs names e false

-- the rule of its place
abbrev pub place_broken : Role → Structs → List Bound → TDecl → List Broken
place_broken role.Private structs names d = unless false 608 d.span
place_broken role.TaskOutput structs names d = unless (is_file_type d.ty && is_file d.value) 611 d.span
place_broken role.FlowOutput structs names d = unless (refers_to_output structs names d.value) 612 d.span
place_broken role.Body structs names d = unless false 602 d.span

abbrev pub decl_broken : Role → Structs → List Bound → TDecl → List Broken
decl_broken r structs names d =
    unless (is_simple d.ty) 605 d.span ++ unless (value_allowed r structs names d.value) 606 d.span ++ place_broken r structs names d
