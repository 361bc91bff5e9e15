-- A written type with other names of structs, by its parts.
use Rattle.std.proofs.Common.{◌≡◌, List, refl, ◌∙◌}
use Rattle.wdl_base.specs.declared.span.Span.{Span}
use Rattle.wdl_ast.specs.declared.type_tree.BaseType.{BaseType}
use Rattle.wdl_ast.specs.declared.type_tree.BaseType.TheVariants as base
use Rattle.wdl_ast.specs.declared.type_tree.TypeTree.{TypeTree, fold_out-TypeTree, map-TypeTree, out-TypeTree, roll-TypeTree}
use Rattle.wdl_check_rules.specs.Locals.{Naming}
use Rattle.wdl_copies.specs.Renamed.{base_with, renamed_type, type_step}

at_layer : (locals : Naming) (b : BaseType TypeTree) (questions : List Span)
    → type_step locals (map-TypeTree TypeTree TypeTree (renamed_type locals) (record { base = b; questions = questions }))
    ≡ roll-TypeTree (record { base = base_with locals b; questions = questions })
unfolding renamed_type
at_layer locals (base.Boolean s) questions = refl
at_layer locals (base.Int s) questions = refl
at_layer locals (base.Str s) questions = refl
at_layer locals (base.File s) questions = refl
at_layer locals (base.Struct n) questions = refl
at_layer locals (base.Array w o item c plus) questions = refl
at_layer locals (base.Map w o key m value c) questions = refl
at_layer locals (base.Pair w o left m right c) questions = refl

pub renamed_out : (locals : Naming) (tree : TypeTree)
    → renamed_type locals tree ≡ roll-TypeTree (record { base = base_with locals (out-TypeTree tree).base; questions = (out-TypeTree tree).questions })
unfolding renamed_type
renamed_out locals tree = fold_out-TypeTree TypeTree (type_step locals) tree ∙ at_layer locals (out-TypeTree tree).base (out-TypeTree tree).questions
