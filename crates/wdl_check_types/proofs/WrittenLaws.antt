-- A written type by its parts.
use Rattle.std.proofs.Common.{◌≡◌, List, refl, ◌∙◌}
use Rattle.wdl_base.specs.declared.span.Span.{Span}
use Rattle.wdl_value.specs.declared.ty.Ty.{Ty}
use Rattle.wdl_ast.specs.declared.type_tree.BaseType.{BaseType}
use Rattle.wdl_ast.specs.declared.type_tree.BaseType.TheVariants as base
use Rattle.wdl_ast.specs.declared.type_tree.TypeTree.{TypeTree, map-TypeTree, out-TypeTree, fold_out-TypeTree}
use Rattle.wdl_check_rules.specs.Locals.{Naming}
use Rattle.wdl_check_types.specs.Outcome.{Outcome, done, then_}
use Rattle.wdl_check_types.specs.Written.{base_written, marked, written, written_step}

at_layer : (locals : Naming) (b : BaseType TypeTree) (questions : List Span)
    → written_step locals (map-TypeTree TypeTree (Outcome Ty) (written locals) (record { base = b; questions = questions }))
    ≡ then_ (base_written (written locals) locals b) (λ t. done (marked questions t))
at_layer locals (base.Boolean s) questions = refl
at_layer locals (base.Int s) questions = refl
at_layer locals (base.Str s) questions = refl
at_layer locals (base.File s) questions = refl
at_layer locals (base.Struct n) questions = refl
at_layer locals (base.Array w o item c plus) questions = refl
at_layer locals (base.Map w o key m value c) questions = refl
at_layer locals (base.Pair w o left m right c) questions = refl

pub written_out : (locals : Naming) (tree : TypeTree)
    → written locals tree ≡ then_ (base_written (written locals) locals (out-TypeTree tree).base) (λ t. done (marked (out-TypeTree tree).questions t))
written_out locals tree =
    fold_out-TypeTree (Outcome Ty) (written_step locals) tree ∙ at_layer locals (out-TypeTree tree).base (out-TypeTree tree).questions
