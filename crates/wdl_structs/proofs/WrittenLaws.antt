-- A written type by its parts.
use Rattle.std.proofs.Common.{◌≡◌, ℕ, List, refl, ◌∙◌, Some, None}
use Rattle.wdl_base.specs.declared.span.Span.{Span}
use Rattle.wdl_value.specs.declared.ty.Ty.{Ty}
use Rattle.wdl_ast.specs.declared.type_tree.BaseType.{BaseType}
use Rattle.wdl_ast.specs.declared.type_tree.BaseType.TheVariants as base
use Rattle.wdl_ast.specs.declared.type_tree.TypeTree.{TypeTree, map-TypeTree, out-TypeTree, fold_out-TypeTree}
use Rattle.wdl_library.specs.Structs.{optional, type_step, written_type}
use Rattle.wdl_structs.specs.Members.{base_written}

at_layer : (stand : List ℕ → List ℕ) (b : BaseType TypeTree) (questions : List Span)
    → type_step stand (map-TypeTree TypeTree Ty (written_type stand) (record { base = b; questions = questions })) ≡ optional questions (base_written stand b)
at_layer stand (base.Boolean s) questions = refl
at_layer stand (base.Int s) questions = refl
at_layer stand (base.Str s) questions = refl
at_layer stand (base.File s) questions = refl
at_layer stand (base.Struct n) questions = refl
at_layer stand (base.Array w o item c None) questions = refl
at_layer stand (base.Array w o item c (Some p)) questions = refl
at_layer stand (base.Map w o key m value c) questions = refl
at_layer stand (base.Pair w o left m right c) questions = refl

pub written_out : (stand : List ℕ → List ℕ) (tree : TypeTree) → written_type stand tree ≡ optional (out-TypeTree tree).questions (base_written stand (out-TypeTree tree).base)
written_out stand tree = fold_out-TypeTree Ty (type_step stand) tree ∙ at_layer stand (out-TypeTree tree).base (out-TypeTree tree).questions
