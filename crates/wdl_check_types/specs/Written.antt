-- The types that a document writes (OpenWDL 1.1, "Types").
use Rattle.std.specs.Prelude.{Bool, true, false, List, [], ◌∷◌, Option, Some, None, option_map, if◌then◌else◌}
use Rattle.wdl_base.specs.declared.span.Span.{Span}
use Rattle.wdl_value.specs.declared.ty.Ty.{Ty}
use Rattle.wdl_value.specs.declared.ty.Ty.TheVariants as ty
use Rattle.wdl_value.specs.Kinds.{is_scalar}
use Rattle.wdl_ast.specs.declared.leaf.Ident.{Ident}
use Rattle.wdl_ast.specs.declared.type_tree.BaseType.{BaseType}
use Rattle.wdl_ast.specs.declared.type_tree.BaseType.TheVariants as base
use Rattle.wdl_ast.specs.declared.type_tree.TypeTree.{TypeTree, TypeTree-F, fold-TypeTree}
use Rattle.wdl_check_rules.specs.Spans.{joined}
use Rattle.wdl_check_rules.specs.Locals.{Naming}
use Rattle.wdl_check_types.specs.Outcome.{Outcome, done, refused, then_, or_refused}

abbrev pub is_there : {A : Type 0} → Option A → Bool
is_there None = false
is_there (Some a) = true

-- 329: keys of a type that no map has
abbrev pub map_written : Span → Ty → Ty → Outcome Ty
map_written span k t = if is_scalar k then done (ty.Map k t) else refused 329 span

-- 329: no struct of that name
abbrev pub struct_written : Naming → Ident → Outcome Ty
struct_written locals n = or_refused 329 n.span (option_map ty.Struct (locals n.name))

-- `f` gives what stands for a type inside
abbrev pub base_written : {T : Type 0} → (T → Outcome Ty) → Naming → BaseType T → Outcome Ty
base_written f locals (base.Boolean s) = done ty.Bool
base_written f locals (base.Int s) = done ty.Int
base_written f locals (base.Str s) = done ty.Str
base_written f locals (base.File s) = done ty.File
base_written f locals (base.Struct n) = struct_written locals n
base_written f locals (base.Array w o item c plus) = then_ (f item) (λ t. done (ty.Array t (is_there plus)))
base_written f locals (base.Map w o key m value c) = then_ (f key) (λ k. then_ (f value) (λ t. map_written (joined w c) k t))
base_written f locals (base.Pair w o left m right c) = then_ (f left) (λ t. then_ (f right) (λ u. done (ty.Pair t u)))

-- a type with one `?` or more is optional
abbrev pub marked : List Span → Ty → Ty
marked [] t = t
marked (q ∷ qs) t = ty.Opt t

abbrev pub written_step : Naming → TypeTree-F (Outcome Ty) → Outcome Ty
written_step locals tree = then_ (base_written (λ (o : Outcome Ty). o) locals tree.base) (λ t. done (marked tree.questions t))

-- the type that a document writes, by its names of structs
abbrev pub written : Naming → TypeTree → Outcome Ty
written locals = fold-TypeTree (Outcome Ty) (written_step locals)
