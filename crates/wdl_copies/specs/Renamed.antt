-- Trees with the names of structs as the library has them, and without metadata.
use Rattle.std.specs.Prelude.{ℕ, List, [], ◌∷◌, ◌++◌, map, option_map}
use Rattle.wdl_ast.specs.declared.document.StructMember.{StructMember}
use Rattle.wdl_ast.specs.declared.document.StructSection.{StructSection}
use Rattle.wdl_ast.specs.declared.expr.Expr.{Expr}
use Rattle.wdl_base.specs.declared.span.Span.{Span}
use Rattle.wdl_ast.specs.declared.leaf.Attribute.{Attribute}
use Rattle.wdl_ast.specs.declared.leaf.Ident.{Ident}
use Rattle.wdl_ast.specs.declared.section.Assigned.{Assigned}
use Rattle.wdl_ast.specs.declared.section.Declaration.{Declaration}
use Rattle.wdl_ast.specs.declared.section.InputDeclaration.{InputDeclaration}
use Rattle.wdl_ast.specs.declared.section.InputSection.{InputSection}
use Rattle.wdl_ast.specs.declared.section.OutputSection.{OutputSection}
use Rattle.wdl_ast.specs.declared.task.CommandSection.{CommandSection}
use Rattle.wdl_ast.specs.declared.task.RuntimeSection.{RuntimeSection}
use Rattle.wdl_ast.specs.declared.task.TaskElement.{TaskElement}
use Rattle.wdl_ast.specs.declared.task.TaskElement.TheVariants as task
use Rattle.wdl_ast.specs.declared.task.TaskSection.{TaskSection}
use Rattle.wdl_ast.specs.declared.type_tree.BaseType.{BaseType}
use Rattle.wdl_ast.specs.declared.type_tree.BaseType.TheVariants as base
use Rattle.wdl_ast.specs.declared.type_tree.TypeTree.{TypeTree, TypeTree-F, fold-TypeTree, roll-TypeTree}
use Rattle.wdl_check_rules.specs.Locals.{Naming}
use Rattle.wdl_copies.specs.Expressions.{renamed, renamed_ident}
use Rattle.wdl_copies.specs.Parts.{parts_with}

-- ---- types

abbrev pub renamed_base : Naming → BaseType TypeTree → BaseType TypeTree
renamed_base locals (base.Struct n) = base.Struct (renamed_ident locals n)
renamed_base locals b = b

abbrev pub type_step : Naming → TypeTree-F TypeTree → TypeTree
type_step locals t = roll-TypeTree (record { base = renamed_base locals t.base; questions = t.questions })

unfoldable pub renamed_type : Naming → TypeTree → TypeTree
renamed_type locals = fold-TypeTree TypeTree (type_step locals)

-- a written type without its `?`
abbrev pub base_with : Naming → BaseType TypeTree → BaseType TypeTree
base_with locals (base.Array w o item c plus) = base.Array w o (renamed_type locals item) c plus
base_with locals (base.Map w o key m value c) = base.Map w o (renamed_type locals key) m (renamed_type locals value) c
base_with locals (base.Pair w o left m right c) = base.Pair w o (renamed_type locals left) m (renamed_type locals right) c
base_with locals (base.Struct n) = base.Struct (renamed_ident locals n)
base_with locals b = b

-- ---- sections

abbrev pub declaration_with : Naming → Declaration → Declaration
declaration_with locals d = record { ty = renamed_type locals d.ty; name = d.name; assign = d.assign; value = renamed locals d.value }

abbrev pub assigned_with : Naming → Assigned → Assigned
assigned_with locals a = record { assign = a.assign; value = renamed locals a.value }

abbrev pub input_with : Naming → InputDeclaration → InputDeclaration
input_with locals i = record { ty = renamed_type locals i.ty; name = i.name; preset = option_map (assigned_with locals) i.preset }

abbrev pub inputs_with : Naming → InputSection → InputSection
inputs_with locals s = record { keyword = s.keyword; opening = s.opening; inputs = map (input_with locals) s.inputs; closing = s.closing }

abbrev pub outputs_with : Naming → OutputSection → OutputSection
outputs_with locals s = record { keyword = s.keyword; opening = s.opening; outputs = map (declaration_with locals) s.outputs; closing = s.closing }

abbrev pub attribute_with : Naming → Attribute Expr → Attribute Expr
attribute_with locals a = record { key = a.key; colon = a.colon; value = renamed locals a.value; comma = a.comma }

abbrev pub runtime_with : Naming → RuntimeSection → RuntimeSection
runtime_with locals s = record { keyword = s.keyword; opening = s.opening; attributes = map (attribute_with locals) s.attributes; closing = s.closing }

abbrev pub command_with : Naming → CommandSection → CommandSection
command_with locals s = record { keyword = s.keyword; fence = s.fence; opening = s.opening; parts = parts_with (renamed locals) s.parts; closing = s.closing }

-- ---- tasks

-- metadata goes
abbrev pub element_with : Naming → TaskElement → List TaskElement
element_with locals (task.Input s) = task.Input (inputs_with locals s) ∷ []
element_with locals (task.Output s) = task.Output (outputs_with locals s) ∷ []
element_with locals (task.Runtime s) = task.Runtime (runtime_with locals s) ∷ []
element_with locals (task.Meta s) = []
element_with locals (task.ParameterMeta s) = []
element_with locals (task.Command s) = task.Command (command_with locals s) ∷ []
element_with locals (task.Declaration d) = task.Declaration (declaration_with locals d) ∷ []

abbrev pub elements_with : Naming → List TaskElement → List TaskElement
elements_with locals [] = []
elements_with locals (e ∷ es) = element_with locals e ++ elements_with locals es

abbrev pub ident_at : List ℕ → Span → Ident
ident_at name s = record { name = name; span = s }

-- a task under another name
abbrev pub task_with : Naming → List ℕ → TaskSection → TaskSection
task_with locals name t =
    record { keyword = t.keyword; name = ident_at name t.name.span; opening = t.opening; elements = elements_with locals t.elements; closing = t.closing }

-- ---- structs

abbrev pub member_with : Naming → StructMember → StructMember
member_with locals m = record { ty = renamed_type locals m.ty; name = m.name }

abbrev pub struct_with : Naming → List ℕ → StructSection → StructSection
struct_with locals name s =
    record { keyword = s.keyword; name = ident_at name s.name.span; opening = s.opening; members = map (member_with locals) s.members; closing = s.closing }
