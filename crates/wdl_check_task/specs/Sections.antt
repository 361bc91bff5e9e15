-- The sections of a task, each kind in the order of the text.
use Rattle.std.specs.Prelude.{List, [], ◌∷◌, ◌++◌}
use Rattle.wdl_ast.specs.declared.expr.Expr.{Expr}
use Rattle.wdl_ast.specs.declared.leaf.Attribute.{Attribute}
use Rattle.wdl_ast.specs.declared.leaf.Ident.{Ident}
use Rattle.wdl_ast.specs.declared.section.Declaration.{Declaration}
use Rattle.wdl_ast.specs.declared.section.InputDeclaration.{InputDeclaration}
use Rattle.wdl_ast.specs.declared.string.StringPart.{StringPart}
use Rattle.wdl_ast.specs.declared.task.TaskElement.{TaskElement}
use Rattle.wdl_ast.specs.declared.task.TaskElement.TheVariants as element

-- what each element has of one kind
abbrev pub gathered : {A : Type 0} → (TaskElement → List A) → List TaskElement → List A
gathered f [] = []
gathered f (e ∷ es) = f e ++ gathered f es

abbrev pub inputs_in : TaskElement → List InputDeclaration
inputs_in (element.Input s) = s.inputs
inputs_in e = []

abbrev pub privates_in : TaskElement → List Declaration
privates_in (element.Declaration d) = d ∷ []
privates_in e = []

abbrev pub outputs_in : TaskElement → List Declaration
outputs_in (element.Output s) = s.outputs
outputs_in e = []

abbrev pub attributes_in : TaskElement → List (Attribute Expr)
attributes_in (element.Runtime s) = s.attributes
attributes_in e = []

abbrev pub parts_in : TaskElement → List (StringPart Expr)
parts_in (element.Command s) = s.parts
parts_in e = []

abbrev pub inputs_of : List TaskElement → List InputDeclaration
inputs_of = gathered inputs_in

abbrev pub privates_of : List TaskElement → List Declaration
privates_of = gathered privates_in

abbrev pub outputs_of : List TaskElement → List Declaration
outputs_of = gathered outputs_in

abbrev pub attributes_of : List TaskElement → List (Attribute Expr)
attributes_of = gathered attributes_in

abbrev pub parts_of : List TaskElement → List (StringPart Expr)
parts_of = gathered parts_in

-- ---- the names that have to differ

abbrev pub input_idents : List InputDeclaration → List Ident
input_idents [] = []
input_idents (i ∷ is) = i.name ∷ input_idents is

abbrev pub declaration_idents : List Declaration → List Ident
declaration_idents [] = []
declaration_idents (d ∷ ds) = d.name ∷ declaration_idents ds

abbrev pub idents_of : List TaskElement → List Ident
idents_of es = input_idents (inputs_of es) ++ (declaration_idents (privates_of es) ++ declaration_idents (outputs_of es))
