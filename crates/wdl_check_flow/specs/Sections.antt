-- The sections of a workflow, each kind in the order of the text, and its names.
use Rattle.std.specs.Prelude.{ℕ, List, [], ◌∷◌, ◌++◌, Option, Some, None, map, if◌then◌else◌}
use Rattle.wdl_base.specs.declared.span.Span.{Span}
use Rattle.wdl_ast.specs.declared.leaf.Ident.{Ident}
use Rattle.wdl_ast.specs.declared.section.Declaration.{Declaration}
use Rattle.wdl_ast.specs.declared.section.InputDeclaration.{InputDeclaration}
use Rattle.wdl_ast.specs.declared.workflow.Statement.{Statement, Statement-F, fold-Statement}
use Rattle.wdl_ast.specs.declared.workflow.Statement.TheOpen as layer
use Rattle.wdl_ast.specs.declared.workflow.WorkflowElement.{WorkflowElement}
use Rattle.wdl_ast.specs.declared.workflow.WorkflowElement.TheVariants as element
use Rattle.wdl_typed.specs.Lists.{has_name}
use Rattle.wdl_check_types.specs.Places.{call_ident}
use Rattle.wdl_check_decls.specs.Names.{first_repeated}
use Rattle.wdl_check_flow.specs.Nesting.{or_next}

-- what each element has of one kind
abbrev pub gathered : {A : Type 0} → (WorkflowElement → List A) → List WorkflowElement → List A
gathered f [] = []
gathered f (e ∷ es) = f e ++ gathered f es

abbrev pub inputs_in : WorkflowElement → List InputDeclaration
inputs_in (element.Input s) = s.inputs
inputs_in e = []

abbrev pub outputs_in : WorkflowElement → List Declaration
outputs_in (element.Output s) = s.outputs
outputs_in e = []

abbrev pub statements_in : WorkflowElement → List Statement
statements_in (element.Statement s) = s ∷ []
statements_in e = []

abbrev pub inputs_of : List WorkflowElement → List InputDeclaration
inputs_of = gathered inputs_in

abbrev pub outputs_of : List WorkflowElement → List Declaration
outputs_of = gathered outputs_in

abbrev pub statements_of : List WorkflowElement → List Statement
statements_of = gathered statements_in

-- ---- names

abbrev pub append_all : List (List Ident) → List Ident
append_all [] = []
append_all (ns ∷ more) = ns ++ append_all more

abbrev pub declared_step : Statement-F (List Ident) → List Ident
declared_step (layer.Declaration d) = d.name ∷ []
declared_step (layer.Call c) = call_ident c ∷ []
declared_step (layer.Scatter s) = append_all s.body
declared_step (layer.Conditional i) = append_all i.body

-- the names of the declarations and calls of a statement, and of the bodies in it
abbrev pub declared : Statement → List Ident
declared = fold-Statement (List Ident) declared_step

abbrev pub all_declared : List Statement → List Ident
all_declared ss = append_all (map declared ss)

abbrev pub idents_in : List InputDeclaration → List Statement → List Declaration → List Ident
idents_in is ss ds =
    map (λ (i : InputDeclaration). i.name) is ++ (all_declared ss ++ map (λ (d : Declaration). d.name) ds)

abbrev pub words_of : List Ident → List (List ℕ)
words_of = map (λ (n : Ident). n.name)

-- where an item of a scatter stands whose name is one of these, or that of an item round it
abbrev pub Taken : Type 0
Taken = List (List ℕ) → Option Span

abbrev pub first_taken : List Taken → Taken
first_taken [] words = None
first_taken (t ∷ ts) words = or_next (t words) (first_taken ts words)

abbrev pub taken_in : Ident → List Taken → Taken
taken_in item body words = if has_name item.name words then Some item.span else first_taken body (words ++ item.name ∷ [])

abbrev pub taken_step : Statement-F Taken → Taken
taken_step (layer.Declaration d) words = None
taken_step (layer.Call c) words = None
taken_step (layer.Scatter s) words = taken_in s.item s.body words
taken_step (layer.Conditional i) words = first_taken i.body words

abbrev pub taken : Statement → Taken
taken = fold-Statement Taken taken_step

-- where a name stands twice, where one can see the other
abbrev pub repeated : List InputDeclaration → List Statement → List Declaration → Option Span
repeated is ss ds = or_next (first_repeated [] (idents_in is ss ds)) (first_taken (map taken ss) (words_of (idents_in is ss ds)))
