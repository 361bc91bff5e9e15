-- The main workflow, whose calls name the tasks of the bundle.
use Rattle.std.specs.Prelude.{ℕ, List, [], ◌∷◌, ◌++◌, Option}
use Rattle.wdl_ast.specs.declared.workflow.CallTarget.{CallTarget}
use Rattle.wdl_ast.specs.declared.workflow.Conditional.{Conditional}
use Rattle.wdl_ast.specs.declared.workflow.Scatter.{Scatter}
use Rattle.wdl_ast.specs.declared.workflow.Statement.{Statement, Statement-F, fold-Statement}
use Rattle.wdl_ast.specs.declared.workflow.Statement.TheOpen as layer
use Rattle.wdl_ast.specs.declared.workflow.Statement.TheVariants as statement
use Rattle.wdl_ast.specs.declared.workflow.Workflow.{Workflow}
use Rattle.wdl_ast.specs.declared.workflow.WorkflowElement.{WorkflowElement}
use Rattle.wdl_ast.specs.declared.workflow.WorkflowElement.TheVariants as element
use Rattle.wdl_check_rules.specs.Locals.{Naming}
use Rattle.wdl_copies.specs.Expressions.{renamed}
use Rattle.wdl_copies.specs.Calls.{call_as}
use Rattle.wdl_copies.specs.Renamed.{declaration_with, inputs_with, outputs_with}

-- ---- statements

abbrev pub scatter_with : Naming → Scatter Statement → List Statement → Scatter Statement
scatter_with locals s body = record {
  keyword = s.keyword;
  opening_paren = s.opening_paren;
  item = s.item;
  in_word = s.in_word;
  over = renamed locals s.over;
  closing_paren = s.closing_paren;
  opening = s.opening;
  body = body;
  closing = s.closing;
}

abbrev pub conditional_with : Naming → Conditional Statement → List Statement → Conditional Statement
conditional_with locals s body = record {
  keyword = s.keyword;
  opening_paren = s.opening_paren;
  condition = renamed locals s.condition;
  closing_paren = s.closing_paren;
  opening = s.opening;
  body = body;
  closing = s.closing;
}

module _ (locals : Naming) (name_of : CallTarget → Option (List ℕ)) where
  abbrev pub statement_step : Statement-F Statement → Statement
  statement_step (layer.Declaration d) = statement.Declaration (declaration_with locals d)
  statement_step (layer.Call c) = statement.Call (call_as locals (name_of c.target) c)
  statement_step (layer.Scatter s) = statement.Scatter (scatter_with locals s s.body)
  statement_step (layer.Conditional s) = statement.Conditional (conditional_with locals s s.body)

  abbrev pub statement_with : Statement → Statement
  statement_with = fold-Statement Statement statement_step

  -- metadata goes
  abbrev pub element_with : WorkflowElement → List WorkflowElement
  element_with (element.Input s) = element.Input (inputs_with locals s) ∷ []
  element_with (element.Output s) = element.Output (outputs_with locals s) ∷ []
  element_with (element.Meta s) = []
  element_with (element.ParameterMeta s) = []
  element_with (element.Statement s) = element.Statement (statement_with s) ∷ []

  abbrev pub workflow_elements : List WorkflowElement → List WorkflowElement
  workflow_elements [] = []
  workflow_elements (e ∷ es) = element_with e ++ workflow_elements es

  abbrev pub workflow_with : Workflow → Workflow
  workflow_with w = record { keyword = w.keyword; name = w.name; opening = w.opening; elements = workflow_elements w.elements; closing = w.closing }
