-- Which trees are derivations of the grammar of documents, within the limits of depth and without the forms that are left out.
use Rattle.std.specs.Prelude.{◌≡◌, ◌==◌, Bool, true, false, ◌&&◌, nat_le, List, [], ◌∷◌}
use Rattle.std.specs.List.{count_by}
use Rattle.wdl_ast.specs.declared.leaf.ListItem.{ListItem}
use Rattle.wdl_ast.specs.declared.meta.MetaSection.{MetaSection}
use Rattle.wdl_ast.specs.declared.section.Declaration.{Declaration}
use Rattle.wdl_ast.specs.declared.section.InputSection.{InputSection}
use Rattle.wdl_ast.specs.declared.section.OutputSection.{OutputSection}
use Rattle.wdl_ast.specs.declared.task.RuntimeSection.{RuntimeSection}
use Rattle.wdl_ast.specs.declared.task.TaskElement.{TaskElement}
use Rattle.wdl_ast.specs.declared.task.TaskElement.TheVariants as task
use Rattle.wdl_ast.specs.declared.task.TaskSection.{TaskSection}
use Rattle.wdl_ast.specs.declared.workflow.CallTarget.{CallTarget}
use Rattle.wdl_ast.specs.declared.workflow.TargetMember.{TargetMember}
use Rattle.wdl_ast.specs.declared.workflow.Renaming.{Renaming}
use Rattle.wdl_ast.specs.declared.workflow.After.{After}
use Rattle.wdl_ast.specs.declared.workflow.Argument.{Argument}
use Rattle.wdl_ast.specs.declared.workflow.CallInputs.{CallInputs}
use Rattle.wdl_ast.specs.declared.workflow.CallBody.{CallBody}
use Rattle.wdl_ast.specs.declared.workflow.Call.{Call}
use Rattle.wdl_ast.specs.declared.workflow.Scatter.{Scatter}
use Rattle.wdl_ast.specs.declared.workflow.Conditional.{Conditional}
use Rattle.wdl_ast.specs.declared.workflow.Statement.{Statement}
use Rattle.wdl_ast.specs.declared.workflow.Statement.TheVariants as st
use Rattle.wdl_ast.specs.declared.workflow.WorkflowElement.{WorkflowElement}
use Rattle.wdl_ast.specs.declared.workflow.WorkflowElement.TheVariants as flow
use Rattle.wdl_ast.specs.declared.workflow.Workflow.{Workflow}
use Rattle.wdl_ast.specs.declared.document.Alias.{Alias}
use Rattle.wdl_ast.specs.declared.document.Import.{Import}
use Rattle.wdl_ast.specs.declared.document.StructMember.{StructMember}
use Rattle.wdl_ast.specs.declared.document.StructSection.{StructSection}
use Rattle.wdl_ast.specs.declared.document.Section.{Section}
use Rattle.wdl_ast.specs.declared.document.Section.TheVariants as section
use Rattle.wdl_ast.specs.declared.document.Document.{Document}
use Rattle.wdl_parse_expr.specs.Grammar.{IsExpr}
use Rattle.token_reading.specs.TypeGrammar.{IsType}
use Rattle.wdl_parse_parts.specs.Grammar.{Each, IfThere, commas_fit, IsIdent, IsAttribute, MetaWithin, max_meta_depth, IsDeclaration, IsAssigned, IsInput, IsRuntimeAttribute, IsCommand}

abbrev pub at_most_one : {A : Type 0} → (A → Bool) → List A → Bool
at_most_one p xs = nat_le (count_by p xs) 1

-- ---- sections

abbrev pub IsMetadata : MetaSection → Type 0
IsMetadata s = Each (IsAttribute (MetaWithin max_meta_depth)) s.attributes

abbrev pub IsInputs : InputSection → Type 0
IsInputs s = Each IsInput s.inputs

abbrev pub IsOutputs : OutputSection → Type 0
IsOutputs s = Each IsDeclaration s.outputs

abbrev pub IsRuntime : RuntimeSection → Type 0
IsRuntime s = Each IsRuntimeAttribute s.attributes

-- ---- tasks

abbrev pub IsTaskElement : TaskElement → Type 0
IsTaskElement (task.Input s) = IsInputs s
IsTaskElement (task.Output s) = IsOutputs s
IsTaskElement (task.Runtime s) = IsRuntime s
IsTaskElement (task.Meta s) = IsMetadata s
IsTaskElement (task.ParameterMeta s) = IsMetadata s
IsTaskElement (task.Command s) = IsCommand s
IsTaskElement (task.Declaration d) = IsDeclaration d

abbrev pub is_task_input : TaskElement → Bool
is_task_input (task.Input s) = true
is_task_input _ = false

abbrev pub is_task_output : TaskElement → Bool
is_task_output (task.Output s) = true
is_task_output _ = false

abbrev pub is_task_runtime : TaskElement → Bool
is_task_runtime (task.Runtime s) = true
is_task_runtime _ = false

abbrev pub is_task_meta : TaskElement → Bool
is_task_meta (task.Meta s) = true
is_task_meta _ = false

abbrev pub is_task_parameter_meta : TaskElement → Bool
is_task_parameter_meta (task.ParameterMeta s) = true
is_task_parameter_meta _ = false

abbrev pub is_task_command : TaskElement → Bool
is_task_command (task.Command s) = true
is_task_command _ = false

-- exactly one command, and each section at most once
unfoldable pub are_task_sections : List TaskElement → Bool
are_task_sections xs =
    at_most_one is_task_input xs && at_most_one is_task_output xs && at_most_one is_task_runtime xs
    && at_most_one is_task_meta xs && at_most_one is_task_parameter_meta xs && count_by is_task_command xs == 1

abbrev pub IsTask : TaskSection → Type 0
IsTask s = IsIdent s.name × Each IsTaskElement s.elements × (are_task_sections s.elements ≡ true)

-- ---- calls

abbrev pub IsTargetMember : TargetMember → Type 0
IsTargetMember m = IsIdent m.name

abbrev pub IsTarget : CallTarget → Type 0
IsTarget t = IsIdent t.first × IfThere IsTargetMember t.second

abbrev pub IsRenaming : Renaming → Type 0
IsRenaming r = IsIdent r.name

abbrev pub IsAfter : After → Type 0
IsAfter a = IsIdent a.name

abbrev pub IsArgument : Argument → Type 0
IsArgument a = IsIdent a.name × IfThere IsAssigned a.value

abbrev pub IsArgumentItem : ListItem Argument → Type 0
IsArgumentItem i = IsArgument i.item

abbrev pub IsCallInputs : CallInputs → Type 0
IsCallInputs i = Each IsArgumentItem i.arguments × (commas_fit i.arguments ≡ true)

abbrev pub IsCallBody : CallBody → Type 0
IsCallBody b = IfThere IsCallInputs b.inputs

abbrev pub IsCall : Call → Type 0
IsCall c = IsTarget c.target × IfThere IsRenaming c.alias × Each IsAfter c.after × IfThere IsCallBody c.body

-- ---- statements

-- the statements of a body; blocks may stand in one another to any depth
pub data AreStatements : List Statement → Type 0 where
  none : AreStatements []
  declaration : (d : Declaration) (more : List Statement) → IsDeclaration d → AreStatements more → AreStatements (st.Declaration d ∷ more)
  call : (c : Call) (more : List Statement) → IsCall c → AreStatements more → AreStatements (st.Call c ∷ more)
  scatter : (s : Scatter Statement) (more : List Statement) → IsIdent s.item → IsExpr s.over → AreStatements s.body → AreStatements more → AreStatements (st.Scatter s ∷ more)
  conditional : (s : Conditional Statement) (more : List Statement) → IsExpr s.condition → AreStatements s.body → AreStatements more → AreStatements (st.Conditional s ∷ more)

abbrev pub IsStatement : Statement → Type 0
IsStatement s = AreStatements (s ∷ [])

-- ---- workflows

abbrev pub IsWorkflowElement : WorkflowElement → Type 0
IsWorkflowElement (flow.Input s) = IsInputs s
IsWorkflowElement (flow.Output s) = IsOutputs s
IsWorkflowElement (flow.Meta s) = IsMetadata s
IsWorkflowElement (flow.ParameterMeta s) = IsMetadata s
IsWorkflowElement (flow.Statement s) = IsStatement s

abbrev pub is_flow_input : WorkflowElement → Bool
is_flow_input (flow.Input s) = true
is_flow_input _ = false

abbrev pub is_flow_output : WorkflowElement → Bool
is_flow_output (flow.Output s) = true
is_flow_output _ = false

abbrev pub is_flow_meta : WorkflowElement → Bool
is_flow_meta (flow.Meta s) = true
is_flow_meta _ = false

abbrev pub is_flow_parameter_meta : WorkflowElement → Bool
is_flow_parameter_meta (flow.ParameterMeta s) = true
is_flow_parameter_meta _ = false

-- each section at most once
unfoldable pub are_workflow_sections : List WorkflowElement → Bool
are_workflow_sections xs = at_most_one is_flow_input xs && at_most_one is_flow_output xs && at_most_one is_flow_meta xs && at_most_one is_flow_parameter_meta xs

abbrev pub IsWorkflow : Workflow → Type 0
IsWorkflow w = IsIdent w.name × Each IsWorkflowElement w.elements × (are_workflow_sections w.elements ≡ true)

-- ---- documents

abbrev pub IsAlias : Alias → Type 0
IsAlias a = IsIdent a.from × IsIdent a.to

abbrev pub IsImport : Import → Type 0
IsImport i = IfThere IsRenaming i.namespace × Each IsAlias i.aliases

abbrev pub IsStructMember : StructMember → Type 0
IsStructMember m = IsType m.ty × IsIdent m.name

abbrev pub IsStruct : StructSection → Type 0
IsStruct s = IsIdent s.name × Each IsStructMember s.members

abbrev pub IsSection : Section → Type 0
IsSection (section.Import i) = IsImport i
IsSection (section.Struct s) = IsStruct s
IsSection (section.Task t) = IsTask t
IsSection (section.Workflow w) = IsWorkflow w

-- A document, its depths within the limits (64 of an expression and of a value of metadata, 8 of a type), without a form that is left out.
abbrev pub IsDocument : Document → Type 0
IsDocument d = Each IsSection d.sections
