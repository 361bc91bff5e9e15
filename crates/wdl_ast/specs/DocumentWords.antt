-- The tokens that the sections of a document stand for.
use Rattle.std.specs.Prelude.{ℕ, List, [], ◌∷◌, ◌++◌, Option, Some, None, codes}
use Rattle.wdl_ast.specs.declared.token.Mark.TheVariants as mark
use Rattle.wdl_ast.specs.declared.token.Kind.TheVariants as kind
use Rattle.wdl_ast.specs.declared.meta.MetaSection.{MetaSection}
use Rattle.wdl_ast.specs.declared.section.Declaration.{Declaration}
use Rattle.wdl_ast.specs.declared.section.Assigned.{Assigned}
use Rattle.wdl_ast.specs.declared.section.InputDeclaration.{InputDeclaration}
use Rattle.wdl_ast.specs.declared.section.InputSection.{InputSection}
use Rattle.wdl_ast.specs.declared.section.OutputSection.{OutputSection}
use Rattle.wdl_ast.specs.declared.task.RuntimeSection.{RuntimeSection}
use Rattle.wdl_ast.specs.declared.task.CommandSection.{CommandSection}
use Rattle.wdl_ast.specs.declared.task.TaskElement.{TaskElement}
use Rattle.wdl_ast.specs.declared.task.TaskElement.TheVariants as task
use Rattle.wdl_ast.specs.declared.task.TaskSection.{TaskSection}
use Rattle.wdl_ast.specs.declared.workflow.CallTarget.{CallTarget}
use Rattle.wdl_ast.specs.declared.workflow.TargetMember.{TargetMember}
use Rattle.wdl_ast.specs.declared.workflow.Renaming.{Renaming}
use Rattle.wdl_ast.specs.declared.workflow.After.{After}
use Rattle.wdl_ast.specs.declared.workflow.Argument.{Argument}
use Rattle.wdl_ast.specs.declared.workflow.CallInputs.{CallInputs}
use Rattle.wdl_ast.specs.declared.workflow.CallBody.{CallBody}
use Rattle.wdl_ast.specs.declared.workflow.Call.{Call}
use Rattle.wdl_ast.specs.declared.workflow.Scatter.{Scatter}
use Rattle.wdl_ast.specs.declared.workflow.Conditional.{Conditional}
use Rattle.wdl_ast.specs.declared.workflow.Statement.{Statement, Statement-F, fold-Statement}
use Rattle.wdl_ast.specs.declared.workflow.Statement.TheOpen as layer
use Rattle.wdl_ast.specs.declared.workflow.WorkflowElement.{WorkflowElement}
use Rattle.wdl_ast.specs.declared.workflow.WorkflowElement.TheVariants as workflow
use Rattle.wdl_ast.specs.declared.workflow.Workflow.{Workflow}
use Rattle.wdl_ast.specs.declared.document.Alias.{Alias}
use Rattle.wdl_ast.specs.declared.document.Import.{Import}
use Rattle.wdl_ast.specs.declared.document.StructMember.{StructMember}
use Rattle.wdl_ast.specs.declared.document.StructSection.{StructSection}
use Rattle.wdl_ast.specs.declared.document.Section.{Section}
use Rattle.wdl_ast.specs.declared.document.Section.TheVariants as section
use Rattle.wdl_ast.specs.declared.document.Document.{Document}
use Rattle.wdl_ast.specs.Words.{Words, at, marked, keyword, ident, plain_words, items_words, attributes_words, parts_words, itself, words, type_words, meta_words}

-- what a list of parts stands for
abbrev pub each : {A : Type 0} → (A → Words) → List A → Words
each f [] = []
each f (x ∷ xs) = f x ++ each f xs

-- and a part that may be absent
abbrev pub maybe : {A : Type 0} → (A → Words) → Option A → Words
maybe f None = []
maybe f (Some x) = f x

-- ---- sections of tasks and workflows

abbrev pub declaration_words : Declaration → Words
declaration_words d = type_words d.ty ++ ident d.name ∷ marked mark.Assign d.assign ∷ words d.value

abbrev pub assigned_words : Assigned → Words
assigned_words a = marked mark.Assign a.assign ∷ words a.value

abbrev pub input_words : InputDeclaration → Words
input_words i = type_words i.ty ++ ident i.name ∷ maybe assigned_words i.preset

abbrev pub inputs_words : InputSection → Words
inputs_words s = keyword (codes "input") s.keyword ∷ marked mark.OpenBrace s.opening ∷ (each input_words s.inputs ++ marked mark.CloseBrace s.closing ∷ [])

abbrev pub outputs_words : OutputSection → Words
outputs_words s = keyword (codes "output") s.keyword ∷ marked mark.OpenBrace s.opening ∷ (each declaration_words s.outputs ++ marked mark.CloseBrace s.closing ∷ [])

-- a section of metadata, by its word
abbrev pub metadata_words : List ℕ → MetaSection → Words
metadata_words w s = keyword w s.keyword ∷ marked mark.OpenBrace s.opening ∷ (attributes_words meta_words s.attributes ++ marked mark.CloseBrace s.closing ∷ [])

abbrev pub runtime_words : RuntimeSection → Words
runtime_words s = keyword (codes "runtime") s.keyword ∷ marked mark.OpenBrace s.opening ∷ (attributes_words words s.attributes ++ marked mark.CloseBrace s.closing ∷ [])

abbrev pub command_words : CommandSection → Words
command_words s = keyword (codes "command") s.keyword ∷ at (kind.CommandOpen s.fence) s.opening ∷ (parts_words words s.parts ++ at kind.CommandClose s.closing ∷ [])

abbrev pub task_element_words : TaskElement → Words
task_element_words (task.Input s) = inputs_words s
task_element_words (task.Output s) = outputs_words s
task_element_words (task.Runtime s) = runtime_words s
task_element_words (task.Meta s) = metadata_words (codes "meta") s
task_element_words (task.ParameterMeta s) = metadata_words (codes "parameter_meta") s
task_element_words (task.Command s) = command_words s
task_element_words (task.Declaration d) = declaration_words d

abbrev pub task_words : TaskSection → Words
task_words s = keyword (codes "task") s.keyword ∷ ident s.name ∷ marked mark.OpenBrace s.opening ∷ (each task_element_words s.elements ++ marked mark.CloseBrace s.closing ∷ [])

-- ---- calls

abbrev pub renaming_words : Renaming → Words
renaming_words r = keyword (codes "as") r.as_word ∷ ident r.name ∷ []

abbrev pub target_member_words : TargetMember → Words
target_member_words m = marked mark.Dot m.dot ∷ ident m.name ∷ []

abbrev pub target_words : CallTarget → Words
target_words t = ident t.first ∷ maybe target_member_words t.second

abbrev pub after_words : After → Words
after_words a = keyword (codes "after") a.keyword ∷ ident a.name ∷ []

abbrev pub argument_words : Argument → Words
argument_words a = ident a.name ∷ maybe assigned_words a.value

abbrev pub call_inputs_words : CallInputs → Words
call_inputs_words i = keyword (codes "input") i.keyword ∷ marked mark.Colon i.colon ∷ items_words argument_words i.arguments

abbrev pub call_body_words : CallBody → Words
call_body_words b = marked mark.OpenBrace b.opening ∷ (maybe call_inputs_words b.inputs ++ marked mark.CloseBrace b.closing ∷ [])

abbrev pub call_words : Call → Words
call_words c = keyword (codes "call") c.keyword ∷ (target_words c.target ++ (maybe renaming_words c.alias ++ (each after_words c.after ++ maybe call_body_words c.body)))

-- ---- statements

-- `inner` gives the words of a statement of the body
abbrev pub scatter_words : {S : Type 0} → (S → Words) → Scatter S → Words
scatter_words inner s = keyword (codes "scatter") s.keyword ∷ marked mark.OpenParen s.opening_paren ∷ ident s.item ∷ keyword (codes "in") s.in_word
    ∷ (words s.over ++ marked mark.CloseParen s.closing_paren ∷ marked mark.OpenBrace s.opening ∷ (each inner s.body ++ marked mark.CloseBrace s.closing ∷ []))

abbrev pub conditional_words : {S : Type 0} → (S → Words) → Conditional S → Words
conditional_words inner s = keyword (codes "if") s.keyword ∷ marked mark.OpenParen s.opening_paren
    ∷ (words s.condition ++ marked mark.CloseParen s.closing_paren ∷ marked mark.OpenBrace s.opening ∷ (each inner s.body ++ marked mark.CloseBrace s.closing ∷ []))

abbrev pub statement_step : Statement-F Words → Words
statement_step (layer.Declaration d) = declaration_words d
statement_step (layer.Call c) = call_words c
statement_step (layer.Scatter s) = scatter_words itself s
statement_step (layer.Conditional s) = conditional_words itself s

unfoldable pub statement_words : Statement → Words
statement_words = fold-Statement Words statement_step

abbrev pub workflow_element_words : WorkflowElement → Words
workflow_element_words (workflow.Input s) = inputs_words s
workflow_element_words (workflow.Output s) = outputs_words s
workflow_element_words (workflow.Meta s) = metadata_words (codes "meta") s
workflow_element_words (workflow.ParameterMeta s) = metadata_words (codes "parameter_meta") s
workflow_element_words (workflow.Statement s) = statement_words s

abbrev pub workflow_words : Workflow → Words
workflow_words s = keyword (codes "workflow") s.keyword ∷ ident s.name ∷ marked mark.OpenBrace s.opening ∷ (each workflow_element_words s.elements ++ marked mark.CloseBrace s.closing ∷ [])

-- ---- documents

abbrev pub alias_words : Alias → Words
alias_words a = keyword (codes "alias") a.keyword ∷ ident a.from ∷ keyword (codes "as") a.as_word ∷ ident a.to ∷ []

abbrev pub import_words : Import → Words
import_words i = keyword (codes "import") i.keyword ∷ (plain_words i.uri ++ (maybe renaming_words i.namespace ++ each alias_words i.aliases))

abbrev pub struct_member_words : StructMember → Words
struct_member_words m = type_words m.ty ++ ident m.name ∷ []

abbrev pub struct_words : StructSection → Words
struct_words s = keyword (codes "struct") s.keyword ∷ ident s.name ∷ marked mark.OpenBrace s.opening ∷ (each struct_member_words s.members ++ marked mark.CloseBrace s.closing ∷ [])

abbrev pub section_words : Section → Words
section_words (section.Import i) = import_words i
section_words (section.Struct s) = struct_words s
section_words (section.Task t) = task_words t
section_words (section.Workflow w) = workflow_words w

abbrev pub document_words : Document → Words
document_words d = keyword (codes "version") d.version ∷ at (kind.Frac (codes "1.1")) d.number ∷ each section_words d.sections
