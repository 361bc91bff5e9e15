-- Reads tasks and workflows.
use Rattle.std.specs.Prelude.{if◌then◌else◌, Ok, codes}
use Rattle.wdl_base.specs.declared.span.Span.{Span}
use Rattle.wdl_ast.specs.declared.token.Mark.TheVariants as mark
use Rattle.wdl_ast.specs.declared.leaf.Ident.{Ident}
use Rattle.wdl_ast.specs.declared.task.TaskElement.{TaskElement}
use Rattle.wdl_ast.specs.declared.task.TaskElement.TheVariants as element
use Rattle.wdl_ast.specs.declared.task.TaskSection.{TaskSection}
use Rattle.wdl_ast.specs.declared.workflow.WorkflowElement.{WorkflowElement}
use Rattle.wdl_ast.specs.declared.workflow.WorkflowElement.TheVariants as flow
use Rattle.wdl_ast.specs.declared.workflow.Workflow.{Workflow}
use Rattle.token_reading.specs.Outcome.{Outcome, Parser, missing, then_, found, eat_word}
use Rattle.wdl_parse_doc.specs.declared.part_list.Braced.{Braced}
use Rattle.wdl_parse_doc.specs.Grammar.{are_task_sections, are_workflow_sections}
use Rattle.wdl_parse_parts.specs.Reading.Parts.{name_at, until}
use Rattle.wdl_parse_doc.specs.Reading.Lists.{braced}
use Rattle.wdl_parse_doc.specs.Reading.Sections.{metadata, inputs, outputs, runtime}
use Rattle.wdl_parse_parts.specs.Reading.Declarations.{declaration, command}
use Rattle.wdl_parse_doc.specs.Reading.Blocks.{statement}

abbrev pub mapped : {A B : Type 0} → (A → B) → Outcome A → Outcome B
mapped f o = then_ o (λ x rest. Ok (f x, rest))

unfoldable pub task_element : Parser TaskElement
task_element ts = found (eat_word (codes "input") ts) (λ k rest. mapped element.Input (inputs k rest))
    (found (eat_word (codes "output") ts) (λ k rest. mapped element.Output (outputs k rest))
    (found (eat_word (codes "runtime") ts) (λ k rest. mapped element.Runtime (runtime k rest))
    (found (eat_word (codes "meta") ts) (λ k rest. mapped element.Meta (metadata k rest))
    (found (eat_word (codes "parameter_meta") ts) (λ k rest. mapped element.ParameterMeta (metadata k rest))
    (found (eat_word (codes "command") ts) (λ k rest. mapped element.Command (command k rest))
    (mapped element.Declaration (declaration ts)))))))

abbrev pub fitting_task : Span → Ident → Braced TaskElement → Parser TaskSection
fitting_task k n b ts = if are_task_sections b.items then Ok (record { keyword = k; name = n; opening = b.opening; elements = b.items; closing = b.closing }, ts) else missing

-- behind its word
unfoldable pub task : Span → Parser TaskSection
task k ts = then_ (name_at ts) (λ n rest. then_ (braced (until mark.CloseBrace task_element) rest) (λ b more. fitting_task k n b more))

unfoldable pub workflow_element : Parser WorkflowElement
workflow_element ts = found (eat_word (codes "input") ts) (λ k rest. mapped flow.Input (inputs k rest))
    (found (eat_word (codes "output") ts) (λ k rest. mapped flow.Output (outputs k rest))
    (found (eat_word (codes "meta") ts) (λ k rest. mapped flow.Meta (metadata k rest))
    (found (eat_word (codes "parameter_meta") ts) (λ k rest. mapped flow.ParameterMeta (metadata k rest))
    (mapped flow.Statement (statement ts)))))

abbrev pub fitting_workflow : Span → Ident → Braced WorkflowElement → Parser Workflow
fitting_workflow k n b ts = if are_workflow_sections b.items then Ok (record { keyword = k; name = n; opening = b.opening; elements = b.items; closing = b.closing }, ts) else missing

-- behind its word
unfoldable pub workflow : Span → Parser Workflow
workflow k ts = then_ (name_at ts) (λ n rest. then_ (braced (until mark.CloseBrace workflow_element) rest) (λ b more. fitting_workflow k n b more))
