-- Tasks and workflows, read and written.
use Rattle.std.proofs.Common.{◌≡◌, ℕ, ◌<◌, false, List, [], ◌∷◌, ◌++◌, length, None, Ok, refl, ap, sym, ◌∙◌, subst, append_assoc, arith, codes}
use Rattle.wdl_base.specs.declared.span.Span.{Span}
use Rattle.wdl_ast.specs.declared.token.Mark.TheVariants as mark
use Rattle.wdl_ast.specs.declared.token.Kind.TheVariants as kind
use Rattle.wdl_ast.specs.declared.section.Declaration.{Declaration}
use Rattle.wdl_ast.specs.declared.task.TaskElement.{TaskElement}
use Rattle.wdl_ast.specs.declared.task.TaskElement.TheVariants as task
use Rattle.wdl_ast.specs.declared.task.TaskSection.{TaskSection}
use Rattle.wdl_ast.specs.declared.workflow.WorkflowElement.{WorkflowElement}
use Rattle.wdl_ast.specs.declared.workflow.WorkflowElement.TheVariants as flow
use Rattle.wdl_ast.specs.declared.workflow.Statement.{Statement}
use Rattle.wdl_ast.specs.declared.workflow.Workflow.{Workflow}
use Rattle.wdl_ast.proofs.StatementLaws.{words_declaration, words_call, words_scatter, words_conditional}
use Rattle.wdl_ast.specs.Words.{Words, marked, keyword, ident, words, type_words}
use Rattle.wdl_ast.specs.DocumentWords.{declaration_words, task_element_words, task_words, statement_words, workflow_element_words, workflow_words}
use Rattle.token_reading.specs.Outcome.{found, is_word, sees, eat_word}
use Rattle.token_reading.proofs.Steps.{then_is, found_none, cond_true, cond_false}
use Rattle.token_reading.proofs.Says.{Says, Takes, says_cond}
use Rattle.wdl_parse_doc.specs.declared.part_list.Braced.{Braced}
use Rattle.wdl_parse_doc.specs.Context as ctx
use Rattle.wdl_parse_doc.specs.Context.{Stands}
use Rattle.wdl_parse_doc.specs.Grammar as g
use Rattle.wdl_parse_parts.specs.Grammar.{IsDeclaration}
use Rattle.wdl_parse_doc.specs.Grammar.{IsTaskElement, are_task_sections, IsTask, IsStatement, IsWorkflowElement, are_workflow_sections, IsWorkflow}
use Rattle.wdl_parse_doc.specs.Reading.Sections.{metadata}
use Rattle.wdl_parse_doc.specs.Reading.Tasks as r
use Rattle.wdl_parse_doc.proofs.Formats.{Doc, SoundAt, Format, Worded, Parts, starts_some, next, at_once, behind_both, goes, says_worded, parts_until, until_ends}
use Rattle.wdl_parse_doc.proofs.Leaves.{Any, a_name}
use Rattle.wdl_parse_doc.proofs.Follows.{Settled, begins_type, no_input, no_output, no_runtime, no_meta, no_parameter_meta, no_command, type_word, type_some}
use Rattle.wdl_parse_doc.proofs.SectionLaws.{in_braces, a_declaration, declaration_follows, declaration_apart, an_input_section, an_output_section, a_runtime_section, a_meta_section, a_command_section}
use Rattle.wdl_parse_doc.proofs.CallLaws.{Quiet, word_quiet, brace_quiet}
use Rattle.wdl_parse_doc.proofs.StatementLaws.{statement_quiet}
use Rattle.wdl_parse_doc.proofs.BlockLaws.{a_statement}

-- ---- elements of tasks

element_sound : SoundAt (Stands ctx.a_task_element) IsTaskElement task_element_words r.task_element
unfolding r.task_element
element_sound doc front ts eq here =
    let R : TaskElement → Words → Type 0 = Takes IsTaskElement task_element_words ts in
    says_worded (codes "input") an_input_section task.Input R doc front ts eq (ctx.a_task_element, ctx.of_task, here) _ (λ x rest p e. (e, p))
    (says_worded (codes "output") an_output_section task.Output R doc front ts eq (ctx.a_task_element, ctx.of_task, here) _ (λ x rest p e. (e, p))
    (says_worded (codes "runtime") a_runtime_section task.Runtime R doc front ts eq here _ (λ x rest p e. (e, p))
    (says_worded (codes "meta") (a_meta_section (codes "meta") ctx.meta) task.Meta R doc front ts eq (ctx.a_task_element, ctx.of_task, here) _ (λ x rest p e. (e, p))
    (says_worded (codes "parameter_meta") (a_meta_section (codes "parameter_meta") ctx.parameter_meta) task.ParameterMeta R doc front ts eq (ctx.a_task_element, ctx.of_task, here) _ (λ x rest p e. (e, p))
    (says_worded (codes "command") a_command_section task.Command R doc front ts eq here _ (λ x rest p e. (e, p))
    (next a_declaration R doc front ts eq [] ts _ refl (at_once (Stands ctx.a_declaration) front (ctx.task_declaration front here)) (λ d rest p e. (e, p))))))))

-- a declaration begins with none of the words of sections
none_of : (w : List ℕ) → begins_type w ≡ false → (d : Declaration) → IsDeclaration d → (tail : Words) → eat_word w (declaration_words d ++ tail) ≡ None
none_of w q d p tail = ap (eat_word w) (append_assoc (type_words d.ty) (ident d.name ∷ marked mark.Assign d.assign ∷ words d.value) tail) ∙ type_word w q d.ty p.0 _

declaration_element : (d : Declaration) → IsDeclaration d → (tail : Words) → Settled tail → r.task_element (declaration_words d ++ tail) ≡ Ok (task.Declaration d, tail)
unfolding r.task_element
declaration_element d p tail h =
    found_none (eat_word (codes "input") (declaration_words d ++ tail)) _ _ (none_of (codes "input") no_input d p tail)
    ∙ found_none (eat_word (codes "output") (declaration_words d ++ tail)) _ _ (none_of (codes "output") no_output d p tail)
    ∙ found_none (eat_word (codes "runtime") (declaration_words d ++ tail)) _ _ (none_of (codes "runtime") no_runtime d p tail)
    ∙ found_none (eat_word (codes "meta") (declaration_words d ++ tail)) _ _ (none_of (codes "meta") no_meta d p tail)
    ∙ found_none (eat_word (codes "parameter_meta") (declaration_words d ++ tail)) _ _ (none_of (codes "parameter_meta") no_parameter_meta d p tail)
    ∙ found_none (eat_word (codes "command") (declaration_words d ++ tail)) _ _ (none_of (codes "command") no_command d p tail)
    ∙ goes a_declaration d tail _ p h

element_full : (x : TaskElement) → IsTaskElement x → (tail : Words) → Settled tail → r.task_element (task_element_words x ++ tail) ≡ Ok (x, tail)
unfolding r.task_element found
element_full (task.Input s) p tail h = let b = an_input_section.full s p tail tt in ap r.task_element b.2 ∙ then_is (an_input_section.read b.0 b.1) _ (s, tail) b.3
element_full (task.Output s) p tail h = let b = an_output_section.full s p tail tt in ap r.task_element b.2 ∙ then_is (an_output_section.read b.0 b.1) _ (s, tail) b.3
element_full (task.Runtime s) p tail h = let b = a_runtime_section.full s p tail tt in ap r.task_element b.2 ∙ then_is (a_runtime_section.read b.0 b.1) _ (s, tail) b.3
element_full (task.Meta s) p tail h = let b = (a_meta_section (codes "meta") ctx.meta).full s p tail tt in ap r.task_element b.2 ∙ then_is (metadata b.0 b.1) _ (s, tail) b.3
element_full (task.ParameterMeta s) p tail h = let b = (a_meta_section (codes "parameter_meta") ctx.parameter_meta).full s p tail tt in ap r.task_element b.2 ∙ then_is (metadata b.0 b.1) _ (s, tail) b.3
element_full (task.Command s) p tail h = let b = a_command_section.full s p tail tt in ap r.task_element b.2 ∙ then_is (a_command_section.read b.0 b.1) _ (s, tail) b.3
element_full (task.Declaration d) p tail h = declaration_element d p tail h

abbrev a_task_element : Format TaskElement
a_task_element = record { is = IsTaskElement; words = task_element_words; read = r.task_element; before = Settled; stands = Stands ctx.a_task_element; sound = element_sound; full = element_full }

element_follows : (x : TaskElement) → IsTaskElement x → (tail : Words) → Settled (task_element_words x ++ tail)
element_follows (task.Input s) p tail = refl
element_follows (task.Output s) p tail = refl
element_follows (task.Runtime s) p tail = refl
element_follows (task.Meta s) p tail = refl
element_follows (task.ParameterMeta s) p tail = refl
element_follows (task.Command s) p tail = refl
element_follows (task.Declaration d) p tail = declaration_follows d p tail

element_apart : (x : TaskElement) → IsTaskElement x → (tail : Words) → sees mark.CloseBrace (task_element_words x ++ tail) ≡ false
element_apart (task.Input s) p tail = refl
element_apart (task.Output s) p tail = refl
element_apart (task.Runtime s) p tail = refl
element_apart (task.Meta s) p tail = refl
element_apart (task.ParameterMeta s) p tail = refl
element_apart (task.Command s) p tail = refl
element_apart (task.Declaration d) p tail = declaration_apart d p tail

element_some : (x : TaskElement) → IsTaskElement x → 0 < length (task_element_words x)
element_some (task.Input s) p = omega arith
element_some (task.Output s) p = omega arith
element_some (task.Runtime s) p = omega arith
element_some (task.Meta s) p = omega arith
element_some (task.ParameterMeta s) p = omega arith
element_some (task.Command s) p = omega arith
element_some (task.Declaration d) p = type_some d.ty p.0 _

abbrev task_elements : Parts TaskElement
task_elements = parts_until a_task_element mark.CloseBrace (Stands ctx.a_task_element) (λ front s. s) (λ x p front s. ctx.next_task_element front x p s) Settled (λ tail h. h) element_follows element_apart element_some

abbrev braced_task : Format (Braced TaskElement)
braced_task = in_braces task_elements (λ c rest. (refl, until_ends mark.CloseBrace r.task_element (marked mark.CloseBrace c ∷ rest) refl))

-- ---- tasks

pub task_sound : (doc front : Words) (k : Span) (ts : Words) → doc ≡ front ++ keyword (codes "task") k ∷ ts → Stands ctx.a_section front → Says (Doc doc) (Takes IsTask task_words (keyword (codes "task") k ∷ ts)) (r.task k ts)
unfolding r.task
task_sound doc front k ts eq here =
    let all : Words = keyword (codes "task") k ∷ ts in
    let R : TaskSection → Words → Type 0 = Takes IsTask task_words all in
    next a_name R doc front all eq (keyword (codes "task") k ∷ []) ts _ refl tt (λ n a p e.
    next braced_task R doc front all eq (keyword (codes "task") k ∷ ident n ∷ []) a _ e
    (λ o. behind_both (Stands ctx.a_task_element) front (keyword (codes "task") k ∷ ident n ∷ []) (marked mark.OpenBrace o ∷ []) (ctx.task front k n o p here)) (λ b rest q f.
    says_cond (Doc doc) R (are_task_sections b.items) _ _ (λ once. (f, (p, q, once))) (λ _. tt)))

pub task_full : (s : TaskSection) → IsTask s → (tail : Words) → Any tail → (k : Span) × (rest : Words) × (task_words s ++ tail ≡ keyword (codes "task") k ∷ rest) × (r.task k rest ≡ Ok (s, tail))
unfolding r.task
task_full s p tail q =
    let b : Braced TaskElement = record { opening = s.opening; items = s.elements; closing = s.closing } in (
      s.keyword,
      _,
      refl,
      goes a_name s.name (braced_task.words b ++ tail) _ p.0 tt
          ∙ goes braced_task b tail _ p.1 tt
          ∙ cond_true (are_task_sections s.elements) _ _ p.2,
    )

abbrev pub a_task : Worded TaskSection (codes "task")
a_task = record { is = IsTask; words = task_words; read = r.task; before = Any; stands = Stands ctx.a_section; sound = task_sound; full = task_full }

-- ---- elements of workflows

part_sound : SoundAt (Stands ctx.a_workflow_element) IsWorkflowElement workflow_element_words r.workflow_element
unfolding r.workflow_element
part_sound doc front ts eq here =
    let R : WorkflowElement → Words → Type 0 = Takes IsWorkflowElement workflow_element_words ts in
    says_worded (codes "input") an_input_section flow.Input R doc front ts eq (ctx.a_workflow_element, ctx.of_workflow, here) _ (λ x rest p e. (e, p))
    (says_worded (codes "output") an_output_section flow.Output R doc front ts eq (ctx.a_workflow_element, ctx.of_workflow, here) _ (λ x rest p e. (e, p))
    (says_worded (codes "meta") (a_meta_section (codes "meta") ctx.meta) flow.Meta R doc front ts eq (ctx.a_workflow_element, ctx.of_workflow, here) _ (λ x rest p e. (e, p))
    (says_worded (codes "parameter_meta") (a_meta_section (codes "parameter_meta") ctx.parameter_meta) flow.ParameterMeta R doc front ts eq (ctx.a_workflow_element, ctx.of_workflow, here) _ (λ x rest p e. (e, p))
    (next a_statement R doc front ts eq [] ts _ refl (at_once (Stands ctx.a_statement) front (ctx.workflow_statement front here)) (λ s rest p e. (e, p))))))

-- a word that no statement begins with
abbrev IsOther : List ℕ → Type 0
IsOther w = (begins_type w ≡ false) × (is_word w (kind.Word (codes "call")) ≡ false) × (is_word w (kind.Word (codes "scatter")) ≡ false) × (is_word w (kind.Word (codes "if")) ≡ false)

not_word : (w v : List ℕ) (k : Span) (rest : Words) → is_word w (kind.Word v) ≡ false → eat_word w (keyword v k ∷ rest) ≡ None
not_word w v k rest h = cond_false (is_word w (kind.Word v)) _ _ h

statement_none : (w : List ℕ) → IsOther w → (s : Statement) → IsStatement s → (tail : Words) → eat_word w (statement_words s ++ tail) ≡ None
statement_none w o s (g.declaration d more p m) tail = ap (λ z. eat_word w (z ++ tail)) (words_declaration d) ∙ none_of w o.0 d p tail
statement_none w o s (g.call c more p m) tail = ap (λ z. eat_word w (z ++ tail)) (words_call c) ∙ not_word w (codes "call") c.keyword _ o.1
statement_none w o s (g.scatter x more p e b m) tail = ap (λ z. eat_word w (z ++ tail)) (words_scatter x) ∙ not_word w (codes "scatter") x.keyword _ o.2
statement_none w o s (g.conditional x more e b m) tail = ap (λ z. eat_word w (z ++ tail)) (words_conditional x) ∙ not_word w (codes "if") x.keyword _ o.3

statement_apart : (s : Statement) → IsStatement s → (tail : Words) → sees mark.CloseBrace (statement_words s ++ tail) ≡ false
statement_apart s (g.declaration d more p m) tail = ap (λ z. sees mark.CloseBrace (z ++ tail)) (words_declaration d) ∙ declaration_apart d p tail
statement_apart s (g.call c more p m) tail = ap (λ z. sees mark.CloseBrace (z ++ tail)) (words_call c)
statement_apart s (g.scatter x more p e b m) tail = ap (λ z. sees mark.CloseBrace (z ++ tail)) (words_scatter x)
statement_apart s (g.conditional x more e b m) tail = ap (λ z. sees mark.CloseBrace (z ++ tail)) (words_conditional x)

statement_some : (s : Statement) → IsStatement s → 0 < length (statement_words s)
statement_some s (g.declaration d more p m) = subst (λ z. 0 < length z) (sym (words_declaration d)) (type_some d.ty p.0 _)
statement_some s (g.call c more p m) = starts_some _ _ _ (words_call c)
statement_some s (g.scatter x more p e b m) = starts_some _ _ _ (words_scatter x)
statement_some s (g.conditional x more e b m) = starts_some _ _ _ (words_conditional x)

statement_part : (s : Statement) → IsStatement s → (tail : Words) → Quiet tail → r.workflow_element (statement_words s ++ tail) ≡ Ok (flow.Statement s, tail)
unfolding r.workflow_element
statement_part s p tail h =
    found_none (eat_word (codes "input") (statement_words s ++ tail)) _ _ (statement_none (codes "input") (no_input, refl, refl, refl) s p tail)
    ∙ found_none (eat_word (codes "output") (statement_words s ++ tail)) _ _ (statement_none (codes "output") (no_output, refl, refl, refl) s p tail)
    ∙ found_none (eat_word (codes "meta") (statement_words s ++ tail)) _ _ (statement_none (codes "meta") (no_meta, refl, refl, refl) s p tail)
    ∙ found_none (eat_word (codes "parameter_meta") (statement_words s ++ tail)) _ _ (statement_none (codes "parameter_meta") (no_parameter_meta, refl, refl, refl) s p tail)
    ∙ goes a_statement s tail _ p h

part_full : (x : WorkflowElement) → IsWorkflowElement x → (tail : Words) → Quiet tail → r.workflow_element (workflow_element_words x ++ tail) ≡ Ok (x, tail)
unfolding r.workflow_element found
part_full (flow.Input s) p tail h = let b = an_input_section.full s p tail tt in ap r.workflow_element b.2 ∙ then_is (an_input_section.read b.0 b.1) _ (s, tail) b.3
part_full (flow.Output s) p tail h = let b = an_output_section.full s p tail tt in ap r.workflow_element b.2 ∙ then_is (an_output_section.read b.0 b.1) _ (s, tail) b.3
part_full (flow.Meta s) p tail h = let b = (a_meta_section (codes "meta") ctx.meta).full s p tail tt in ap r.workflow_element b.2 ∙ then_is (metadata b.0 b.1) _ (s, tail) b.3
part_full (flow.ParameterMeta s) p tail h = let b = (a_meta_section (codes "parameter_meta") ctx.parameter_meta).full s p tail tt in ap r.workflow_element b.2 ∙ then_is (metadata b.0 b.1) _ (s, tail) b.3
part_full (flow.Statement s) p tail h = statement_part s p tail h

abbrev a_part : Format WorkflowElement
a_part = record { is = IsWorkflowElement; words = workflow_element_words; read = r.workflow_element; before = Quiet; stands = Stands ctx.a_workflow_element; sound = part_sound; full = part_full }

part_follows : (x : WorkflowElement) → IsWorkflowElement x → (tail : Words) → Quiet (workflow_element_words x ++ tail)
part_follows (flow.Input s) p tail = word_quiet (codes "input") s.keyword _ refl refl
part_follows (flow.Output s) p tail = word_quiet (codes "output") s.keyword _ refl refl
part_follows (flow.Meta s) p tail = word_quiet (codes "meta") s.keyword _ refl refl
part_follows (flow.ParameterMeta s) p tail = word_quiet (codes "parameter_meta") s.keyword _ refl refl
part_follows (flow.Statement s) p tail = statement_quiet s p tail

part_apart : (x : WorkflowElement) → IsWorkflowElement x → (tail : Words) → sees mark.CloseBrace (workflow_element_words x ++ tail) ≡ false
part_apart (flow.Input s) p tail = refl
part_apart (flow.Output s) p tail = refl
part_apart (flow.Meta s) p tail = refl
part_apart (flow.ParameterMeta s) p tail = refl
part_apart (flow.Statement s) p tail = statement_apart s p tail

part_some : (x : WorkflowElement) → IsWorkflowElement x → 0 < length (workflow_element_words x)
part_some (flow.Input s) p = omega arith
part_some (flow.Output s) p = omega arith
part_some (flow.Meta s) p = omega arith
part_some (flow.ParameterMeta s) p = omega arith
part_some (flow.Statement s) p = statement_some s p

abbrev workflow_parts : Parts WorkflowElement
workflow_parts = parts_until a_part mark.CloseBrace (Stands ctx.a_workflow_element) (λ front s. s) (λ x p front s. ctx.next_workflow_element front x p s) Quiet (λ tail h. h) part_follows part_apart part_some

abbrev braced_workflow : Format (Braced WorkflowElement)
braced_workflow = in_braces workflow_parts (λ c rest. (brace_quiet c rest, until_ends mark.CloseBrace r.workflow_element (marked mark.CloseBrace c ∷ rest) refl))

-- ---- workflows

pub workflow_sound : (doc front : Words) (k : Span) (ts : Words) → doc ≡ front ++ keyword (codes "workflow") k ∷ ts → Stands ctx.a_section front → Says (Doc doc) (Takes IsWorkflow workflow_words (keyword (codes "workflow") k ∷ ts)) (r.workflow k ts)
unfolding r.workflow
workflow_sound doc front k ts eq here =
    let all : Words = keyword (codes "workflow") k ∷ ts in
    let R : Workflow → Words → Type 0 = Takes IsWorkflow workflow_words all in
    next a_name R doc front all eq (keyword (codes "workflow") k ∷ []) ts _ refl tt (λ n a p e.
    next braced_workflow R doc front all eq (keyword (codes "workflow") k ∷ ident n ∷ []) a _ e
    (λ o. behind_both (Stands ctx.a_workflow_element) front (keyword (codes "workflow") k ∷ ident n ∷ []) (marked mark.OpenBrace o ∷ []) (ctx.workflow front k n o p here)) (λ b rest q f.
    says_cond (Doc doc) R (are_workflow_sections b.items) _ _ (λ once. (f, (p, q, once))) (λ _. tt)))

pub workflow_full : (s : Workflow) → IsWorkflow s → (tail : Words) → Any tail → (k : Span) × (rest : Words) × (workflow_words s ++ tail ≡ keyword (codes "workflow") k ∷ rest) × (r.workflow k rest ≡ Ok (s, tail))
unfolding r.workflow
workflow_full s p tail q =
    let b : Braced WorkflowElement = record { opening = s.opening; items = s.elements; closing = s.closing } in (
      s.keyword,
      _,
      refl,
      goes a_name s.name (braced_workflow.words b ++ tail) _ p.0 tt
          ∙ goes braced_workflow b tail _ p.1 tt
          ∙ cond_true (are_workflow_sections s.elements) _ _ p.2,
    )

abbrev pub a_workflow : Worded Workflow (codes "workflow")
a_workflow = record { is = IsWorkflow; words = workflow_words; read = r.workflow; before = Any; stands = Stands ctx.a_section; sound = workflow_sound; full = workflow_full }
