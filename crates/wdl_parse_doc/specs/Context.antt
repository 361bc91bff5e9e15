-- Where the parts of a document stand: the tokens in front of one, which are those of whole parts and of the parts that are open.
use Rattle.std.specs.Prelude.{◌≡◌, ◌⊎◌, ℕ, suc, List, [], ◌∷◌, ◌++◌, Option, codes}
use Rattle.wdl_base.specs.declared.span.Span.{Span}
use Rattle.wdl_ast.specs.declared.token.Mark.TheVariants as mark
use Rattle.wdl_ast.specs.declared.token.Fence.{Fence}
use Rattle.wdl_ast.specs.declared.token.Kind.TheVariants as kind
use Rattle.wdl_ast.specs.declared.token.Token.{Token}
use Rattle.wdl_ast.specs.declared.leaf.Ident.{Ident}
use Rattle.wdl_ast.specs.declared.leaf.Word.{Word}
use Rattle.wdl_ast.specs.declared.leaf.Attribute.{Attribute}
use Rattle.wdl_ast.specs.declared.leaf.ListItem.{ListItem}
use Rattle.wdl_ast.specs.declared.expr.Expr.{Expr}
use Rattle.wdl_ast.specs.declared.type_tree.TypeTree.{TypeTree}
use Rattle.wdl_ast.specs.declared.meta.MetaValue.{MetaValue}
use Rattle.wdl_ast.specs.declared.section.Declaration.{Declaration}
use Rattle.wdl_ast.specs.declared.section.InputDeclaration.{InputDeclaration}
use Rattle.wdl_ast.specs.declared.task.TaskElement.{TaskElement}
use Rattle.wdl_ast.specs.declared.workflow.CallTarget.{CallTarget}
use Rattle.wdl_ast.specs.declared.workflow.Renaming.{Renaming}
use Rattle.wdl_ast.specs.declared.workflow.After.{After}
use Rattle.wdl_ast.specs.declared.workflow.Argument.{Argument}
use Rattle.wdl_ast.specs.declared.workflow.Statement.{Statement}
use Rattle.wdl_ast.specs.declared.workflow.WorkflowElement.{WorkflowElement}
use Rattle.wdl_ast.specs.declared.document.StructMember.{StructMember}
use Rattle.wdl_ast.specs.declared.document.Section.{Section}
use Rattle.wdl_ast.specs.Words.{Words, at, marked, keyword, ident, word, comma, words, type_words, meta_words}
use Rattle.wdl_ast.specs.DocumentWords.{each, maybe, declaration_words, input_words, task_element_words, workflow_element_words, statement_words, target_words, renaming_words, after_words, argument_words, struct_member_words, section_words}
use Rattle.wdl_parse_expr.specs.Context.{Part, an_expr, a_part, ExprCause, TypeCause}
use Rattle.wdl_parse_expr.specs.Grammar.{max_depth, IsExpr}
use Rattle.token_reading.specs.TypeGrammar.{IsType}
use Rattle.wdl_parse_parts.specs.Grammar.{Each, IfThere, MetaWithin, max_meta_depth, IsIdent, IsDeclaration, IsInput}
use Rattle.wdl_parse_doc.specs.Grammar.{IsTaskElement, IsTarget, IsRenaming, IsAfter, IsArgument, IsStatement, IsWorkflowElement, IsStructMember, IsSection}

-- what may stand behind some tokens
pub data Place : Type 0 where
  a_section : Place
  -- of a struct, a task, a workflow, an input, an output and a runtime section
  a_member : Place
  a_task_element : Place
  a_workflow_element : Place
  an_input : Place
  an_output : Place
  an_attribute : Place
  -- the attributes of a section of metadata
  metadata : Place
  -- the parts of a command
  a_command_part : Place
  a_declaration : Place
  a_statement : Place
  -- of a call
  an_argument : Place
  an_expression : Place
  a_type : Place

-- the elements of tasks and of workflows
pub data IsBody : Place → Type 0 where
  of_task : IsBody a_task_element
  of_workflow : IsBody a_workflow_element

-- the words of the sections of metadata
pub data IsMetaWord : List ℕ → Type 0 where
  meta : IsMetaWord (codes "meta")
  parameter_meta : IsMetaWord (codes "parameter_meta")

-- Behind these tokens, from the first one of the document on, such a part stands.
pub data Stands : Place → Words → Type 0 where
  first : (v n : Span) → Stands a_section (keyword (codes "version") v ∷ at (kind.Frac (codes "1.1")) n ∷ [])
  next_section : (ws : Words) (x : Section) → IsSection x → Stands a_section ws → Stands a_section (ws ++ section_words x)
  -- structs
  members : (ws : Words) (k : Span) (n : Ident) (o : Span) → IsIdent n → Stands a_section ws → Stands a_member (ws ++ keyword (codes "struct") k ∷ ident n ∷ marked mark.OpenBrace o ∷ [])
  next_member : (ws : Words) (x : StructMember) → IsStructMember x → Stands a_member ws → Stands a_member (ws ++ struct_member_words x)
  member_type : (ws : Words) → Stands a_member ws → Stands a_type ws
  -- tasks and workflows
  task : (ws : Words) (k : Span) (n : Ident) (o : Span) → IsIdent n → Stands a_section ws → Stands a_task_element (ws ++ keyword (codes "task") k ∷ ident n ∷ marked mark.OpenBrace o ∷ [])
  next_task_element : (ws : Words) (x : TaskElement) → IsTaskElement x → Stands a_task_element ws → Stands a_task_element (ws ++ task_element_words x)
  task_declaration : (ws : Words) → Stands a_task_element ws → Stands a_declaration ws
  workflow : (ws : Words) (k : Span) (n : Ident) (o : Span) → IsIdent n → Stands a_section ws → Stands a_workflow_element (ws ++ keyword (codes "workflow") k ∷ ident n ∷ marked mark.OpenBrace o ∷ [])
  next_workflow_element : (ws : Words) (x : WorkflowElement) → IsWorkflowElement x → Stands a_workflow_element ws → Stands a_workflow_element (ws ++ workflow_element_words x)
  workflow_statement : (ws : Words) → Stands a_workflow_element ws → Stands a_statement ws
  -- their sections
  inputs : (p : Place) (ws : Words) (k o : Span) → IsBody p → Stands p ws → Stands an_input (ws ++ keyword (codes "input") k ∷ marked mark.OpenBrace o ∷ [])
  next_input : (ws : Words) (x : InputDeclaration) → IsInput x → Stands an_input ws → Stands an_input (ws ++ input_words x)
  input_type : (ws : Words) → Stands an_input ws → Stands a_type ws
  input_value : (ws : Words) (t : TypeTree) (n : Ident) (s : Span) → IsType t → IsIdent n → Stands an_input ws → Stands an_expression (ws ++ (type_words t ++ ident n ∷ marked mark.Assign s ∷ []))
  outputs : (p : Place) (ws : Words) (k o : Span) → IsBody p → Stands p ws → Stands an_output (ws ++ keyword (codes "output") k ∷ marked mark.OpenBrace o ∷ [])
  next_output : (ws : Words) (x : Declaration) → IsDeclaration x → Stands an_output ws → Stands an_output (ws ++ declaration_words x)
  output_declaration : (ws : Words) → Stands an_output ws → Stands a_declaration ws
  runtime : (ws : Words) (k o : Span) → Stands a_task_element ws → Stands an_attribute (ws ++ keyword (codes "runtime") k ∷ marked mark.OpenBrace o ∷ [])
  next_attribute : (ws : Words) (x : Attribute Expr) → IsExpr x.value → Stands an_attribute ws → Stands an_attribute (ws ++ word x.key ∷ marked mark.Colon x.colon ∷ (words x.value ++ comma x.comma))
  attribute_value : (ws : Words) (k : Word) (c : Span) → Stands an_attribute ws → Stands an_expression (ws ++ word k ∷ marked mark.Colon c ∷ [])
  meta_section : (p : Place) (ws : Words) (w : List ℕ) (k o : Span) → IsBody p → IsMetaWord w → Stands p ws → Stands metadata (ws ++ keyword w k ∷ marked mark.OpenBrace o ∷ [])
  command : (ws : Words) (k : Span) (f : Fence) (o : Span) → Stands a_task_element ws → Stands a_command_part (ws ++ keyword (codes "command") k ∷ at (kind.CommandOpen f) o ∷ [])
  -- declarations
  declaration_type : (ws : Words) → Stands a_declaration ws → Stands a_type ws
  declaration_value : (ws : Words) (t : TypeTree) (n : Ident) (s : Span) → IsType t → IsIdent n → Stands a_declaration ws → Stands an_expression (ws ++ (type_words t ++ ident n ∷ marked mark.Assign s ∷ []))
  -- statements
  statement_declaration : (ws : Words) → Stands a_statement ws → Stands a_declaration ws
  next_statement : (ws : Words) (x : Statement) → IsStatement x → Stands a_statement ws → Stands a_statement (ws ++ statement_words x)
  arguments : (ws : Words) (k : Span) (t : CallTarget) (n : Option Renaming) (xs : List After) (o i c : Span) → IsTarget t → IfThere IsRenaming n → Each IsAfter xs → Stands a_statement ws
      → Stands an_argument (ws ++ keyword (codes "call") k ∷ (target_words t ++ (maybe renaming_words n ++ (each after_words xs ++ marked mark.OpenBrace o ∷ keyword (codes "input") i ∷ marked mark.Colon c ∷ []))))
  next_argument : (ws : Words) (x : ListItem Argument) → IsArgument x.item → Stands an_argument ws → Stands an_argument (ws ++ (argument_words x.item ++ comma x.comma))
  argument_value : (ws : Words) (n : Ident) (s : Span) → IsIdent n → Stands an_argument ws → Stands an_expression (ws ++ ident n ∷ marked mark.Assign s ∷ [])
  collection : (ws : Words) (k p : Span) (n : Ident) (i : Span) → IsIdent n → Stands a_statement ws → Stands an_expression (ws ++ keyword (codes "scatter") k ∷ marked mark.OpenParen p ∷ ident n ∷ keyword (codes "in") i ∷ [])
  scatter_body : (ws : Words) (k p : Span) (n : Ident) (i : Span) (x : Expr) (q o : Span) → IsIdent n → IsExpr x → Stands a_statement ws
      → Stands a_statement (ws ++ keyword (codes "scatter") k ∷ marked mark.OpenParen p ∷ ident n ∷ keyword (codes "in") i ∷ (words x ++ marked mark.CloseParen q ∷ marked mark.OpenBrace o ∷ []))
  condition : (ws : Words) (k p : Span) → Stands a_statement ws → Stands an_expression (ws ++ keyword (codes "if") k ∷ marked mark.OpenParen p ∷ [])
  if_body : (ws : Words) (k p : Span) (x : Expr) (q o : Span) → IsExpr x → Stands a_statement ws
      → Stands a_statement (ws ++ keyword (codes "if") k ∷ marked mark.OpenParen p ∷ (words x ++ marked mark.CloseParen q ∷ marked mark.OpenBrace o ∷ []))

-- where a whole expression stands, or a part of a command
abbrev pub WholeExpr : Part → Words → Type 0
WholeExpr p ws = ((p ≡ an_expr) × Stands an_expression ws) ⊎ ((p ≡ a_part) × Stands a_command_part ws)

-- ---- values of metadata

-- what may stand behind some tokens of a section of metadata: an attribute, an item of a list, or a value
pub data MetaPlace : Type 0 where
  an_entry : MetaPlace
  an_item : MetaPlace
  a_value : MetaPlace

-- Behind these tokens such a part stands, in a value that opened so many objects and lists there. The comma behind an item is not asked for.
pub data OpenMeta : MetaPlace → ℕ → Words → Type 0 where
  outermost : (ws : Words) → Stands metadata ws → OpenMeta an_entry 0 ws
  object_ : (n : ℕ) (ws : Words) (o : Span) → OpenMeta a_value n ws → OpenMeta an_entry (suc n) (ws ++ marked mark.OpenBrace o ∷ [])
  next_entry : (n : ℕ) (ws : Words) (d : ℕ) (x : Attribute MetaValue) → MetaWithin d x.value → OpenMeta an_entry n ws → OpenMeta an_entry n (ws ++ word x.key ∷ marked mark.Colon x.colon ∷ (meta_words x.value ++ comma x.comma))
  entry_value : (n : ℕ) (ws : Words) (k : Word) (c : Span) → OpenMeta an_entry n ws → OpenMeta a_value n (ws ++ word k ∷ marked mark.Colon c ∷ [])
  list : (n : ℕ) (ws : Words) (o : Span) → OpenMeta a_value n ws → OpenMeta an_item (suc n) (ws ++ marked mark.OpenBracket o ∷ [])
  next_item : (n : ℕ) (ws : Words) (d : ℕ) (x : ListItem MetaValue) → MetaWithin d x.item → OpenMeta an_item n ws → OpenMeta an_item n (ws ++ (meta_words x.item ++ comma x.comma))
  item_value : (n : ℕ) (ws : Words) → OpenMeta an_item n ws → OpenMeta a_value n ws

-- ---- causes

-- Why such a token is refused with 111 or 120 to 123: where an expression or a type stands, as ExprCause and TypeCause say; and with 111 where a
-- value of metadata stands, and as many are open as may be.
abbrev pub Cause : ℕ → Words → Token → Words → Type 0
Cause c before t after = ExprCause max_depth WholeExpr c before t after ⊎ (TypeCause (Stands a_type) c before t after ⊎ ((c ≡ 111) × OpenMeta a_value max_meta_depth before))
