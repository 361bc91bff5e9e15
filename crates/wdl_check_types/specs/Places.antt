-- Where written types, declarations and statements stand.
use Rattle.std.specs.Prelude.{List, [], ◌∷◌, Option, Some, None}
use Rattle.wdl_base.specs.declared.span.Span.{Span}
use Rattle.wdl_ast.specs.declared.leaf.Ident.{Ident}
use Rattle.wdl_ast.specs.declared.section.Assigned.{Assigned}
use Rattle.wdl_ast.specs.declared.section.Declaration.{Declaration}
use Rattle.wdl_ast.specs.declared.section.InputDeclaration.{InputDeclaration}
use Rattle.wdl_ast.specs.declared.type_tree.BaseType.{BaseType}
use Rattle.wdl_ast.specs.declared.type_tree.BaseType.TheVariants as base
use Rattle.wdl_ast.specs.declared.type_tree.TypeTree.{TypeTree, out-TypeTree}
use Rattle.wdl_ast.specs.declared.workflow.After.{After}
use Rattle.wdl_ast.specs.declared.workflow.Call.{Call}
use Rattle.wdl_ast.specs.declared.workflow.CallBody.{CallBody}
use Rattle.wdl_ast.specs.declared.workflow.Renaming.{Renaming}
use Rattle.wdl_ast.specs.declared.workflow.Statement.{Statement, Statement-F, out-Statement}
use Rattle.wdl_ast.specs.declared.workflow.Statement.TheOpen as layer
use Rattle.wdl_ast.specs.declared.workflow.TargetMember.{TargetMember}
use Rattle.wdl_check_rules.specs.Spans.{joined, span_of}

abbrev pub base_start : {A : Type 0} → BaseType A → Span
base_start (base.Boolean s) = s
base_start (base.Int s) = s
base_start (base.Str s) = s
base_start (base.File s) = s
base_start (base.Struct n) = n.span
base_start (base.Array w o item c plus) = w
base_start (base.Map w o key m value c) = w
base_start (base.Pair w o left m right c) = w

-- the first token
abbrev pub type_start : TypeTree → Span
type_start tree = base_start (out-TypeTree tree).base

abbrev pub preset_end : Ident → Option Assigned → Span
preset_end n None = n.span
preset_end n (Some a) = span_of a.value

abbrev pub input_span : InputDeclaration → Span
input_span i = joined (type_start i.ty) (preset_end i.name i.preset)

abbrev pub declaration_span : Declaration → Span
declaration_span d = joined (type_start d.ty) (span_of d.value)

-- ---- calls

abbrev pub last_word : Ident → Option TargetMember → Ident
last_word n None = n
last_word n (Some m) = m.name

abbrev pub alias_or : Option Renaming → Ident → Ident
alias_or None n = n
alias_or (Some r) n = r.name

-- A call has the name of its alias, or else of its target.
abbrev pub call_ident : Call → Ident
call_ident c = alias_or c.alias (last_word c.target.first c.target.second)

abbrev pub last_after : Span → List After → Span
last_after s [] = s
last_after s (a ∷ as_) = last_after a.name.span as_

abbrev pub call_end : Span → Option CallBody → Span
call_end s None = s
call_end s (Some b) = b.closing

abbrev pub call_span : Call → Span
call_span c = joined c.keyword (call_end (last_after (call_ident c).span c.after) c.body)

-- ---- statements

abbrev pub span_at : {A : Type 0} → Statement-F A → Span
span_at (layer.Declaration d) = declaration_span d
span_at (layer.Call c) = call_span c
span_at (layer.Scatter s) = joined s.keyword s.closing
span_at (layer.Conditional i) = joined i.keyword i.closing

abbrev pub statement_span : Statement → Span
statement_span s = span_at (out-Statement s)
