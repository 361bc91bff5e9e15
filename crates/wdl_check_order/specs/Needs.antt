-- What members of a list as they are written give to the others, and refer to (OpenWDL 1.1, "Workflow Definition").
use Rattle.std.specs.Prelude.{List, [], ◌∷◌, ◌++◌, Option, Some, None}
use Rattle.wdl_ast.specs.declared.leaf.Ident.{Ident}
use Rattle.wdl_ast.specs.declared.leaf.ListItem.{ListItem}
use Rattle.wdl_ast.specs.declared.section.Assigned.{Assigned}
use Rattle.wdl_ast.specs.declared.section.Declaration.{Declaration}
use Rattle.wdl_ast.specs.declared.section.InputDeclaration.{InputDeclaration}
use Rattle.wdl_ast.specs.declared.workflow.After.{After}
use Rattle.wdl_ast.specs.declared.workflow.Argument.{Argument}
use Rattle.wdl_ast.specs.declared.workflow.Call.{Call}
use Rattle.wdl_ast.specs.declared.workflow.CallBody.{CallBody}
use Rattle.wdl_ast.specs.declared.workflow.CallInputs.{CallInputs}
use Rattle.wdl_ast.specs.declared.workflow.Statement.{Statement, Statement-F, fold-Statement}
use Rattle.wdl_ast.specs.declared.workflow.Statement.TheOpen as layer
use Rattle.wdl_typed.specs.Order.{Needing, all_given, all_referred, without}
use Rattle.wdl_check_types.specs.Places.{call_ident}
use Rattle.wdl_check_order.specs.Names.{Words, names_of}

abbrev pub preset_names : Option Assigned → Words
preset_names None = []
preset_names (Some a) = names_of a.value

-- An input without a default refers to nothing.
abbrev pub input_needing : InputDeclaration → Needing
input_needing i = record { gives = i.name.name ∷ []; refers = preset_names i.preset }

abbrev pub declaration_needing : Declaration → Needing
declaration_needing d = record { gives = d.name.name ∷ []; refers = names_of d.value }

-- ---- calls

-- an argument without a value stands for the name itself
abbrev pub value_names : Ident → Option Assigned → Words
value_names n None = n.name ∷ []
value_names n (Some v) = names_of v.value

abbrev pub argument_names : Argument → Words
argument_names a = value_names a.name a.value

abbrev pub arguments_names : List (ListItem Argument) → Words
arguments_names [] = []
arguments_names (a ∷ as_) = argument_names a.item ++ arguments_names as_

abbrev pub some_arguments : Option CallInputs → List (ListItem Argument)
some_arguments None = []
some_arguments (Some i) = i.arguments

abbrev pub body_arguments : Option CallBody → List (ListItem Argument)
body_arguments None = []
body_arguments (Some b) = some_arguments b.inputs

abbrev pub call_arguments : Call → List (ListItem Argument)
call_arguments c = body_arguments c.body

abbrev pub after_names : List After → Words
after_names [] = []
after_names (a ∷ as_) = a.name.name ∷ after_names as_

abbrev pub call_needing : Call → Needing
call_needing c = record { gives = (call_ident c).name ∷ []; refers = arguments_names (call_arguments c) ++ after_names c.after }

-- ---- statements: a block refers to what its body, its collection or its condition refers to from outside

abbrev pub needing_step : Statement-F Needing → Needing
needing_step (layer.Declaration d) = declaration_needing d
needing_step (layer.Call c) = call_needing c
needing_step (layer.Scatter s) =
    record { gives = all_given s.body; refers = names_of s.over ++ without (s.item.name ∷ all_given s.body) (all_referred s.body) }
needing_step (layer.Conditional i) =
    record { gives = all_given i.body; refers = names_of i.condition ++ without (all_given i.body) (all_referred i.body) }

abbrev pub statement_needing : Statement → Needing
statement_needing = fold-Statement Needing needing_step
