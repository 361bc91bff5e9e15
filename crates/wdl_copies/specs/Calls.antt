-- Calls, which name the tasks of another document.
use Rattle.std.specs.Prelude.{ℕ, Bool, true, false, not, List, Option, Some, None, map, option_map}
use Rattle.std.specs.Str.{bytes_eq}
use Rattle.wdl_ast.specs.declared.leaf.Ident.{Ident}
use Rattle.wdl_ast.specs.declared.leaf.ListItem.{ListItem}
use Rattle.wdl_ast.specs.declared.workflow.Argument.{Argument}
use Rattle.wdl_ast.specs.declared.workflow.Call.{Call}
use Rattle.wdl_ast.specs.declared.workflow.CallBody.{CallBody}
use Rattle.wdl_ast.specs.declared.workflow.CallInputs.{CallInputs}
use Rattle.wdl_ast.specs.declared.workflow.CallTarget.{CallTarget}
use Rattle.wdl_ast.specs.declared.workflow.Renaming.{Renaming}
use Rattle.wdl_check_rules.specs.Locals.{Naming}
use Rattle.wdl_check_types.specs.Places.{last_word}
use Rattle.wdl_copies.specs.Renamed.{assigned_with, ident_at}

abbrev pub target_ident : CallTarget → Ident
target_ident t = last_word t.first t.second

abbrev pub named_as : Ident → Option (List ℕ) → Ident
named_as i None = i
named_as i (Some name) = ident_at name i.span

abbrev pub target_with : Option (List ℕ) → CallTarget → CallTarget
target_with o t = record { first = named_as (target_ident t) o; second = None }

-- A call without `as` of a task that has another name now gets `as` with the old one.
abbrev pub differs : Option (List ℕ) → List ℕ → Bool
differs None old = false
differs (Some name) old = not (bytes_eq name old)

abbrev pub alias_for : Ident → Bool → Option Renaming
alias_for i true = Some (record { as_word = i.span; name = i })
alias_for i false = None

abbrev pub alias_with : Option (List ℕ) → Ident → Option Renaming → Option Renaming
alias_with o i (Some r) = Some r
alias_with o i None = alias_for i (differs o i.name)

abbrev pub argument_with : Naming → Argument → Argument
argument_with locals a = record { name = a.name; value = option_map (assigned_with locals) a.value }

abbrev pub argument_item : Naming → ListItem Argument → ListItem Argument
argument_item locals i = record { item = argument_with locals i.item; comma = i.comma }

abbrev pub call_inputs_with : Naming → CallInputs → CallInputs
call_inputs_with locals i = record { keyword = i.keyword; colon = i.colon; arguments = map (argument_item locals) i.arguments }

abbrev pub call_body_with : Naming → CallBody → CallBody
call_body_with locals b = record { opening = b.opening; inputs = option_map (call_inputs_with locals) b.inputs; closing = b.closing }

-- a call of a task that has this name in the bundle
abbrev pub call_as : Naming → Option (List ℕ) → Call → Call
call_as locals o c = record {
  keyword = c.keyword;
  target = target_with o c.target;
  alias = alias_with o (target_ident c.target) c.alias;
  after = c.after;
  body = option_map (call_body_with locals) c.body;
}
