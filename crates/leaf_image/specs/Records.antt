-- Struct inputs, replaced by their leaves.
use Rattle.std.specs.Prelude.{ℕ, Bool, true, false, ◌&&◌, List, [], ◌∷◌, ◌++◌, Option, Some, None, if◌then◌else◌, is_none, map, slice_get}
use Rattle.std.specs.Str.{bytes_eq}
use Rattle.wdl_base.specs.declared.name.Key.{Key}
use Rattle.wdl_base.specs.declared.span.Span.{Span}
use Rattle.wdl_typed.specs.declared.expr.TExpr.{TExpr}
use Rattle.wdl_typed.specs.declared.expr.TField.{TField}
use Rattle.wdl_typed.specs.declared.flow.FlowDef.{FlowDef}
use Rattle.wdl_typed.specs.declared.flow.Statement.{Statement, Statement-F, fold-Statement}
use Rattle.wdl_typed.specs.declared.flow.Statement.TheOpen as layer
use Rattle.wdl_typed.specs.declared.flow.Statement.TheVariants as statement
use Rattle.wdl_typed.specs.declared.flow.TCall.{TCall}
use Rattle.wdl_typed.specs.declared.flow.Target.{Target}
use Rattle.wdl_typed.specs.declared.flow.Target.TheVariants as target
use Rattle.wdl_typed.specs.declared.task.TInput.{TInput}
use Rattle.wdl_typed.specs.Declarations.{plain_key}
use Rattle.wdl_swaps.specs.declared.chain.Chain.{Chain}
use Rattle.wdl_swaps.specs.declared.chain.Hop.{Hop}
use Rattle.wdl_swaps.specs.declared.chain.Hop.TheVariants as hop
use Rattle.wdl_swaps.specs.declared.swap.Swap.{Swap}
use Rattle.wdl_swaps.specs.Chains.{chain, chain_of, expr_of}
use Rattle.wdl_swaps.specs.Swaps.{swap_at, swapped, swapped_decl, swapped_input}
use Rattle.leaf_image.specs.declared.leaf.Leaf.{Leaf}
use Rattle.leaf_image.specs.Leaves.{is_record}

-- ---- inputs

abbrev pub of_input : List ℕ → List Leaf → List Leaf
of_input name [] = []
of_input name (l ∷ ls) = (if bytes_eq l.input name then l ∷ [] else []) ++ of_input name ls

abbrev pub leaf_input : Span → Leaf → TInput
leaf_input span l = record { name = l.name; ty = l.ty; value = None; span = span }

abbrev pub leaf_swap : Leaf → Swap
leaf_swap l = record { key = plain_key l.input; path = l.path; value = chain (plain_key l.name) [] }

abbrev pub swaps_of : List Leaf → List Swap
swaps_of ls = map leaf_swap ls

abbrev pub input_leaves : List Leaf → TInput → List TInput
input_leaves ls i = if is_record i then map (leaf_input i.span) (of_input i.name ls) else swapped_input (swaps_of ls) i ∷ []

abbrev pub all_inputs : List Leaf → List TInput → List TInput
all_inputs ls [] = []
all_inputs ls (i ∷ is) = input_leaves ls i ++ all_inputs ls is

-- ---- arguments

-- The chain with these members behind it.
abbrev pub member_hops : List (List ℕ) → List Hop
member_hops ms = map hop.Member ms

abbrev pub farther : Chain → List (List ℕ) → Chain
farther c path = chain c.key (c.hops ++ member_hops path)

abbrev pub or_itself : Chain → Option Chain → Chain
or_itself c None = c
or_itself c (Some d) = d

abbrev pub in_place : List Swap → Chain → Chain
in_place ss c = or_itself c (swap_at ss c.key c.hops)

-- the argument for a leaf of the input that the chain is given to
abbrev pub leaf_arg : List Swap → Chain → Leaf → TField TExpr
leaf_arg ss c l = record { name = l.name; value = expr_of (in_place ss (farther c l.path)) }

abbrev pub leaves_at : Option (List Leaf) → List Leaf
leaves_at None = []
leaves_at (Some ls) = ls

abbrev pub inputs_at : Option FlowDef → List TInput
inputs_at None = []
inputs_at (Some f) = f.inputs

-- what an argument sees: the inputs of its workflow, and what stands in the places of the struct inputs among them
pub record Own : Type 0 where
  pub inputs : List TInput
  pub swaps : List Swap

abbrev pub is_record_of : List TInput → List ℕ → Bool
is_record_of [] name = false
is_record_of (i ∷ is) name = if bytes_eq i.name name then is_record i else is_record_of is name

abbrev pub is_own : List TInput → Key → Bool
is_own is key = is_none key.second && is_record_of is key.first

abbrev pub plain_arg : List Swap → TField TExpr → TField TExpr
plain_arg ss a = record { name = a.name; value = swapped ss a.value }

-- members alone, and no casts
abbrev pub is_path : List Hop → Bool
is_path [] = true
is_path (hop.Member n ∷ hs) = is_path hs
is_path (hop.Cast t ∷ hs) = false

-- one argument for each leaf, where a struct input or members of one are given
abbrev pub leaf_args : Own → List Leaf → TField TExpr → Option Chain → List (TField TExpr)
leaf_args own ls a None = plain_arg own.swaps a ∷ []
leaf_args own ls a (Some c) =
    if is_own own.inputs c.key && is_path c.hops then map (leaf_arg own.swaps c) (of_input a.name ls) else plain_arg own.swaps a ∷ []

-- the inputs of the workflow that a call names, with the leaves of the struct inputs among them
pub record Callee : Type 0 where
  pub inputs : List TInput
  pub leaves : List Leaf

abbrev pub each_arg : Own → Callee → TField TExpr → List (TField TExpr)
each_arg own c a =
    if is_record_of c.inputs a.name then leaf_args own c.leaves a (chain_of a.value) else plain_arg own.swaps a ∷ []

abbrev pub all_args : Own → Callee → List (TField TExpr) → List (TField TExpr)
all_args own c [] = []
all_args own c (a ∷ as_) = each_arg own c a ++ all_args own c as_

-- ---- bodies

-- the workflows, the leaves of the struct inputs of each, and what a body sees of its own workflow
pub record Setting : Type 0 where
  pub flows : List FlowDef
  pub leaves : List (List Leaf)
  pub own : Own

abbrev pub callee_of : List FlowDef → List (List Leaf) → Target → Callee
callee_of flows leaves (target.Task k) = record { inputs = []; leaves = [] }
callee_of flows leaves (target.Flow k) = record { inputs = inputs_at (slice_get flows k); leaves = leaves_at (slice_get leaves k) }

abbrev pub expanded_call : Setting → TCall → TCall
expanded_call s c =
    record { name = c.name; target = c.target; args = all_args s.own (callee_of s.flows s.leaves c.target) c.args; after = c.after; span = c.span }

abbrev pub expanded_step : Setting → Statement-F Statement → Statement
expanded_step x (layer.Decl d) = statement.Decl (swapped_decl x.own.swaps d)
expanded_step x (layer.Call c) = statement.Call (expanded_call x c)
expanded_step x (layer.Scatter s) =
    statement.Scatter (record { number = s.number; item = s.item; over = swapped x.own.swaps s.over; body = s.body; span = s.span })
expanded_step x (layer.If i) =
    statement.If (record { number = i.number; cond = swapped x.own.swaps i.cond; body = i.body; span = i.span })

-- the statement with leaves in the places of struct inputs
unfoldable pub expanded : Setting → Statement → Statement
expanded x = fold-Statement Statement (expanded_step x)

-- ---- workflows

abbrev pub own_of : List Leaf → FlowDef → Own
own_of ls f = record { inputs = f.inputs; swaps = swaps_of ls }

abbrev pub setting_of : List FlowDef → List (List Leaf) → List Leaf → FlowDef → Setting
setting_of flows leaves ls f = record { flows = flows; leaves = leaves; own = own_of ls f }

abbrev pub expanded_flow : List FlowDef → List (List Leaf) → List Leaf → FlowDef → FlowDef
expanded_flow flows leaves ls f =
    record {
      name = f.name;
      inputs = all_inputs ls f.inputs;
      body = map (expanded (setting_of flows leaves ls f)) f.body;
      outputs = map (swapped_decl (swaps_of ls)) f.outputs;
      span = f.span;
    }
