-- Expressions in which chains stand in the places of references, and of members behind them.
use Rattle.std.specs.Prelude.{◌&&◌, List, [], ◌∷◌, Option, Some, None, if◌then◌else◌, option_map}
use Rattle.wdl_base.specs.declared.name.Key.{Key}
use Rattle.wdl_typed.specs.declared.expr.TExpr.{TExpr, TExpr-F, fold-TExpr, roll-TExpr}
use Rattle.wdl_typed.specs.declared.expr.TExpr.TheOpen as layer
use Rattle.wdl_typed.specs.declared.expr.TExpr.TheVariants as e
use Rattle.wdl_typed.specs.declared.expr.TField.{TField}
use Rattle.wdl_typed.specs.declared.expr.TPair.{TPair}
use Rattle.wdl_typed.specs.declared.expr.TPart.{TPart}
use Rattle.wdl_typed.specs.declared.expr.TPart.TheVariants as part
use Rattle.wdl_typed.specs.declared.task.TDecl.{TDecl}
use Rattle.wdl_typed.specs.declared.task.TInput.{TInput}
use Rattle.wdl_typed.specs.Scope.{same_key}
use Rattle.wdl_swaps.specs.declared.chain.Chain.{Chain}
use Rattle.wdl_swaps.specs.declared.chain.Hop.{Hop}
use Rattle.wdl_swaps.specs.declared.chain.Hop.TheVariants as hop
use Rattle.wdl_swaps.specs.declared.swap.Swap.{Swap}
use Rattle.wdl_swaps.specs.Chains.{are_members, behind, chain_of, expr_of}

-- what stands in the place of the chain
abbrev pub swap_at : List Swap → Key → List Hop → Option Chain
swap_at [] key hops = None
swap_at (s ∷ ss) key hops = if same_key s.key key && are_members hops s.path then Some s.value else swap_at ss key hops

abbrev pub swap_chain : List Swap → Option Chain → Option Chain
swap_chain ss None = None
swap_chain ss (Some c) = swap_at ss c.key c.hops

abbrev pub or_chain : TExpr → Option Chain → TExpr
or_chain a None = a
or_chain a (Some c) = expr_of c

abbrev pub swap_step : List Swap → TExpr-F TExpr → TExpr
swap_step ss (layer.Get key) = or_chain (e.Get key) (swap_at ss key [])
swap_step ss (layer.Member a name) = or_chain (e.Member a name) (swap_chain ss (behind (hop.Member name) (chain_of a)))
swap_step ss y = roll-TExpr y

-- the expression with the chains in their places
unfoldable pub swapped : List Swap → TExpr → TExpr
swapped ss = fold-TExpr TExpr (swap_step ss)

-- ---- parts of expressions

abbrev pub rows_with : (TExpr → TExpr) → List (TPair TExpr) → List (TPair TExpr)
rows_with f [] = []
rows_with f (r ∷ rows) = record { key = f r.key; value = f r.value } ∷ rows_with f rows

abbrev pub fields_with : (TExpr → TExpr) → List (TField TExpr) → List (TField TExpr)
fields_with f [] = []
fields_with f (r ∷ fields) = record { name = r.name; value = f r.value } ∷ fields_with f fields

abbrev pub parts_with : (TExpr → TExpr) → List (TPart TExpr) → List (TPart TExpr)
parts_with f [] = []
parts_with f (part.Chars s ∷ parts) = part.Chars s ∷ parts_with f parts
parts_with f (part.Hole h ∷ parts) = part.Hole (record { expr = f h.expr; choice = h.choice }) ∷ parts_with f parts

-- ---- declarations and inputs

abbrev pub swapped_decl : List Swap → TDecl → TDecl
swapped_decl ss d = record { name = d.name; ty = d.ty; value = swapped ss d.value; span = d.span }

abbrev pub swapped_input : List Swap → TInput → TInput
swapped_input ss i = record { name = i.name; ty = i.ty; value = option_map (swapped ss) i.value; span = i.span }

abbrev pub swapped_args : List Swap → List (TField TExpr) → List (TField TExpr)
swapped_args ss = fields_with (swapped ss)
