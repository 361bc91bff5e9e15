-- Declarations that only give another name to an input, an item, a member of one of these, or a file: each use has the
-- value in its place, and the declaration goes.
use Rattle.std.specs.Prelude.{ℕ, Bool, List, [], ◌∷◌, ◌++◌, Option, Some, None, option_and_then, if◌then◌else◌, map}
use Rattle.wdl_base.specs.declared.name.Key.{Key}
use Rattle.wdl_value.specs.declared.ty.Ty.{Ty, Ty-F, out-Ty}
use Rattle.wdl_value.specs.declared.ty.Ty.TheVariants as ty
use Rattle.wdl_value.specs.declared.ty.Ty.TheOpen as type
use Rattle.wdl_value.specs.Fits.{Structs}
use Rattle.wdl_typed.specs.declared.expr.TExpr.{TExpr}
use Rattle.wdl_typed.specs.declared.flow.FlowDef.{FlowDef}
use Rattle.wdl_typed.specs.declared.flow.Statement.{Statement, Statement-F, fold-Statement}
use Rattle.wdl_typed.specs.declared.flow.Statement.TheOpen as layer
use Rattle.wdl_typed.specs.declared.flow.Statement.TheVariants as statement
use Rattle.wdl_typed.specs.declared.flow.TCall.{TCall}
use Rattle.wdl_typed.specs.declared.flow.TIf.{TIf}
use Rattle.wdl_typed.specs.declared.flow.TScatter.{TScatter}
use Rattle.wdl_typed.specs.declared.scope.Bound.{Bound}
use Rattle.wdl_typed.specs.declared.task.TDecl.{TDecl}
use Rattle.wdl_typed.specs.Bodies.{Library, optional, signature}
use Rattle.wdl_typed.specs.Declarations.{bound, in_body, inputs_bound, plain_key}
use Rattle.wdl_typed.specs.KnownTypes.{is_some}
use Rattle.wdl_typed.specs.Lists.{has_name}
use Rattle.wdl_typed.specs.Scope.{type_in}
use Rattle.cwl_image.specs.Expressions.{is_file_type}
use Rattle.cwl_image.specs.Subset.{declared_by, outputs_bound, retyped_bound}
use Rattle.wdl_swaps.specs.declared.chain.Chain.{Chain}
use Rattle.wdl_swaps.specs.declared.swap.Swap.{Swap}
use Rattle.wdl_swaps.specs.Chains.{chain_of}
use Rattle.wdl_swaps.specs.Strays.{flow_strays}
use Rattle.wdl_swaps.specs.Swaps.{swapped, swapped_args, swapped_decl}
use Rattle.cwl_records.specs.Types.{hops_type}

-- the library, the names that the workflow's body and the bodies in it declare, and its strays
pub record Scene : Type 0 where
  pub lib : Library
  pub declared : List (List ℕ)
  pub strays : List (List ℕ)

-- ---- sources

abbrev pub file_alone : Option Ty → Option Ty
file_alone None = None
file_alone (Some t) = if is_file_type t then Some t else None

-- the type of an input or an item, or of an output of a call that is seen as a File: the call stands in the same body or in
-- one round it
abbrev pub root_type : List (List ℕ) → List Bound → Key → Option Ty
root_type declared names key =
    if is_some key.second then file_alone (type_in names key)
    else (if has_name key.first declared then None else type_in names key)

-- The members are those of structs, and the casts widen.
abbrev pub is_source : Structs → List (List ℕ) → List Bound → Chain → Bool
is_source structs declared names c = is_some (option_and_then (hops_type structs c.hops) (root_type declared names c.key))

abbrev pub source_of : Structs → List (List ℕ) → List Bound → Option Chain → Option Chain
source_of structs declared names None = None
source_of structs declared names (Some c) = if is_source structs declared names c then Some c else None

-- the value of a declaration that is an alias
abbrev pub alias_of : Scene → List Bound → List ℕ → TExpr → Option Chain
alias_of scene names name value =
    if has_name name scene.strays then None else source_of scene.lib.structs scene.declared names (chain_of value)

-- ---- statements

-- the names that a statement gives out, with their types; what stands in its place; and what stands in the place of its name
pub record Step : Type 0 where
  pub given : List Bound
  pub kept : List Statement
  pub added : List Swap

abbrev pub step : List Bound → List Statement → List Swap → Step
step given kept added = record { given = given; kept = kept; added = added }

-- by the names that are seen, and what stands in the places of aliases
abbrev pub Walk : Type 0
Walk = List Bound → List Swap → Step

abbrev pub followed : Step → Step → Step
followed s t = step (s.given ++ t.given) (s.kept ++ t.kept) (s.added ++ t.added)

abbrev pub body_walk : List Walk → Walk
body_walk [] names swaps = step [] [] []
body_walk (w ∷ ws) names swaps =
    followed (w names swaps) (body_walk ws (names ++ (w names swaps).given) (swaps ++ (w names swaps).added))

abbrev pub alias_swap : List ℕ → Chain → Swap
alias_swap name c = record { key = plain_key name; path = []; value = c }

abbrev pub decl_by : TDecl → Option Chain → Step
decl_by d None = step (bound d.name d.ty ∷ []) (statement.Decl d ∷ []) []
decl_by d (Some c) = step (bound d.name d.ty ∷ []) [] (alias_swap d.name c ∷ [])

abbrev pub decl_walk : Scene → TDecl → Walk
decl_walk scene d names swaps = decl_by (swapped_decl swaps d) (alias_of scene names d.name (swapped swaps d.value))

abbrev pub swapped_call : List Swap → TCall → TCall
swapped_call swaps c = record { name = c.name; target = c.target; args = swapped_args swaps c.args; after = c.after; span = c.span }

abbrev pub call_walk : Scene → TCall → Walk
call_walk scene c names swaps =
    step (outputs_bound c.name (signature scene.lib c.target)) (statement.Call (swapped_call swaps c) ∷ []) []

abbrev pub scatter_with : {S : Type 0} → List Swap → TScatter S → List Statement → Statement
scatter_with swaps s body =
    statement.Scatter (record { number = s.number; item = s.item; over = swapped swaps s.over; body = body; span = s.span })

-- (the collection of a checked form is an array)
abbrev pub scatter_at : TScatter Walk → List Bound → List Swap → Ty-F Ty → Step
scatter_at s names swaps (type.Array t some) =
    let inside = body_walk s.body (names ++ bound s.item t ∷ []) swaps in
    step (retyped_bound (λ u. ty.Array u some) inside.given) (scatter_with swaps s inside.kept ∷ []) []
scatter_at s names swaps t = step [] (scatter_with swaps s [] ∷ []) []

abbrev pub scatter_over : TScatter Walk → List Bound → List Swap → Option Ty → Step
scatter_over s names swaps None = step [] (scatter_with swaps s [] ∷ []) []
scatter_over s names swaps (Some t) = scatter_at s names swaps (out-Ty t)

abbrev pub if_with : {S : Type 0} → List Swap → TIf S → List Statement → Statement
if_with swaps i body = statement.If (record { number = i.number; cond = swapped swaps i.cond; body = body; span = i.span })

abbrev pub if_over : TIf Walk → Walk
if_over i names swaps =
    let inside = body_walk i.body names swaps in
    step (retyped_bound optional inside.given) (if_with swaps i inside.kept ∷ []) []

abbrev pub walk_step : Scene → Statement-F Walk → Walk
walk_step scene (layer.Decl d) names swaps = decl_walk scene d names swaps
walk_step scene (layer.Call c) names swaps = call_walk scene c names swaps
walk_step scene (layer.Scatter s) names swaps = scatter_over s names swaps (in_body scene.lib.structs names s.over)
walk_step scene (layer.If i) names swaps = if_over i names swaps

abbrev pub walk : Scene → Statement → Walk
walk scene = fold-Statement Walk (walk_step scene)

abbrev pub walk_body : Scene → List Statement → Walk
walk_body scene ss = body_walk (map (walk scene) ss)

-- ---- workflows

abbrev pub scene_of : Library → FlowDef → Scene
scene_of lib f = record { lib = lib; declared = declared_by f.body; strays = flow_strays f }

abbrev pub walk_flow : Library → FlowDef → Step
walk_flow lib f = walk_body (scene_of lib f) f.body (inputs_bound f.inputs) []

abbrev pub unaliased : Library → FlowDef → FlowDef
unaliased lib f =
    let s = walk_flow lib f in
    record { name = f.name; inputs = f.inputs; body = s.kept; outputs = map (swapped_decl s.added) f.outputs; span = f.span }
