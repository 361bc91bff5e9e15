-- What statements give out, and the lowest rule that they break, as the code keeps it.
use Rattle.std.specs.Prelude.{ℕ, Bool, List, [], ◌∷◌, ◌++◌, Option, Some, None, option_and_then}
use Rattle.wdl_base.specs.declared.span.Span.{Span}
use Rattle.wdl_value.specs.declared.ty.Ty.{Ty, Ty-F, out-Ty}
use Rattle.wdl_value.specs.declared.ty.Ty.TheOpen as type
use Rattle.wdl_value.specs.declared.ty.Ty.TheVariants as ty
use Rattle.wdl_value.specs.Fits.{Structs}
use Rattle.wdl_typed.specs.declared.expr.TExpr.{TExpr}
use Rattle.wdl_typed.specs.declared.flow.Statement.{Statement, fold-Statement}
use Rattle.wdl_typed.specs.declared.flow.TCall.{TCall}
use Rattle.wdl_typed.specs.declared.scope.Bound.{Bound}
use Rattle.wdl_typed.specs.declared.task.TDecl.{TDecl}
use Rattle.wdl_typed.specs.Bodies.{Library, Signature, library, optional, signature}
use Rattle.wdl_typed.specs.Declarations.{bound, decls_bound, in_body}
use Rattle.cwl_image.specs.declared.broken.Broken.{Broken}
use Rattle.cwl_image.specs.Subset.{Walked, after_block, block_broken, call_broken, decl_broken, declared_step, each_broken, flow_output_broken, if_over, outputs_bound, retyped_bound, scatter_over, walk_body}
use Rattle.cwl_subset.specs.declared.walk.Context.{Context}
use Rattle.cwl_subset.specs.declared.walk.Walked.{Walked as Kept}
use Rattle.cwl_rules.specs.Lowest.{lower, lowest}

abbrev pub library_of : Context → Library
library_of c = library c.structs.now c.tasks.now c.flows.now

abbrev pub summed : Walked → Kept
summed w = record { given = w.given; broken = lowest w.broken }

abbrev pub none : Kept
none = record { given = []; broken = None }

abbrev pub joined : Kept → Kept → Kept
joined v w = record { given = v.given ++ w.given; broken = lower v.broken w.broken }

abbrev pub call_walk : Library → List (List ℕ) → TCall → List Bound → Kept
call_walk lib declared c names =
    record { given = outputs_bound c.name (signature lib c.target); broken = lowest (call_broken lib.structs declared names c) }

abbrev pub decl_walk : Structs → TDecl → List Bound → Kept
decl_walk structs d names =
    record { given = bound d.name d.ty ∷ []; broken = lowest (decl_broken structs names d) }

abbrev pub scattered : Option Broken → Kept → Bool → Kept
scattered head w some =
    record { given = retyped_bound (λ u. ty.Array u some) w.given; broken = lower head w.broken }

abbrev pub conditional : Option Broken → Kept → Kept
conditional head w = record { given = retyped_bound optional w.given; broken = lower head w.broken }

-- the item type of an array, and whether it has `+`
abbrev pub items_at : Ty-F Ty → Option (Ty × Bool)
items_at (type.Array t some) = Some (t, some)
items_at t = None

abbrev pub items_of : Structs → List Bound → TExpr → Option (Ty × Bool)
items_of structs names over = option_and_then (λ t. items_at (out-Ty t)) (in_body structs names over)

abbrev pub scatter_walk : Library → List (List ℕ) → List Statement → List ℕ → TExpr → Span → List Bound → Walked
scatter_walk lib declared body item over span names =
    after_block (block_broken lib.structs declared names over span)
    (scatter_over item (walk_body lib declared body) names (in_body lib.structs names over))

abbrev pub if_walk : Library → List (List ℕ) → List Statement → TExpr → Span → List Bound → Walked
if_walk lib declared body cond span names =
    after_block (block_broken lib.structs declared names cond span) (if_over (walk_body lib declared body) names)

-- the names that a statement and the bodies in it declare
abbrev pub declared_in : Statement → List (List ℕ)
declared_in = fold-Statement (List (List ℕ)) declared_step

abbrev pub outputs_in : Option Signature → Option (List TDecl)
outputs_in None = None
outputs_in (Some s) = Some s.outputs

-- The outputs of a workflow see these names and each other.
abbrev pub flow_outputs_broken : Structs → List Bound → List TDecl → List Broken
flow_outputs_broken structs names ds = each_broken (flow_output_broken structs (names ++ decls_bound ds)) ds
