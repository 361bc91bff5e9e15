-- What the walk over a body keeps, in the words of the definitions.
use Rattle.std.specs.Prelude.{ℕ, Bool, List, [], ◌∷◌, ◌++◌, map, Option, Some, None}
use Rattle.wdl_value.specs.declared.ty.Ty.{Ty}
use Rattle.wdl_value.specs.declared.ty.Ty.TheVariants as ty
use Rattle.wdl_typed.specs.declared.expr.TExpr.{TExpr}
use Rattle.wdl_typed.specs.declared.flow.Statement.{Statement}
use Rattle.wdl_typed.specs.declared.flow.TIf.{TIf}
use Rattle.wdl_typed.specs.declared.flow.TScatter.{TScatter}
use Rattle.wdl_typed.specs.declared.scope.Bound.{Bound}
use Rattle.wdl_typed.specs.Bodies.{optional}
use Rattle.wdl_typed.specs.Declarations.{bound, in_body}
use Rattle.cwl_image.specs.Subset.{retyped_bound}
use Rattle.cwl_subset.specs.Walks.{items_of, library_of}
use Rattle.cwl_records.specs.declared.aliases.Stage.{Stage}
use Rattle.cwl_records.specs.declared.aliases.Walked.{Walked}
use Rattle.wdl_swaps.specs.declared.swap.Swap.{Swap}
use Rattle.cwl_records.specs.Aliases.{Scene, Step, Walk, if_with, scatter_over, scatter_with, walk, walk_body}

abbrev pub scene_of : Stage → Scene
scene_of s = record { lib = library_of s.context.now; declared = s.context.now.declared.now; strays = s.strays.now }

abbrev pub walked : Step → Walked
walked s = record { given = s.given; kept = s.kept }

abbrev pub nothing : Walked
nothing = record { given = []; kept = [] }

abbrev pub joined : Walked → Walked → Walked
joined v w = record { given = v.given ++ w.given; kept = v.kept ++ w.kept }

-- ---- blocks, by what their bodies give

abbrev pub scattered : List Swap → TScatter Statement → Walked → Bool → Walked
scattered swaps s w some = record { given = retyped_bound (λ u. ty.Array u some) w.given; kept = scatter_with swaps s w.kept ∷ [] }

abbrev pub conditional : List Swap → TIf Statement → Walked → Walked
conditional swaps i w = record { given = retyped_bound optional w.given; kept = if_with swaps i w.kept ∷ [] }

abbrev pub not_scattered : List Swap → TScatter Statement → Walked
not_scattered swaps s = record { given = []; kept = scatter_with swaps s [] ∷ [] }

-- what the body of a scatter gives and leaves, by the items and whether the collection has `+`
abbrev pub inside_by : Scene → List Statement → List ℕ → List Bound → List Swap → Option (Ty × Bool) → Option (Walked × Bool)
inside_by scene body item names swaps None = None
inside_by scene body item names swaps (Some p) = Some (walked (walk_body scene body (names ++ bound item p.0 ∷ []) swaps), p.1)

abbrev pub scatter_inside : Scene → List Statement → List ℕ → TExpr → List Bound → List Swap → Option (Walked × Bool)
scatter_inside scene body item over names swaps = inside_by scene body item names swaps (items_of scene.lib.structs names over)

abbrev pub scatter_left : List Swap → TScatter Statement → Option (Walked × Bool) → Walked
scatter_left swaps s None = not_scattered swaps s
scatter_left swaps s (Some p) = scattered swaps s p.0 p.1

-- a scatter and its body, walked
abbrev pub scatter_of : Scene → TScatter Statement → TScatter Walk
scatter_of scene s = record { number = s.number; item = s.item; over = s.over; body = map (walk scene) s.body; span = s.span }

abbrev pub scatter_walk : Scene → TScatter Statement → Walk
scatter_walk scene s names swaps = scatter_over (scatter_of scene s) names swaps (in_body scene.lib.structs names s.over)
