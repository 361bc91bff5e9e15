-- Why a checked form is refused.
use Rattle.std.specs.Prelude.{◌≡◌, ℕ, ◌<◌, List, [], Option, Some, None}
use Rattle.std.specs.List.{Any}
use Rattle.wdl_typed.specs.Bodies.{Library}
use Rattle.cwl_image.specs.declared.broken.Broken.{Broken}
use Rattle.cwl_image.specs.Subset.{broken_in, places_of, rule}
use Rattle.cwl_subset.specs.declared.subset.SubsetFault.{SubsetFault}
use Rattle.cwl_subset.specs.declared.subset.SubsetFault.TheVariants.{NotInSubset}
use Rattle.cwl_rules.specs.Lowest.{lowest}

-- The rule is broken at the place, and no lower rule is broken.
abbrev pub IsLowest : Broken → List Broken → Type 0
IsLowest b bs = Any (λ s. s ≡ b.span) (places_of b.rule bs) × ((n : ℕ) → n < b.rule → places_of n bs ≡ [])

-- what a refusal says of main
abbrev pub Refuses : Library → Option ℕ → SubsetFault → Type 0
Refuses lib (Some main) (NotInSubset n span) =
    Any (λ s. s ≡ span) (rule n lib main) × ((m : ℕ) → m < n → rule m lib main ≡ [])
Refuses lib main fault = Unit {0}

abbrev pub lowest_in : Library → Option ℕ → Option Broken
lowest_in lib None = None
lowest_in lib (Some main) = lowest (broken_in lib main)
