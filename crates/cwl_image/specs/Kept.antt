-- What a form of the subset keeps.
use Rattle.std.specs.Prelude.{ℕ, Bool, false, ◌&&◌, Option, Some, None}
use Rattle.wdl_typed.specs.Bodies.{Library}
use Rattle.cwl_image.specs.Named.{names_are_names}
use Rattle.cwl_image.specs.Subset.{in_subset}

-- There is a main workflow, it breaks no rule and reaches nothing that does, and each name is a NAME.
abbrev pub is_kept : Library → Option ℕ → Bool
is_kept lib None = false
is_kept lib (Some main) = in_subset lib main && names_are_names lib
