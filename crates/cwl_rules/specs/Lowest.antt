-- The lowest of the rules that are broken.
use Rattle.std.specs.Prelude.{nat_lt, List, [], ◌∷◌, Option, Some, None, if◌then◌else◌}
use Rattle.cwl_image.specs.declared.broken.Broken.{Broken}

-- the one with the lower rule; of two with one rule the first
abbrev pub lower : Option Broken → Option Broken → Option Broken
lower None b = b
lower (Some a) None = Some a
lower (Some a) (Some b) = if nat_lt b.rule a.rule then Some b else Some a

-- the first of those with the lowest rule
abbrev pub lowest : List Broken → Option Broken
lowest [] = None
lowest (b ∷ bs) = lower (Some b) (lowest bs)
