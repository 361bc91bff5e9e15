-- The text of a place.
use Rattle.std.specs.Prelude.{ℕ, List, [], ◌∷◌, ◌++◌, codes, decimal}
use Rattle.wdl_base.specs.declared.place.Segment.{Segment}
use Rattle.wdl_base.specs.declared.place.Segment.TheVariants.{Call, Scatter, If, Index}

abbrev pub segment_text : Segment → List ℕ
segment_text (Call name) = name
segment_text (Scatter k) = codes "scatter-" ++ decimal k
segment_text (If k) = codes "if-" ++ decimal k
segment_text (Index i) = decimal i

-- a slash before each segment
abbrev pub rest_text : List Segment → List ℕ
rest_text [] = []
rest_text (s ∷ more) = 47 ∷ (segment_text s ++ rest_text more)

-- the segments joined by slashes; the empty place is a point
abbrev pub place_text : List Segment → List ℕ
place_text [] = codes "."
place_text (s ∷ more) = segment_text s ++ rest_text more
