-- Equality of places and requests, as a test.
use Rattle.std.specs.Prelude.{ℕ, Bool, true, false, ◌&&◌, ◌==◌, List, [], ◌∷◌}
use Rattle.std.specs.Str.{bytes_eq}
use Rattle.wdl_base.specs.declared.body.Laid.{Laid}
use Rattle.wdl_base.specs.declared.place.Segment.{Segment}
use Rattle.wdl_base.specs.declared.place.Segment.TheVariants.{Call, Scatter, If, Index}
use Rattle.wdl_base.specs.declared.request.Attribute.{Attribute}
use Rattle.wdl_base.specs.declared.request.Request.{Request}

abbrev pub same_segment : Segment → Segment → Bool
same_segment (Call a) (Call b) = bytes_eq a b
same_segment (Scatter a) (Scatter b) = a == b
same_segment (If a) (If b) = a == b
same_segment (Index a) (Index b) = a == b
same_segment _ _ = false

abbrev pub same_place : List Segment → List Segment → Bool
same_place [] [] = true
same_place (a ∷ as_) (b ∷ bs) = same_segment a b && same_place as_ bs
same_place _ _ = false

abbrev pub same_laid : List Laid → List Laid → Bool
same_laid [] [] = true
same_laid (a ∷ as_) (b ∷ bs) = bytes_eq a.name b.name && bytes_eq a.body b.body && same_laid as_ bs
same_laid _ _ = false

abbrev pub same_attributes : List Attribute → List Attribute → Bool
same_attributes [] [] = true
same_attributes (a ∷ as_) (b ∷ bs) = bytes_eq a.name b.name && bytes_eq a.value b.value && same_attributes as_ bs
same_attributes _ _ = false

abbrev pub same_texts : List (List ℕ) → List (List ℕ) → Bool
same_texts [] [] = true
same_texts (a ∷ as_) (b ∷ bs) = bytes_eq a b && same_texts as_ bs
same_texts _ _ = false

abbrev pub same_bool : Bool → Bool → Bool
same_bool true b = b
same_bool false true = false
same_bool false false = true

abbrev pub same_request : Request → Request → Bool
same_request a b =
    same_place a.place b.place
    && (a.attempt == b.attempt)
    && bytes_eq a.dir b.dir
    && bytes_eq a.command b.command
    && same_laid a.files b.files
    && same_attributes a.attributes b.attributes
    && same_texts a.inputs b.inputs
    && same_bool a.reads b.reads
