-- Which texts are those of places.
use Rattle.std.specs.Prelude.{◌≡◌, ◌≢◌, ℕ, ◌^◌, ◌<◌, ◌==◌, ◌&&◌, not, Bool, true, false, List, [], ◌∷◌, Option, Some, None, Result, Ok, Err, decimal}
use Rattle.wdl_base.specs.declared.place.Segment.{Segment}
use Rattle.wdl_base.specs.declared.place.Segment.TheVariants.{Call, Scatter, If, Index}
use Rattle.wdl_base.specs.declared.place_reading.PlaceFault.{PlaceFault}
use Rattle.wdl_base.specs.declared.place_reading.PlaceFault.TheVariants.{NotAPlace, NoMemory as OutOfMemory}
use Rattle.wdl_base.specs.Names.{is_name}
use Rattle.wdl_base.specs.Places.{segment_text, place_text}

-- a number below 2 ^ 32 in decimal, as it is written: no sign, and no zero before another digit
abbrev pub NumberReads : List ℕ → Option ℕ → Type 0
NumberReads s (Some n) = (n < 2 ^ 32) × (decimal n ≡ s)
NumberReads s None = (n : ℕ) → n < 2 ^ 32 → decimal n ≢ s

-- its name is an identifier, or its number has 32 bits
abbrev pub IsSegment : Segment → Type 0
IsSegment (Call name) = is_name name ≡ true
IsSegment (Scatter k) = k < 2 ^ 32
IsSegment (If k) = k < 2 ^ 32
IsSegment (Index i) = i < 2 ^ 32

abbrev pub IsPlace : List Segment → Type 0
IsPlace [] = Unit {0}
IsPlace (s ∷ more) = IsSegment s × IsPlace more

-- how a number may begin
abbrev pub starts_plainly : List ℕ → Bool
starts_plainly [] = false
starts_plainly (b ∷ []) = not (b == 43)
starts_plainly (b ∷ (c ∷ bs)) = not (b == 43) && not (b == 48)

abbrev pub NumberedReads : (ℕ → Segment) → List ℕ → Result Segment PlaceFault → Type 0
NumberedReads kind s (Ok g) = (n : ℕ) × (n < 2 ^ 32) × (decimal n ≡ s) × (g ≡ kind n)
NumberedReads kind s (Err NotAPlace) = (n : ℕ) → n < 2 ^ 32 → decimal n ≢ s
NumberedReads kind s (Err OutOfMemory) = Unit {0}

abbrev pub CallReads : List ℕ → Result Segment PlaceFault → Type 0
CallReads s (Ok g) = (is_name s ≡ true) × (g ≡ Call s)
CallReads s (Err NotAPlace) = is_name s ≡ false
CallReads s (Err OutOfMemory) = Unit {0}

abbrev pub SegmentReads : List ℕ → Result Segment PlaceFault → Type 0
SegmentReads s (Ok g) = IsSegment g × (segment_text g ≡ s)
SegmentReads s (Err NotAPlace) = (g : Segment) → IsSegment g → segment_text g ≢ s
SegmentReads s (Err OutOfMemory) = Unit {0}

-- the text is that of the place; it is refused where no place has it
abbrev pub PlaceReads : List ℕ → Result (List Segment) PlaceFault → Type 0
PlaceReads s (Ok p) = IsPlace p × (place_text p ≡ s)
PlaceReads s (Err NotAPlace) = (p : List Segment) → IsPlace p → place_text p ≢ s
PlaceReads s (Err OutOfMemory) = Unit {0}

-- two places of one text are equal
abbrev pub PlacesAreRead : Type 0
PlacesAreRead = (p q : List Segment) → IsPlace p → IsPlace q → place_text p ≡ place_text q → p ≡ q
