-- When what is given has no faults and no waits.
use Rattle.std.proofs.Common.{◌≡◌, true, false, List, [], ◌∷◌, ◌++◌, refl}
use Rattle.std.proofs.lemmas.Bool.{false≢true, and_parts, and_from}
use Rattle.wdl_base.specs.declared.place.Segment.{Segment}
use Rattle.wdl_typed.specs.Flow.{Flowing, is_clean, is_empty, together, waiting}

pub empty_parts : {A : Type 0} (xs ys : List A) → is_empty (xs ++ ys) ≡ true → (is_empty xs ≡ true) × (is_empty ys ≡ true)
empty_parts [] ys h = (refl, h)
empty_parts (x ∷ xs) ys h = absurd (false≢true h)

pub clean_parts : (f g : Flowing) → is_clean (together f g) ≡ true → (is_clean f ≡ true) × (is_clean g ≡ true)
clean_parts f g h =
    let p = and_parts (is_empty (f.faults ++ g.faults)) (is_empty (f.waits ++ g.waits)) h in
    let faults = empty_parts f.faults g.faults p.0 in
    let waits = empty_parts f.waits g.waits p.1 in
    (and_from (is_empty f.faults) (is_empty f.waits) faults.0 waits.0, and_from (is_empty g.faults) (is_empty g.waits) faults.1 waits.1)

-- What waits is not clean.
pub waits : (place : List Segment) (f : Flowing) → is_clean (waiting place f) ≡ true → ⊥
waits place f h = false≢true (and_parts (is_empty f.faults) false h).1
