-- Equal places have one text.
use Rattle.std.proofs.Common.{◌≡◌, ℕ, true, List, [], ◌∷◌, refl, ap, arith, eqb-true}
use Rattle.std.specs.Str.{bytes_eq}
use Rattle.std.proofs.lemmas.Slice.Eq.{bytes_eq-Decides}
use Rattle.wdl_base.specs.Same.{same_place, same_segment}
use Rattle.wdl_base.specs.declared.place.Segment.{Segment}
use Rattle.wdl_base.specs.declared.place.Segment.TheVariants.{Call, Scatter, If, Index}

same_bytes : (a b : List ℕ) → bytes_eq a b ≡ true → a ≡ b
same_bytes a b h = grind (arith, bytes_eq-Decides)

one_segment : (a b : Segment) → same_segment a b ≡ true → a ≡ b
one_segment (Call a) (Call b) h = ap Call (same_bytes a b h)
one_segment (Scatter a) (Scatter b) h = ap Scatter (eqb-true a b h)
one_segment (If a) (If b) h = ap If (eqb-true a b h)
one_segment (Index a) (Index b) h = ap Index (eqb-true a b h)
one_segment (Call a) (Scatter b) h = grind arith
one_segment (Call a) (If b) h = grind arith
one_segment (Call a) (Index b) h = grind arith
one_segment (Scatter a) (Call b) h = grind arith
one_segment (Scatter a) (If b) h = grind arith
one_segment (Scatter a) (Index b) h = grind arith
one_segment (If a) (Call b) h = grind arith
one_segment (If a) (Scatter b) h = grind arith
one_segment (If a) (Index b) h = grind arith
one_segment (Index a) (Call b) h = grind arith
one_segment (Index a) (Scatter b) h = grind arith
one_segment (Index a) (If b) h = grind arith

pub one_place : (a b : List Segment) → same_place a b ≡ true → a ≡ b
one_place [] [] h = refl
one_place [] (y ∷ ys) h = grind arith
one_place (x ∷ xs) [] h = grind arith
one_place (x ∷ xs) (y ∷ ys) h =
    let e = one_segment x y (grind arith) in
    let es = one_place xs ys (grind arith) in
    grind (arith, e, es)
