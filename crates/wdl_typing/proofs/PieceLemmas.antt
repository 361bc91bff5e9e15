-- The pieces of a string, piece by piece.
use Rattle.std.proofs.Common.{◌≡◌, List, [], ◌∷◌, map, ap, refl}
use Rattle.wdl_typed.specs.declared.expr.TExpr.{map-TExpr}
use Rattle.wdl_typed.specs.declared.expr.TExpr.TheOpen as layer
use Rattle.wdl_typed.specs.declared.expr.TPart.{TPart}
use Rattle.wdl_typed.specs.declared.expr.TPart.TheVariants as part
use Rattle.wdl_typing.specs.Pieces.{parts_of}

abbrev pub part_of : {A B : Type 0} → (A → B) → TPart A → TPart B
part_of f (part.Chars t) = part.Chars t
part_of f (part.Hole h) = part.Hole (record { expr = f h.expr; choice = h.choice })

each_part : {A B : Type 0} (f : A → B) (ps : List (TPart A)) → parts_of f ps ≡ map (part_of f) ps
each_part f [] = refl
each_part f (part.Chars t ∷ ps) = ap (λ z. part.Chars t ∷ z) (each_part f ps)
each_part f (part.Hole h ∷ ps) = ap (λ z. part.Hole (record { expr = f h.expr; choice = h.choice }) ∷ z) (each_part f ps)

pub parts_map : {A B : Type 0} (f : A → B) (ps : List (TPart A)) → map-TExpr A B f (layer.Strung ps) ≡ layer.Strung (map (part_of f) ps)
parts_map f ps = ap layer.Strung (each_part f ps)
