-- The first name of a key is the first that has it.
use Rattle.std.proofs.Common.{◌≡◌, cond, List, [], ◌∷◌, Some, ap, refl}
use Rattle.std.specs.List.{find}
use Rattle.wdl_base.specs.declared.name.Key.{Key}
use Rattle.wdl_typed.specs.Scope.{same_key}
use Rattle.plan_layout.specs.declared.layout.Need.{Need}
use Rattle.plan_layout.specs.Spots.{find_spot}

pub find-spot : (key : Key) (ss : List Need) → find (λ (s : Need). same_key s.key key) ss ≡ find_spot ss key
find-spot key [] = refl
find-spot key (s ∷ ss) = ap (λ o. cond (same_key s.key key) (Some s) o) (find-spot key ss)
