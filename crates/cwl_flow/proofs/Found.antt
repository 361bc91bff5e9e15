-- Searches by references are those of the definitions.
use Rattle.std.proofs.Common.{◌≡◌, Bool, true, false, cond, ◌||◌, List, [], ◌∷◌, Some, ap, refl}
use Rattle.std.specs.Option.{is_some}
use Rattle.std.specs.List.{find}
use Rattle.wdl_base.specs.declared.name.Key.{Key}
use Rattle.wdl_typed.specs.Scope.{is_among, same_key}
use Rattle.cwl_image.specs.Image.{Linkage, Scope, linkage_at}

pub linkage_found : (scope : Scope) (key : Key) → find (λ (l : Linkage). same_key l.key key) scope ≡ linkage_at scope key
linkage_found [] key = refl
linkage_found (l ∷ ls) key = ap (λ r. cond (same_key l.key key) (Some l) r) (linkage_found ls key)

pub is_found : (ks : List Key) (key : Key) → is_some (find (λ (k : Key). same_key k key) ks) ≡ is_among key ks
is_found [] key = refl
is_found (k ∷ ks) key = by_test (same_key k key) (is_found ks key)
  where
    by_test : (b : Bool) → is_some (find (λ (j : Key). same_key j key) ks) ≡ is_among key ks
        → is_some (cond b (Some k) (find (λ (j : Key). same_key j key) ks)) ≡ (b || is_among key ks)
    by_test true e = refl
    by_test false e = e
