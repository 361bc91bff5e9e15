-- What the first struct of a name gives.
use Rattle.std.proofs.Common.{◌≡◌, ℕ, Bool, true, false, cond, List, [], ◌∷◌, Some, option_map, refl}
use Rattle.std.specs.List.{find}
use Rattle.std.specs.Str.{bytes_eq}
use Rattle.wdl_value.specs.declared.ty.StructDef.{StructDef}
use Rattle.wdl_value.specs.Fits.{members_of}

pub members_of-find : (ds : List StructDef) (name : List ℕ) → members_of ds name ≡ option_map (λ (d : StructDef). d.members) (find (λ d. bytes_eq d.name name) ds)
members_of-find [] name = refl
members_of-find (d ∷ ds) name = by_test (bytes_eq d.name name) (members_of-find ds name)
  where
    by_test : (b : Bool) → members_of ds name ≡ option_map (λ (e : StructDef). e.members) (find (λ e. bytes_eq e.name name) ds)
        → cond b (Some d.members) (members_of ds name)
        ≡ option_map (λ (e : StructDef). e.members) (cond b (Some d) (find (λ e. bytes_eq e.name name) ds))
    by_test true rest = refl
    by_test false rest = rest
