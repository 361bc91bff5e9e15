-- A set of the names of members, which grows by one.
use Rattle.std.proofs.Common.{◌≡◌, ℕ, suc, ◌+◌, ◌<◌, length, drop, get_or, drop-cons, arith, Bool, true, false, ◌||◌, List, ◌∷◌, bytes_eq, refl, sym, ap, ◌∙◌}
use Rattle.std.specs.BTreeSet.{insert_key}
use Rattle.wdl_value.specs.declared.ty.Member.{Member}
use Rattle.wdl_names.proofs.KeySets.{Key, any_key, any_key-insert, key_cmp}
use Rattle.json_values.specs.Reading.{is_declared}

-- a step of a loop that adds the first of the names that are left
moved : (a b c : Bool) → (a || b) || c ≡ b || (a || c)
moved true true c = refl
moved true false c = refl
moved false true c = refl
moved false false c = refl

pub added : (q : List ℕ) (ds : List Member) (i : ℕ) (m : Member) (k : Key) (old new : List Key) → i < length ds → m ≡ get_or ds i m → k.now ≡ m.name → new ≡ insert_key key_cmp old k
    → any_key q new || is_declared q (drop (i + 1) ds) ≡ any_key q old || is_declared q (drop i ds)
added q ds i m k old new within is named grown =
    let rest = is_declared q (drop (i + 1) ds) in
    let one : suc i ≡ i + 1 = omega arith in
    let next : drop i ds ≡ m ∷ drop (i + 1) ds =
    drop-cons ds i m within ∙ ap (λ x. x ∷ drop (suc i) ds) (sym is) ∙ ap (λ j. m ∷ drop j ds) one in
    ap (λ ks. any_key q ks || rest) grown
    ∙ ap (λ b. b || rest) (any_key-insert q k old)
    ∙ moved (bytes_eq q k.now) (any_key q old) rest
    ∙ ap (λ n. any_key q old || (bytes_eq q n || rest)) named
    ∙ sym (ap (λ xs. any_key q old || is_declared q xs) next)
