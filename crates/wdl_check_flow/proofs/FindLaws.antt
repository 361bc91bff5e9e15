-- What a call names, found among what the code keeps.
use Rattle.std.proofs.Common.{◌≡◌, ℕ, Bool, true, false, List, [], ◌∷◌, Option, Some, None, map, option_map, option_and_then, refl, sym, ap, ◌∙◌}
use Rattle.std.specs.Prelude.{cond}
use Rattle.std.specs.List.{find}
use Rattle.std.specs.Str.{bytes_eq}
use Rattle.wdl_check_flow.specs.declared.context.Callable.{Callable}
use Rattle.wdl_check_flow.specs.declared.context.Namespace.{Namespace}
use Rattle.wdl_check_flow.specs.Targets.{Offer, Space, offer_named, offer_of, space_named, space_of}

-- the first of the things that items stand for
find_mapped : {A B : Type 0} (f : A → B) (fits : B → Bool) (xs : List A) → find fits (map f xs) ≡ option_map f (find (λ (a : A). fits (f a)) xs)
find_mapped f fits [] = refl
find_mapped {A} f fits (x ∷ xs) = by_test (fits (f x)) (find_mapped f fits xs)
  where
    by_test : (b : Bool) → find fits (map f xs) ≡ option_map f (find (λ (a : A). fits (f a)) xs)
        → cond b (Some (f x)) (find fits (map f xs)) ≡ option_map f (cond b (Some x) (find (λ (a : A). fits (f a)) xs))
    by_test true e = refl
    by_test false e = e

pub offer_found : (cs : List Callable) (name : List ℕ) → option_map offer_of (find (λ (c : Callable). bytes_eq c.name.now name) cs) ≡ offer_named (map offer_of cs) name
offer_found cs name = sym (find_mapped offer_of (λ (o : Offer). bytes_eq o.name name) cs)

-- what an import has of that name
pub offer_in : (ns : List Namespace) (first name : List ℕ) (n : Option Namespace) → n ≡ find (λ (s : Namespace). bytes_eq s.name.now first) ns
    → option_and_then (λ (s : Space). offer_named s.offers name) (space_named (map space_of ns) first)
    ≡ option_and_then (λ (s : Namespace). option_map offer_of (find (λ (c : Callable). bytes_eq c.name.now name) s.callables.now)) n
offer_in ns first name n is =
    ap (option_and_then (λ (s : Space). offer_named s.offers name)) (find_mapped space_of (λ (s : Space). bytes_eq s.name first) ns ∙ ap (option_map space_of) (sym is))
    ∙ by_space n
  where
    by_space : (n : Option Namespace) → option_and_then (λ (s : Space). offer_named s.offers name) (option_map space_of n)
        ≡ option_and_then (λ (s : Namespace). option_map offer_of (find (λ (c : Callable). bytes_eq c.name.now name) s.callables.now)) n
    by_space None = refl
    by_space (Some s) = sym (offer_found s.callables.now name)
