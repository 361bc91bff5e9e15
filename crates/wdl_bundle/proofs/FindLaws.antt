-- What a name stands for, found among what the code keeps.
use Rattle.std.proofs.Common.{◌≡◌, ℕ, Bool, true, false, List, [], ◌∷◌, ◌++◌, Option, Some, None, append-nil, map, option_map, option_and_then, slice_get, refl, sym, ap, ◌∙◌}
use Rattle.std.specs.Prelude.{cond}
use Rattle.std.specs.List.{find}
use Rattle.std.specs.Str.{bytes_eq}
use Rattle.std.proofs.lemmas.Option.{slice_get-map}
use Rattle.wdl_check_rules.specs.Locals.{Naming}
use Rattle.wdl_bundle.specs.declared.reach.Offer.{Offer as HeldOffer}
use Rattle.wdl_bundle.specs.declared.reach.Space.{Space as HeldSpace}
use Rattle.wdl_bundle.specs.declared.structs.Declared.{Declared as HeldDeclared}
use Rattle.wdl_bundle.specs.Called.{Offer, Space, offer_named, offer_of, space_at, space_named, space_of}
use Rattle.wdl_bundle.specs.StructSections.{Declared, declared_for, declared_of}

-- the first of the things that items stand for
find_mapped : {A B : Type 0} (f : A → B) (fits : B → Bool) (xs : List A) → find fits (map f xs) ≡ option_map f (find (λ (a : A). fits (f a)) xs)
find_mapped f fits [] = refl
find_mapped {A} f fits (x ∷ xs) = by_test (fits (f x)) (find_mapped f fits xs)
  where
    by_test : (b : Bool) → find fits (map f xs) ≡ option_map f (find (λ (a : A). fits (f a)) xs)
        → cond b (Some (f x)) (find fits (map f xs)) ≡ option_map f (cond b (Some x) (find (λ (a : A). fits (f a)) xs))
    by_test true e = refl
    by_test false e = e

pub offer_found : (os : List HeldOffer) (name : List ℕ) → option_map offer_of (find (λ (o : HeldOffer). bytes_eq o.name.now name) os) ≡ offer_named (map offer_of os) name
offer_found os name = sym (find_mapped offer_of (λ (o : Offer). bytes_eq o.name name) os)

-- what an import has of that name
pub offer_in : (ss : List HeldSpace) (first name : List ℕ) (n : Option HeldSpace) → n ≡ find (λ (s : HeldSpace). bytes_eq s.name.now first) ss
    → option_and_then (λ (s : Space). offer_named s.offers name) (space_named (map space_of ss) first)
    ≡ option_and_then (λ (s : HeldSpace). option_map offer_of (find (λ (o : HeldOffer). bytes_eq o.name.now name) s.offers.now)) n
offer_in ss first name n is =
    ap (option_and_then (λ (s : Space). offer_named s.offers name)) (find_mapped space_of (λ (s : Space). bytes_eq s.name first) ss ∙ ap (option_map space_of) (sym is))
    ∙ by_space n
  where
    by_space : (n : Option HeldSpace) → option_and_then (λ (s : Space). offer_named s.offers name) (option_map space_of n)
        ≡ option_and_then (λ (s : HeldSpace). option_map offer_of (find (λ (o : HeldOffer). bytes_eq o.name.now name) s.offers.now)) n
    by_space None = refl
    by_space (Some s) = sym (offer_found s.offers.now name)

pub declared_found : (own : Naming) (ds : List HeldDeclared) (name root : List ℕ) → own name ≡ Some root
    → option_map declared_of (find (λ (d : HeldDeclared). bytes_eq d.name.now root) ds) ≡ declared_for own (map declared_of ds) name
declared_found own ds name root e =
    sym (ap (option_and_then (λ (r : List ℕ). find (λ (d : Declared). bytes_eq d.root r) (map declared_of ds))) e
    ∙ find_mapped declared_of (λ (d : Declared). bytes_eq d.root root) ds)

-- ---- what an import gives to its document

pub mapped_more : {A B : Type 0} (f : A → B) (xs : List A) (x : A) → map f (xs ++ x ∷ []) ≡ map f xs ++ f x ∷ []
mapped_more f [] x = refl
mapped_more {A} {B} f (y ∷ ys) x = ap (λ (zs : List B). f y ∷ zs) (mapped_more f ys x)

offers_at : (all : List (List HeldOffer)) (k : ℕ) (o : Option (List HeldOffer)) → slice_get all k ≡ o → slice_get (map (map offer_of) all) k ≡ option_map (map offer_of) o
offers_at all k o e = slice_get-map (map offer_of) all k ∙ ap (option_map (map offer_of)) e

pub space_left : (done : List Space) (name : List ℕ) (all : List (List HeldOffer)) (k : ℕ) → slice_get all k ≡ None
    → done ≡ done ++ space_at name (slice_get (map (map offer_of) all) k)
space_left done name all k e = sym (ap (λ (o : Option (List Offer)). done ++ space_at name o) (offers_at all k None e) ∙ append-nil done)

pub space_put : (done : List Space) (name : List ℕ) (all : List (List HeldOffer)) (k : ℕ) (os : List HeldOffer) → slice_get all k ≡ Some os
    → done ++ record { name = name; offers = map offer_of os } ∷ [] ≡ done ++ space_at name (slice_get (map (map offer_of) all) k)
space_put done name all k os e = sym (ap (λ (o : Option (List Offer)). done ++ space_at name o) (offers_at all k (Some os) e))

pub no_declared : (own : Naming) (ds : List HeldDeclared) (name : List ℕ) → own name ≡ None → None ≡ declared_for own (map declared_of ds) name
no_declared own ds name e = sym (ap (option_and_then (λ (r : List ℕ). find (λ (d : Declared). bytes_eq d.root r) (map declared_of ds))) e)
