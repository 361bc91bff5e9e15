-- Names and keys that are found are the first of a list, and equal ones are the same.
use Rattle.std.proofs.Common.{◌≡◌, ℕ, Bool, true, false, cond, ◌||◌, List, [], ◌∷◌, ◌++◌, Option, Some, None, length, sym, ap, ◌∙◌, refl}
use Rattle.std.specs.List.{find}
use Rattle.std.specs.Option.{is_some, option_map}
use Rattle.std.specs.Str.{bytes_eq}
use Rattle.std.proofs.lemmas.Bool.{false≢true, and_parts}
use Rattle.std.proofs.lemmas.Slice.Eq.{bytes_eq-Decides}
use Rattle.wdl_base.specs.declared.name.Key.{Key}
use Rattle.wdl_typed.specs.declared.scope.Bound.{Bound}
use Rattle.wdl_typed.specs.Lists.{has_name}
use Rattle.wdl_typed.specs.Scope.{same_key, same_second, type_in}
use Rattle.wdl_names.specs.Firsts.{Finds}
use Rattle.wdl_names.specs.Names.{is_call, is_call_of, is_known, is_output_of}
use Rattle.wdl_names.proofs.FirstLemmas.{finds_more}

same_second-true : (s t : Option (List ℕ)) → same_second s t ≡ true → s ≡ t
same_second-true None None h = refl
same_second-true None (Some t) h = absurd (false≢true h)
same_second-true (Some s) None h = absurd (false≢true h)
same_second-true (Some s) (Some t) h = ap Some ((bytes_eq-Decides s t).0 h)

pub same_key-true : (j k : Key) → same_key j k ≡ true → j ≡ k
same_key-true j k h =
    let p = and_parts (bytes_eq j.first k.first) (same_second j.second k.second) h in
    ap (λ (first : List ℕ). let key : Key = record { first = first; second = j.second } in key) ((bytes_eq-Decides j.first k.first).0 p.0)
    ∙ ap (λ (second : Option (List ℕ)). let key : Key = record { first = k.first; second = second } in key) (same_second-true j.second k.second p.1)

-- ---- what is found

or_found : {X : Type 0} (b : Bool) (x : X) (r : Bool) (o : Option X) → r ≡ is_some o → (b || r) ≡ is_some (cond b (Some x) o)
or_found true x r o h = refl
or_found false x r o h = h

pub has_name-find : (name : List ℕ) (ns : List (List ℕ)) → has_name name ns ≡ is_some (find (λ n. bytes_eq n name) ns)
has_name-find name [] = refl
has_name-find name (n ∷ ns) = or_found (bytes_eq n name) n (has_name name ns) (find (λ m. bytes_eq m name) ns) (has_name-find name ns)

pub is_call-find : (name : List ℕ) (bs : List Bound) → is_call bs name ≡ is_some (find (is_call_of name) bs)
is_call-find name [] = refl
is_call-find name (b ∷ bs) =
    or_found (is_output_of b.key.first b.key.second name) b (is_call bs name) (find (is_call_of name) bs) (is_call-find name bs)

pub type_in-find : (key : Key) (bs : List Bound) → type_in bs key ≡ option_map (λ (b : Bound). b.ty) (find (λ (b : Bound). same_key b.key key) bs)
type_in-find key [] = refl
type_in-find key (b ∷ bs) = by_test (same_key b.key key) (type_in-find key bs)
  where
    by_test : (t : Bool) → type_in bs key ≡ option_map (λ (c : Bound). c.ty) (find (λ (c : Bound). same_key c.key key) bs)
        → cond t (Some b.ty) (type_in bs key) ≡ option_map (λ (c : Bound). c.ty) (cond t (Some b) (find (λ (c : Bound). same_key c.key key) bs))
    by_test true h = refl
    by_test false h = h

-- ---- one item more

pub key_added : {X : Type 0} (keyed : X → Key) (at more : Key → Option ℕ) (xs : List X) (x : X) (j k : Key) (n : ℕ) (known : Bool)
    → Finds (λ q x. same_key (keyed x) q) at xs → n ≡ length xs → j ≡ keyed x → k ≡ keyed x → known ≡ is_some (find (λ x. same_key (keyed x) j) xs)
    → ((q : Key) → more q ≡ cond known (at q) (cond (same_key k q) (Some n) (at q)))
    → Finds (λ q x. same_key (keyed x) q) more (xs ++ x ∷ [])
key_added keyed at more xs x j k n known finds count own_j own_k knows put =
    finds_more (λ q x. same_key (keyed x) q) at more xs x n known finds count
    (λ q t. knows ∙ ap (λ l. is_some (find (λ x. same_key (keyed x) l) xs)) (own_j ∙ same_key-true (keyed x) q t))
    (λ q. put q ∙ ap (λ l. cond known (at q) (cond (same_key l q) (Some n) (at q))) own_k)

pub name_added : (at more : List ℕ → Option ℕ) (ns : List (List ℕ)) (name : List ℕ) (n : ℕ) (known : Bool)
    → Finds (λ q m. bytes_eq m q) at ns → n ≡ length ns → known ≡ has_name name ns
    → ((q : List ℕ) → more q ≡ cond known (at q) (cond (bytes_eq name q) (Some n) (at q)))
    → Finds (λ q m. bytes_eq m q) more (ns ++ name ∷ [])
name_added at more ns name n known finds count knows put =
    finds_more (λ q m. bytes_eq m q) at more ns name n known finds count
    (λ q t. knows ∙ has_name-find name ns ∙ ap (λ l. is_some (find (λ m. bytes_eq m l) ns)) ((bytes_eq-Decides name q).0 t))
    put

call_knows : (bs : List Bound) (first : List ℕ) (second : Option (List ℕ)) (name : List ℕ) (known : Bool) → known ≡ is_known bs first second → is_output_of first second name ≡ true
    → known ≡ is_some (find (is_call_of name) bs)
call_knows bs first None name known e t = absurd (false≢true t)
call_knows bs first (Some s) name known e t = e ∙ is_call-find first bs ∙ ap (λ l. is_some (find (is_call_of l) bs)) ((bytes_eq-Decides first name).0 t)

call_put : (bs : List Bound) (first : List ℕ) (second : Option (List ℕ)) (name : List ℕ) (known : Bool) (there put : Option ℕ) → known ≡ is_known bs first second
    → cond known there (cond (bytes_eq first name) put there) ≡ cond known there (cond (is_output_of first second name) put there)
call_put bs first None name known there put e =
    ap (λ b. cond b there (cond (bytes_eq first name) put there)) e ∙ sym (ap (λ b. cond b there (cond false put there)) e)
call_put bs first (Some s) name known there put e = refl

pub call_added : (at more : List ℕ → Option ℕ) (bs : List Bound) (b : Bound) (n : ℕ) (known : Bool)
    → Finds is_call_of at bs → n ≡ length bs → known ≡ is_known bs b.key.first b.key.second
    → ((q : List ℕ) → more q ≡ cond known (at q) (cond (bytes_eq b.key.first q) (Some n) (at q)))
    → Finds is_call_of more (bs ++ b ∷ [])
call_added at more bs b n known finds count knows put =
    finds_more is_call_of at more bs b n known finds count
    (λ q. call_knows bs b.key.first b.key.second q known knows)
    (λ q. put q ∙ call_put bs b.key.first b.key.second q known (at q) (Some n) knows)
