-- Elements of lists that are made of others, and names by their types.
use Rattle.std.proofs.Common.{◌≡◌, ◌⊎◌, inl, inr, Bool, true, false, cond, not, ◌||◌, List, [], ◌∷◌, ◌++◌, map, Option, Some, None, Contains, sym, ap, ◌∙◌, refl}
use Rattle.std.proofs.lemmas.Bool.{false≢true, and_parts, not-true, or_left, or_parts, or_right}
use Rattle.std.proofs.lemmas.Option.{none-some, same_Some}
use Rattle.wdl_base.specs.declared.name.Key.{Key}
use Rattle.wdl_value.specs.declared.ty.Ty.{Ty}
use Rattle.wdl_typed.specs.declared.scope.Bound.{Bound}
use Rattle.wdl_typed.specs.Journal.{keys_distinct}
use Rattle.wdl_typed.specs.Scope.{is_among, same_key, type_in}
use Rattle.flow_soundness.proofs.NewNames.{keys_of as bound_keys, same_key-refl as same_itself}
use Rattle.cwl_model.proofs.Rounds.{first_is, first_or_later, later_is, none_is, or_else}
use Rattle.cwl_image.specs.Image.{Linkage, Output, Scope, keys_of, linkage_at, type_of}
use Rattle.cwl_laws.specs.Laws.{has_key}
use Rattle.cwl_laws.specs.Parts.{LinksTyped, OutsTyped}
use Rattle.cwl_laws.proofs.Uses.{HasType, type_append}
use Rattle.wdl_flow.proofs.MarkLemmas.{same_key-true as key_same}

-- ---- elements

-- what a mapped list has is made of what the list has
pub map_has : (A B : Type 0) (f : A → B) (xs : List A) (y : B) → Contains (map f xs) y → (x : A) × Contains xs x × (f x ≡ y)
map_has A B f [] y c = absurd (none_is y c)
map_has A B f (x ∷ xs) y c = by_case (λ d. map_has A B f xs y d) (first_or_later (f x) (map f xs) y c)
  where
    by_case : (Contains (map f xs) y → (z : A) × Contains xs z × (f z ≡ y)) → (f x ≡ y) ⊎ Contains (map f xs) y → (z : A) × Contains (x ∷ xs) z × (f z ≡ y)
    by_case rest (inl e) = (x, first_is x xs, e)
    by_case rest (inr d) = let r = rest d in (r.0, later_is x xs r.0 r.1, r.2)

pub among_has : (ls : Scope) (k : Key) → is_among k (keys_of ls) ≡ true → (l : Linkage) × Contains ls l × (l.key ≡ k)
among_has [] k h = absurd (false≢true h)
among_has (l ∷ ls) k h = by_test (λ q. among_has ls k q) (same_key l.key k) refl h
  where
    by_test : (is_among k (keys_of ls) ≡ true → (m : Linkage) × Contains ls m × (m.key ≡ k)) → (b : Bool) → same_key l.key k ≡ b → (b || is_among k (keys_of ls)) ≡ true
        → (m : Linkage) × Contains (l ∷ ls) m × (m.key ≡ k)
    by_test rest true e q = (l, first_is l ls, key_same l.key k e)
    by_test rest false e q = let r = rest q in (r.0, later_is l ls r.0 r.1, r.2)

pub has_among : (ls : Scope) (l : Linkage) → Contains ls l → is_among l.key (keys_of ls) ≡ true
has_among [] l c = absurd (none_is l c)
has_among (m ∷ ls) l c = by_case (λ d. has_among ls l d) (first_or_later m ls l c)
  where
    by_case : (Contains ls l → is_among l.key (keys_of ls) ≡ true) → (m ≡ l) ⊎ Contains ls l → (same_key m.key l.key || is_among l.key (keys_of ls)) ≡ true
    by_case rest (inl e) = or_left (same_key m.key l.key) (is_among l.key (keys_of ls)) (ap (λ (z : Linkage). same_key m.key z.key) (sym e) ∙ same_itself m.key)
    by_case rest (inr d) = or_right (same_key m.key l.key) (is_among l.key (keys_of ls)) (rest d)

-- ---- what is looked up

pub not_linked : (ls : Scope) (k : Key) → is_among k (keys_of ls) ≡ false → linkage_at ls k ≡ None
not_linked [] k h = refl
not_linked (l ∷ ls) k h =
    let p = or_parts (same_key l.key k) (is_among k (keys_of ls)) h in
    ap (λ b. cond b (Some l) (linkage_at ls k)) p.0 ∙ not_linked ls k p.1

-- Where keys differ, each linkage is the one of its key.
pub linked_itself : (ls : Scope) → keys_distinct (keys_of ls) ≡ true → (l : Linkage) → Contains ls l → linkage_at ls l.key ≡ Some l
linked_itself [] d l c = absurd (none_is l c)
linked_itself (m ∷ ls) d l c =
    let p = and_parts (not (is_among m.key (keys_of ls))) (keys_distinct (keys_of ls)) d in
    by_case (λ e. linked_itself ls p.1 l e) (not-true (is_among m.key (keys_of ls)) p.0) (first_or_later m ls l c)
  where
    other : is_among m.key (keys_of ls) ≡ false → Contains ls l → (b : Bool) → same_key m.key l.key ≡ b → b ≡ false
    other n e false s = refl
    other n e true s = absurd (false≢true (sym n ∙ ap (λ j. is_among j (keys_of ls)) (key_same m.key l.key s) ∙ has_among ls l e))

    by_case : (Contains ls l → linkage_at ls l.key ≡ Some l) → is_among m.key (keys_of ls) ≡ false → (m ≡ l) ⊎ Contains ls l → cond (same_key m.key l.key) (Some m) (linkage_at ls l.key) ≡ Some l
    by_case rest n (inl e) = ap (λ b. cond b (Some m) (linkage_at ls l.key)) (ap (λ (z : Linkage). same_key m.key z.key) (sym e) ∙ same_itself m.key) ∙ ap Some e
    by_case rest n (inr e) = ap (λ b. cond b (Some m) (linkage_at ls l.key)) (other n e (same_key m.key l.key) refl) ∙ rest e

-- ---- types of names

pub none_left : (bs cs : List Bound) (k : Key) → type_in (bs ++ cs) k ≡ None → type_in bs k ≡ None
none_left bs cs k h = by_type (type_in bs k) refl
  where
    by_type : (o : Option Ty) → type_in bs k ≡ o → type_in bs k ≡ None
    by_type None e = e
    by_type (Some t) e = absurd (none-some _ (sym h ∙ type_append bs cs k ∙ ap (λ o. or_else o (type_in cs k)) e))

pub none_right : (bs cs : List Bound) (k : Key) → type_in (bs ++ cs) k ≡ None → type_in cs k ≡ None
none_right bs cs k h = sym (ap (λ o. or_else o (type_in cs k)) (none_left bs cs k h)) ∙ sym (type_append bs cs k) ∙ h

-- outputs and links that have the types of names
pub out_typed : (os : List Output) (bs : List Bound) → OutsTyped os bs → (o : Output) → Contains os o → HasType bs o.key
out_typed [] bs h o c = absurd (none_is o c)
out_typed (p ∷ os) [] h o c = absurd h
out_typed (p ∷ os) (b ∷ bs) h o c = by_test (λ d. out_typed os bs h.2 o d) (same_key b.key o.key) refl (first_or_later p os o c)
  where
    by_test : (Contains os o → HasType bs o.key) → (w : Bool) → same_key b.key o.key ≡ w → (p ≡ o) ⊎ Contains os o → (t : Ty) × (cond w (Some b.ty) (type_in bs o.key) ≡ Some t)
    by_test rest true e d = (b.ty, refl)
    by_test rest false e (inl s) = absurd (false≢true (sym e ∙ ap (λ (z : Output). same_key b.key z.key) (sym s) ∙ ap (same_key b.key) h.0 ∙ same_itself b.key))
    by_test rest false e (inr d) = rest d

pub no_out : (os : List Output) (bs : List Bound) → OutsTyped os bs → (k : Key) → type_in bs k ≡ None → has_key os k ≡ false
no_out [] bs h k n = refl
no_out (o ∷ os) [] h k n = absurd h
no_out (o ∷ os) (b ∷ bs) h k n = by_test (λ q. no_out os bs h.2 k q) (same_key b.key k) (ap (λ j. same_key j k) h.0) n
  where
    by_test : (type_in bs k ≡ None → has_key os k ≡ false) → (w : Bool) → same_key o.key k ≡ w → cond w (Some b.ty) (type_in bs k) ≡ None → (same_key o.key k || has_key os k) ≡ false
    by_test rest true e q = absurd (none-some _ (sym q))
    by_test rest false e q = ap (λ c. c || has_key os k) e ∙ rest q

pub link_typed : (ls : Scope) (bs : List Bound) → LinksTyped ls bs → (k : Key) (t : Ty) → type_in bs k ≡ Some t → (l : Linkage) × (linkage_at ls k ≡ Some l) × (l.ty ≡ type_of t)
link_typed [] [] h k t e = absurd (none-some _ e)
link_typed [] (b ∷ bs) h k t e = absurd h
link_typed (l ∷ ls) [] h k t e = absurd h
link_typed (l ∷ ls) (b ∷ bs) h k t e = by_test (λ q. link_typed ls bs h.2 k t q) (same_key b.key k) (ap (λ j. same_key j k) h.0) e
  where
    by_test : (type_in bs k ≡ Some t → (m : Linkage) × (linkage_at ls k ≡ Some m) × (m.ty ≡ type_of t)) → (w : Bool) → same_key l.key k ≡ w → cond w (Some b.ty) (type_in bs k) ≡ Some t
        → (m : Linkage) × (cond (same_key l.key k) (Some l) (linkage_at ls k) ≡ Some m) × (m.ty ≡ type_of t)
    by_test rest true s q = (l, ap (λ c. cond c (Some l) (linkage_at ls k)) s, h.1 ∙ ap type_of (same_Some _ _ q))
    by_test rest false s q = let r = rest q in (r.0, ap (λ c. cond c (Some l) (linkage_at ls k)) s ∙ r.1, r.2)

-- what is linked has a type
pub link_seen : (ls : Scope) (bs : List Bound) → LinksTyped ls bs → (k : Key) (l : Linkage) → linkage_at ls k ≡ Some l → HasType bs k
link_seen [] bs h k l e = absurd (none-some _ e)
link_seen (m ∷ ls) [] h k l e = absurd h
link_seen (m ∷ ls) (b ∷ bs) h k l e = by_test (λ q. link_seen ls bs h.2 k l q) (same_key m.key k) (ap (λ j. same_key j k) (sym h.0)) e
  where
    by_test : (linkage_at ls k ≡ Some l → HasType bs k) → (w : Bool) → same_key b.key k ≡ w → cond w (Some m) (linkage_at ls k) ≡ Some l → HasType (b ∷ bs) k
    by_test rest true s q = (b.ty, ap (λ c. cond c (Some b.ty) (type_in bs k)) s)
    by_test rest false s q = let r = rest q in (r.0, ap (λ c. cond c (Some b.ty) (type_in bs k)) s ∙ r.1)

pub link_keys : (ls : Scope) (bs : List Bound) → LinksTyped ls bs → keys_of ls ≡ bound_keys bs
link_keys [] [] h = refl
link_keys [] (b ∷ bs) h = absurd h
link_keys (l ∷ ls) [] h = absurd h
link_keys (l ∷ ls) (b ∷ bs) h = ap (λ k. k ∷ keys_of ls) h.0 ∙ ap (λ ks. b.key ∷ ks) (link_keys ls bs h.2)

-- each name is that of an output
pub out_back : (os : List Output) (bs : List Bound) → OutsTyped os bs → (k : Key) → HasType bs k → (o : Output) × Contains os o × (o.key ≡ k)
out_back [] [] h k t = absurd (none-some _ t.1)
out_back [] (b ∷ bs) h k t = absurd h
out_back (o ∷ os) [] h k t = absurd h
out_back (o ∷ os) (b ∷ bs) h k t = by_test (λ q. out_back os bs h.2 k (t.0, q)) (same_key b.key k) refl t.1
  where
    by_test : (type_in bs k ≡ Some t.0 → (p : Output) × Contains os p × (p.key ≡ k)) → (w : Bool) → same_key b.key k ≡ w → cond w (Some b.ty) (type_in bs k) ≡ Some t.0 → (p : Output) × Contains (o ∷ os) p × (p.key ≡ k)
    by_test rest true e q = (o, first_is o os, h.0 ∙ key_same b.key k e)
    by_test rest false e q = let r = rest q in (r.0, later_is o os r.0 r.1, r.2)
