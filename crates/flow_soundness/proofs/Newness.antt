-- What statements declare is new where they stand.
use Rattle.std.proofs.Common.{◌≡◌, ℕ, Bool, true, false, cond, not, ◌&&◌, ◌||◌, List, [], ◌∷◌, ◌++◌, Option, Some, None, append-nil, sym, ap, ◌∙◌, subst, refl}
use Rattle.std.specs.Str.{bytes_eq}
use Rattle.std.proofs.lemmas.Bool.{false≢true, and_parts, and_from, or_left, or_right}
use Rattle.std.proofs.lemmas.Slice.Eq.{bytes_eq-Decides}
use Rattle.wdl_base.specs.declared.name.Key.{Key}
use Rattle.wdl_value.specs.declared.ty.Ty.{Ty}
use Rattle.wdl_typed.specs.declared.flow.Statement.{Statement, fold-Statement}
use Rattle.wdl_typed.specs.Bodies.{Differing, Library, Seen, all_declared, declared, gives, items_differ, items_step, joined, with_item}
use Rattle.wdl_typed.specs.Declarations.{bound, plain_key}
use Rattle.wdl_typed.specs.Lists.{has_name}
use Rattle.wdl_typed.specs.Scope.{is_among, same_key, type_in}
use Rattle.wdl_names.specs.Fresh.{fresh}
use Rattle.wdl_names.proofs.FreshLemmas.{fresh-append}
use Rattle.flow_soundness.specs.Readiness.{IsNew, are_among}
use Rattle.flow_soundness.proofs.GivenKeys.{gives_keys}
use Rattle.wdl_flow.proofs.MarkLemmas.{same_key-true}
use Rattle.flow_soundness.proofs.NewNames.{fresh_apart, keys_declared, name_left, name_right, type_among}
use Rattle.wdl_task.proofs.Fit.{type_later as type_back}

-- ---- names in two lists

pub name_split : (n : List ℕ) (xs ys : List (List ℕ)) → has_name n (xs ++ ys) ≡ true → (b : Bool) × (has_name n (cond b xs ys) ≡ true)
name_split n [] ys h = (false, h)
name_split n (x ∷ xs) ys h = by_test (bytes_eq x n) refl h (name_split n xs ys)
  where
    by_rest : (p : (b : Bool) × (has_name n (cond b xs ys) ≡ true)) → (b : Bool) × (has_name n (cond b (x ∷ xs) ys) ≡ true)
    by_rest (true, h) = (true, or_right (bytes_eq x n) (has_name n xs) h)
    by_rest (false, h) = (false, h)

    by_test : (s : Bool) → bytes_eq x n ≡ s → (s || has_name n (xs ++ ys)) ≡ true → (has_name n (xs ++ ys) ≡ true → (b : Bool) × (has_name n (cond b xs ys) ≡ true))
        → (b : Bool) × (has_name n (cond b (x ∷ xs) ys) ≡ true)
    by_test true e h rest = (true, or_left (bytes_eq x n) (has_name n xs) e)
    by_test false e h rest = by_rest (rest h)

pub both_among : (all xs ys : List (List ℕ)) → are_among all xs → are_among all ys → are_among all (xs ++ ys)
both_among all xs ys f g n h = by_side (name_split n xs ys h)
  where
    by_side : (b : Bool) × (has_name n (cond b xs ys) ≡ true) → has_name n all ≡ true
    by_side (true, k) = f n k
    by_side (false, k) = g n k

-- new over a list whose names that count are in the other
pub fresh_wider : (ts us ns : List (List ℕ)) → ((m : List ℕ) → has_name m ns ≡ true → has_name m us ≡ true → has_name m ts ≡ true) → fresh ts ns ≡ true → fresh us ns ≡ true
fresh_wider ts us [] f h = refl
fresh_wider ts us (n ∷ ns) f h =
    let p = and_parts (not (has_name n ts)) (fresh (ts ++ n ∷ []) ns) h in
    and_from (not (has_name n us)) (fresh (us ++ n ∷ []) ns) (by_test (has_name n us) refl p.0) (fresh_wider (ts ++ n ∷ []) (us ++ n ∷ []) ns later p.1)
  where
    own : has_name n (n ∷ ns) ≡ true
    own = or_left (bytes_eq n n) (has_name n ns) ((bytes_eq-Decides n n).1 refl)

    by_test : (b : Bool) → has_name n us ≡ b → not (has_name n ts) ≡ true → not b ≡ true
    by_test true e k = absurd (false≢true (ap not (sym (f n own e)) ∙ k))
    by_test false e k = refl

    later : (m : List ℕ) → has_name m ns ≡ true → has_name m (us ++ n ∷ []) ≡ true → has_name m (ts ++ n ∷ []) ≡ true
    later m k l = by_side (name_split m us (n ∷ []) l)
      where
        by_side : (b : Bool) × (has_name m (cond b us (n ∷ [])) ≡ true) → has_name m (ts ++ n ∷ []) ≡ true
        by_side (true, g) = name_left m ts (n ∷ []) (f m (or_right (bytes_eq n m) (has_name m ns) k) g)
        by_side (false, g) = name_right m ts (n ∷ []) g

-- ---- one statement of a list

module _ (lib : Library) (all taken : List (List ℕ)) (seen : Seen) (st : Statement) (ss : List Statement) where
  new_parts : IsNew all taken seen (st ∷ ss) → (fresh taken (declared st) ≡ true) × (fresh (taken ++ declared st) (all_declared ss) ≡ true)
  new_parts n = and_parts (fresh taken (declared st)) (fresh (taken ++ declared st) (all_declared ss)) (sym (fresh-append taken (declared st) (all_declared ss)) ∙ n.declared_new)

  pub head_new : IsNew all taken seen (st ∷ ss) → IsNew all taken seen (st ∷ [])
  head_new n =
      let items = and_parts (items_differ (st ∷ []) all) (items_differ ss all) (items_first n.items_new) in
      record {
        seen_taken = n.seen_taken;
        taken_all = n.taken_all;
        declared_all = λ name h. n.declared_all name (name_left name (declared st) (all_declared ss) (subst (λ (ns : List (List ℕ)). has_name name ns ≡ true) (append-nil (declared st)) h));
        declared_new = ap (fresh taken) (append-nil (declared st)) ∙ (new_parts n).0;
        items_new = items.0;
      }
    where
      items_first : items_differ (st ∷ ss) all ≡ true → (items_differ (st ∷ []) all && items_differ ss all) ≡ true
      items_first h =
          let own : Bool = fold-Statement Differing items_step st all in
          let p = and_parts own (items_differ ss all) h in
          and_from (own && true) (items_differ ss all) (and_from own true p.0 refl) p.1

  -- the first names of what a statement gives out are declared by it
  pub given_declared : (first : Seen) → gives lib st seen ≡ Some first → (key : Key) (t : Ty) → type_in first.names key ≡ Some t → has_name key.first (declared st) ≡ true
  given_declared first g key t h =
      keys_declared lib.tasks lib.flows st key (ap (is_among key) (sym (gives_keys lib st seen first g)) ∙ type_among first.names key t h)

  -- they have no type before
  pub given_apart : (first : Seen) → gives lib st seen ≡ Some first → IsNew all taken seen (st ∷ ss) → (key : Key) (t : Ty) → type_in first.names key ≡ Some t → type_in seen.names key ≡ None
  given_apart first g n key t h = by_type (type_in seen.names key) refl
    where
      by_type : (o : Option Ty) → type_in seen.names key ≡ o → type_in seen.names key ≡ None
      by_type None e = e
      by_type (Some u) e = absurd (fresh_apart key.first taken (declared st) (new_parts n).0 (given_declared first g key t h) (n.seen_taken key u e))

  pub tail_new : (first : Seen) → gives lib st seen ≡ Some first → IsNew all taken seen (st ∷ ss) → IsNew all (taken ++ declared st) (joined seen first) ss
  tail_new first g n = record {
    seen_taken = λ key t h. by_type key t (type_in seen.names key) refl h;
    taken_all = both_among all taken (declared st) n.taken_all (λ name h. n.declared_all name (name_left name (declared st) (all_declared ss) h));
    declared_all = λ name h. n.declared_all name (name_right name (declared st) (all_declared ss) h);
    declared_new = (new_parts n).1;
    items_new = (and_parts (fold-Statement Differing items_step st all) (items_differ ss all) n.items_new).1;
  }
    where
      by_type : (key : Key) (t : Ty) (o : Option Ty) → type_in seen.names key ≡ o → type_in (seen.names ++ first.names) key ≡ Some t → has_name key.first (taken ++ declared st) ≡ true
      by_type key t (Some u) e h = name_left key.first taken (declared st) (n.seen_taken key u e)
      by_type key t None e h =
          name_right key.first taken (declared st) (given_declared first g key t (sym (type_back seen.names first.names key e) ∙ h))

-- ---- the body of a scatter

-- the item is new in the body
pub new_inside : (all taken : List (List ℕ)) (seen : Seen) (item : List ℕ) (t : Ty) (ss : List Statement) → (has_name item all ≡ false) → items_differ ss (item ∷ all) ≡ true
    → IsNew all taken seen [] → are_among all (all_declared ss) → fresh taken (all_declared ss) ≡ true → IsNew (item ∷ all) (taken ++ item ∷ []) (with_item seen item t) ss
new_inside all taken seen item t ss new items n declared fresh_there = record {
  seen_taken = λ key u h. by_type key u (type_in seen.names key) refl h;
  taken_all = both_among (item ∷ all) taken (item ∷ []) (λ name h. or_right (bytes_eq item name) (has_name name all) (n.taken_all name h)) (λ name h. one name h);
  declared_all = λ name h. or_right (bytes_eq item name) (has_name name all) (declared name h);
  declared_new = fresh_wider taken (taken ++ item ∷ []) (all_declared ss) (λ m k l. by_side m k (name_split m taken (item ∷ []) l)) fresh_there;
  items_new = items;
}
  where
    one : (name : List ℕ) → has_name name (item ∷ []) ≡ true → (bytes_eq item name || has_name name all) ≡ true
    one name h = by_test (bytes_eq item name) h
      where
        by_test : (b : Bool) → (b || false) ≡ true → (b || has_name name all) ≡ true
        by_test true h = refl
        by_test false h = absurd (false≢true h)

    by_side : (m : List ℕ) → has_name m (all_declared ss) ≡ true → (b : Bool) × (has_name m (cond b taken (item ∷ [])) ≡ true) → has_name m taken ≡ true
    by_side m k (true, g) = g
    by_side m k (false, g) = by_test (bytes_eq item m) refl g
      where
        by_test : (b : Bool) → bytes_eq item m ≡ b → (b || false) ≡ true → has_name m taken ≡ true
        by_test true e g = absurd (false≢true (sym new ∙ ap (λ z. has_name z all) ((bytes_eq-Decides item m).0 e) ∙ declared m k))
        by_test false e g = absurd (false≢true g)

    by_type : (key : Key) (u : Ty) (o : Option Ty) → type_in seen.names key ≡ o → type_in (seen.names ++ bound item t ∷ []) key ≡ Some u → has_name key.first (taken ++ item ∷ []) ≡ true
    by_type key u (Some w) e h = name_left key.first taken (item ∷ []) (n.seen_taken key w e)
    by_type key u None e h = by_test (same_key (plain_key item) key) refl (sym (type_back seen.names (bound item t ∷ []) key e) ∙ h)
      where
        by_test : (b : Bool) → same_key (plain_key item) key ≡ b → cond b (Some t) None ≡ Some u → has_name key.first (taken ++ item ∷ []) ≡ true
        by_test true s k =
            name_right key.first taken (item ∷ []) (or_left (bytes_eq item key.first) false (ap (λ (j : Key). bytes_eq item j.first) (sym (same_key-true (plain_key item) key s)) ∙ (bytes_eq-Decides item item).1 refl))
        by_test false s k = absurd (cc)
