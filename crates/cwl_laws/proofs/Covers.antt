-- What a block refers to outside, and what its flow sees.
use Rattle.std.proofs.Common.{◌≡◌, ℕ, ◌⊎◌, inl, inr, Bool, true, false, cond, List, [], ◌∷◌, ◌++◌, Option, Some, None, Contains, sym, ap, ◌∙◌, subst, refl}
use Rattle.std.proofs.lemmas.Bool.{false≢true, or_from}
use Rattle.std.proofs.lemmas.Option.{none-some, same_Some}
use Rattle.wdl_base.specs.declared.name.Key.{Key}
use Rattle.wdl_value.specs.declared.ty.Ty.{Ty}
use Rattle.wdl_typed.specs.declared.expr.TExpr.{TExpr}
use Rattle.wdl_typed.specs.declared.scope.Bound.{Bound}
use Rattle.wdl_typed.specs.Declarations.{bound, plain_key}
use Rattle.wdl_typed.specs.Scope.{is_among, same_key, type_in}
use Rattle.cwl_model.specs.declared.process.Link.TheVariants as link
use Rattle.cwl_model.proofs.Rounds.{first_is, first_or_later, later_is, none_is, or_else}
use Rattle.cwl_image.specs.Image.{Draft, Linkage, Scope, body_links, body_uses, firsts, id_of, inner_linkage, inner_scope, item_linkage, keys_of, linkage_at, links_of, outer_uses, type_of, type_or, without}
use Rattle.cwl_laws.specs.Parts.{OutsTyped}
use Rattle.cwl_laws.proofs.Bodies.{linkage_append}
use Rattle.cwl_laws.proofs.Differ.{NoTypes, no_link, not_given}
use Rattle.cwl_laws.proofs.Elements.{link_seen, link_typed, map_has}
use Rattle.cwl_laws.proofs.Given.{outs_linked}
use Rattle.cwl_laws.proofs.Uses.{HasType, type_append, without_has}
use Rattle.wdl_flow.proofs.MarkLemmas.{same_key-true as key_same}
use Rattle.flow_soundness.proofs.NewNames.{same_key-refl as same_itself}

-- the reference is linked, with the type of the name
abbrev pub IsLinked : Scope → Key → Ty → Type 0
IsLinked scope k t = (l : Linkage) × (linkage_at scope k ≡ Some l) × (l.ty ≡ type_of t)

-- Each of these references that is seen is linked.
abbrev pub Covers : Scope → List Bound → List Key → Type 0
Covers scope names uses = (k : Key) (t : Ty) → Contains uses k → type_in names k ≡ Some t → IsLinked scope k t

-- Nothing is linked that is not seen.
abbrev pub IsWithin : Scope → List Bound → Type 0
IsWithin scope names = (k : Key) (l : Linkage) → linkage_at scope k ≡ Some l → HasType names k

-- ---- types of names

type_kept : (bs cs : List Bound) (k : Key) → HasType bs k → HasType (bs ++ cs) k
type_kept bs cs k h = (h.0, type_append bs cs k ∙ ap (λ o. or_else o (type_in cs k)) h.1)

type_more : (bs cs : List Bound) (k : Key) → HasType cs k → HasType (bs ++ cs) k
type_more bs cs k h = by_type (type_in bs k) refl
  where
    by_type : (o : Option Ty) → type_in bs k ≡ o → HasType (bs ++ cs) k
    by_type (Some t) e = (t, type_append bs cs k ∙ ap (λ o. or_else o (type_in cs k)) e)
    by_type None e = (h.0, type_append bs cs k ∙ ap (λ o. or_else o (type_in cs k)) e ∙ h.1)

-- by where a name of two lists has its type
pub by_side : (bs cs : List Bound) (k : Key) (t : Ty) → type_in (bs ++ cs) k ≡ Some t → (type_in bs k ≡ Some t) ⊎ ((type_in bs k ≡ None) × (type_in cs k ≡ Some t))
by_side bs cs k t h = by_type (type_in bs k) refl
  where
    by_type : (o : Option Ty) → type_in bs k ≡ o → (type_in bs k ≡ Some t) ⊎ ((type_in bs k ≡ None) × (type_in cs k ≡ Some t))
    by_type (Some u) e = inl (e ∙ sym (ap (λ o. or_else o (type_in cs k)) e) ∙ sym (type_append bs cs k) ∙ h)
    by_type None e = inr (e, sym (ap (λ o. or_else o (type_in cs k)) e) ∙ sym (type_append bs cs k) ∙ h)

-- ---- behind a statement

pub covers_then : (scope : Scope) (names bs : List Bound) (d : Draft) (uses : List Key) → OutsTyped d.outs bs → IsWithin scope names → Covers scope names uses → Covers (scope ++ links_of d) (names ++ bs) uses
covers_then scope names bs d uses outs within covers k t c h = by_case (by_side names bs k t h)
  where
    new : type_in names k ≡ None → (o : Option Linkage) → linkage_at scope k ≡ o → linkage_at scope k ≡ None
    new n None e = e
    new n (Some l) e = absurd (none-some _ (sym n ∙ (within k l e).1))

    by_case : (type_in names k ≡ Some t) ⊎ ((type_in names k ≡ None) × (type_in bs k ≡ Some t)) → IsLinked (scope ++ links_of d) k t
    by_case (inl e) = let l = covers k t c e in (l.0, linkage_append scope (links_of d) k ∙ ap (λ o. or_else o (linkage_at (links_of d) k)) l.1, l.2)
    by_case (inr e) =
        let l = link_typed (links_of d) bs (outs_linked d.id d.outs bs outs) k t e.1 in
        (l.0, linkage_append scope (links_of d) k ∙ ap (λ o. or_else o (linkage_at (links_of d) k)) (new e.0 (linkage_at scope k) refl) ∙ l.1, l.2)

pub within_then : (scope : Scope) (names bs : List Bound) (d : Draft) → OutsTyped d.outs bs → IsWithin scope names → IsWithin (scope ++ links_of d) (names ++ bs)
within_then scope names bs d outs within k l h = by_link (linkage_at scope k) refl
  where
    by_link : (o : Option Linkage) → linkage_at scope k ≡ o → HasType (names ++ bs) k
    by_link (Some m) e = type_kept names bs k (within k m e)
    by_link None e = type_more names bs k (link_seen (links_of d) bs (outs_linked d.id d.outs bs outs) k l (sym (ap (λ o. or_else o (linkage_at (links_of d) k)) e) ∙ sym (linkage_append scope (links_of d) k) ∙ h))

-- ---- references at their first use

firsts_in : (before ks : List Key) (k : Key) → Contains (firsts before ks) k → Contains ks k
firsts_in before [] k c = absurd (none_is k c)
firsts_in before (j ∷ ks) k c = by_test (is_among j before) c (λ d. firsts_in before ks k d) (λ d. firsts_in (j ∷ before) ks k d)
  where
    by_case : (Contains (firsts (j ∷ before) ks) k → Contains ks k) → (j ≡ k) ⊎ Contains (firsts (j ∷ before) ks) k → Contains (j ∷ ks) k
    by_case rest (inl e) = subst (λ z. Contains (j ∷ ks) z) e (first_is j ks)
    by_case rest (inr d) = later_is j ks k (rest d)

    by_test : (b : Bool) → Contains (cond b (firsts before ks) (j ∷ firsts (j ∷ before) ks)) k → (Contains (firsts before ks) k → Contains ks k) → (Contains (firsts (j ∷ before) ks) k → Contains ks k) → Contains (j ∷ ks) k
    by_test true c f g = later_is j ks k (f c)
    by_test false c f g = by_case g (first_or_later j (firsts (j ∷ before) ks) k c)

firsts_has : (before ks : List Key) (k : Key) → Contains ks k → is_among k before ≡ false → Contains (firsts before ks) k
firsts_has before [] k c n = absurd (none_is k c)
firsts_has before (j ∷ ks) k c n =
    by_test (is_among j before) refl (first_or_later j ks k c) (λ d. firsts_has before ks k d n) (λ d m. firsts_has (j ∷ before) ks k d (or_from (same_key j k) (is_among k before) m n))
  where
    by_same : (b : Bool) → same_key j k ≡ b → (Contains ks k → same_key j k ≡ false → Contains (firsts (j ∷ before) ks) k) → Contains ks k → Contains (j ∷ firsts (j ∷ before) ks) k
    by_same true e g d = subst (λ z. Contains (j ∷ firsts (j ∷ before) ks) z) (key_same j k e) (first_is j (firsts (j ∷ before) ks))
    by_same false e g d = later_is j (firsts (j ∷ before) ks) k (g d e)

    by_test : (b : Bool) → is_among j before ≡ b → (j ≡ k) ⊎ Contains ks k → (Contains ks k → Contains (firsts before ks) k) → (Contains ks k → same_key j k ≡ false → Contains (firsts (j ∷ before) ks) k)
        → Contains (cond b (firsts before ks) (j ∷ firsts (j ∷ before) ks)) k
    by_test true e (inl s) f g = absurd (false≢true (sym n ∙ ap (λ z. is_among z before) (sym s) ∙ e))
    by_test true e (inr d) f g = f d
    by_test false e (inl s) f g = subst (λ z. Contains (j ∷ firsts (j ∷ before) ks) z) s (first_is j (firsts (j ∷ before) ks))
    by_test false e (inr d) f g = by_same (same_key j k) refl g d

without_takes : (inside ks : List Key) (k : Key) → Contains ks k → is_among k inside ≡ false → Contains (without inside ks) k
without_takes inside [] k c n = absurd (none_is k c)
without_takes inside (j ∷ ks) k c n = by_test (is_among j inside) refl (first_or_later j ks k c) (λ d. without_takes inside ks k d n)
  where
    by_test : (b : Bool) → is_among j inside ≡ b → (j ≡ k) ⊎ Contains ks k → (Contains ks k → Contains (without inside ks) k) → Contains (cond b [] (j ∷ []) ++ without inside ks) k
    by_test true e (inl s) f = absurd (false≢true (sym n ∙ ap (λ z. is_among z inside) (sym s) ∙ e))
    by_test true e (inr d) f = f d
    by_test false e (inl s) f = subst (λ z. Contains (j ∷ without inside ks) z) s (first_is j (without inside ks))
    by_test false e (inr d) f = later_is j (without inside ks) k (f d)

-- what comes from outside is used, and no item or reference of the body
pub outer_in : (items : List Key) (ds : List Draft) (k : Key) → Contains (outer_uses items ds) k → Contains (without (items ++ keys_of (body_links ds)) (body_uses ds)) k
outer_in items ds k c = firsts_in [] (without (items ++ keys_of (body_links ds)) (body_uses ds)) k c

pub outer_out : (items : List Key) (ds : List Draft) (k : Key) → Contains (outer_uses items ds) k → is_among k (items ++ keys_of (body_links ds)) ≡ false
outer_out items ds k c = (without_has (items ++ keys_of (body_links ds)) (body_uses ds) k (outer_in items ds k c)).1

outer_has : (items : List Key) (ds : List Draft) (k : Key) → Contains (body_uses ds) k → is_among k (items ++ keys_of (body_links ds)) ≡ false → Contains (outer_uses items ds) k
outer_has items ds k c n =
    firsts_has [] (without (items ++ keys_of (body_links ds)) (body_uses ds)) k (without_takes (items ++ keys_of (body_links ds)) (body_uses ds) k c n) refl

-- ---- the scope of a block's flow

inner_at : (scope : Scope) (us : List Key) (k : Key) → Contains us k → linkage_at (inner_scope scope us) k ≡ Some (inner_linkage scope k)
inner_at scope [] k c = absurd (none_is k c)
inner_at scope (j ∷ us) k c = by_test (same_key j k) refl (first_or_later j us k c) (λ d. inner_at scope us k d)
  where
    by_test : (b : Bool) → same_key j k ≡ b → (j ≡ k) ⊎ Contains us k → (Contains us k → linkage_at (inner_scope scope us) k ≡ Some (inner_linkage scope k))
        → cond b (Some (inner_linkage scope j)) (linkage_at (inner_scope scope us) k) ≡ Some (inner_linkage scope k)
    by_test true e d f = ap (λ z. Some (inner_linkage scope z)) (key_same j k e)
    by_test false e (inl s) f = absurd (false≢true (sym e ∙ ap (λ z. same_key z k) s ∙ same_itself k))
    by_test false e (inr d) f = f d

inner_back : (scope : Scope) (us : List Key) (k : Key) (l : Linkage) → linkage_at (inner_scope scope us) k ≡ Some l → Contains us k
inner_back scope [] k l h = absurd (none-some _ h)
inner_back scope (j ∷ us) k l h = by_test (same_key j k) refl h (λ q. inner_back scope us k l q)
  where
    by_test : (b : Bool) → same_key j k ≡ b → cond b (Some (inner_linkage scope j)) (linkage_at (inner_scope scope us) k) ≡ Some l → (linkage_at (inner_scope scope us) k ≡ Some l → Contains us k) → Contains (j ∷ us) k
    by_test true e q f = subst (λ z. Contains (j ∷ us) z) (key_same j k e) (first_is j us)
    by_test false e q f = later_is j us k (f q)

pub inner_inputs : (scope : Scope) (us : List Key) (l : Linkage) → Contains (inner_scope scope us) l → (i : List ℕ) × (l.link ≡ link.Input i)
inner_inputs scope us l c =
    let r = map_has Key Linkage (inner_linkage scope) us l c in
    (id_of r.0, ap (λ (z : Linkage). z.link) (sym r.2))

module _ (scope : Scope) (names : List Bound) (ds : List Draft) where
  module _ (items : List Key) (typed : (k : Key) → Contains (without (items ++ keys_of (body_links ds)) (body_uses ds)) k → HasType names k)
      (covers : Covers scope names (without (items ++ keys_of (body_links ds)) (body_uses ds))) where
    pub outer_linked : (k : Key) → Contains (outer_uses items ds) k → (l : Linkage) × (linkage_at scope k ≡ Some l)
    outer_linked k c =
        let u = outer_in items ds k c in
        let t = typed k u in
        let l = covers k t.0 u t.1 in
        (l.0, l.1)

    inner_typed : (k : Key) (t : Ty) → Contains (outer_uses items ds) k → type_in names k ≡ Some t → (inner_linkage scope k).ty ≡ type_of t
    inner_typed k t c h = let l = covers k t (outer_in items ds k c) h in ap type_or l.1 ∙ l.2

  -- within a condition
  module _ (fresh : NoTypes names ds) (typed : (k : Key) → Contains (without (keys_of (body_links ds)) (body_uses ds)) k → HasType names k)
      (covers : Covers scope names (without (keys_of (body_links ds)) (body_uses ds))) where
    pub if_covers : Covers (inner_scope scope (outer_uses [] ds)) names (body_uses ds)
    if_covers k t c h =
        let u = outer_has [] ds k c (not_given names ds fresh k (t, h)) in
        (inner_linkage scope k, inner_at scope (outer_uses [] ds) k u, inner_typed [] typed covers k t u h)

    pub if_within : IsWithin (inner_scope scope (outer_uses [] ds)) names
    if_within k l h = typed k (outer_in [] ds k (inner_back scope (outer_uses [] ds) k l h))

  -- within a scatter
  module _ (item : List ℕ) (over : TExpr) (u : Ty) (new : type_in names (plain_key item) ≡ None) (fresh : NoTypes (names ++ bound item u ∷ []) ds)
      (typed : (k : Key) → Contains (without (plain_key item ∷ keys_of (body_links ds)) (body_uses ds)) k → HasType names k)
      (covers : Covers scope names (without (plain_key item ∷ keys_of (body_links ds)) (body_uses ds))) (of_item : (item_linkage scope item over).ty ≡ type_of u) where
    abbrev Inner : Scope
    Inner = item_linkage scope item over ∷ inner_scope scope (outer_uses (plain_key item ∷ []) ds)

    pub scatter_covers : Covers Inner (names ++ bound item u ∷ []) (body_uses ds)
    scatter_covers k t c h = by_test (same_key (plain_key item) k) refl (by_side names (bound item u ∷ []) k t h)
      where
        rest : Scope
        rest = inner_scope scope (outer_uses (plain_key item ∷ []) ds)

        one : (w : Bool) → cond w (Some u) None ≡ Some t → (w ≡ true) × (u ≡ t)
        one true q = (refl, same_Some _ _ q)
        one false q = absurd (none-some _ q)

        outside : same_key (plain_key item) k ≡ false → type_in names k ≡ Some t → IsLinked Inner k t
        outside e q =
            let n = or_from (same_key (plain_key item) k) (is_among k (keys_of (body_links ds))) e (not_given (names ++ bound item u ∷ []) ds fresh k (t, h)) in
            let c_ = outer_has (plain_key item ∷ []) ds k c n in (
              inner_linkage scope k,
              ap (λ w. cond w (Some (item_linkage scope item over)) (linkage_at rest k)) e ∙ inner_at scope (outer_uses (plain_key item ∷ []) ds) k c_,
              inner_typed (plain_key item ∷ []) typed covers k t c_ q,
            )

        by_test : (w : Bool) → same_key (plain_key item) k ≡ w → (type_in names k ≡ Some t) ⊎ ((type_in names k ≡ None) × (type_in (bound item u ∷ []) k ≡ Some t)) → IsLinked Inner k t
        by_test true e (inl q) = absurd (none-some _ (sym new ∙ ap (type_in names) (key_same (plain_key item) k e) ∙ q))
        by_test true e (inr q) = (
          item_linkage scope item over,
          ap (λ w. cond w (Some (item_linkage scope item over)) (linkage_at rest k)) e,
          of_item ∙ ap type_of (one (same_key (plain_key item) k) q.1).1,
        )
        by_test false e (inl q) = outside e q
        by_test false e (inr q) = absurd (false≢true (sym e ∙ (one (same_key (plain_key item) k) q.1).0))

    pub scatter_within : IsWithin Inner (names ++ bound item u ∷ [])
    scatter_within k l h = by_test (same_key (plain_key item) k) refl h
      where
        by_test : (w : Bool) → same_key (plain_key item) k ≡ w → cond w (Some (item_linkage scope item over)) (linkage_at (inner_scope scope (outer_uses (plain_key item ∷ []) ds)) k) ≡ Some l
            → HasType (names ++ bound item u ∷ []) k
        by_test true e q = type_more names (bound item u ∷ []) k (u, ap (λ w. cond w (Some u) None) e)
        by_test false e q = type_kept names (bound item u ∷ []) k (typed k (outer_in (plain_key item ∷ []) ds k (inner_back scope (outer_uses (plain_key item ∷ []) ds) k l q)))

    pub scatter_inputs : (l : Linkage) → Contains Inner l → (i : List ℕ) × (l.link ≡ link.Input i)
    scatter_inputs l c = by_case (first_or_later (item_linkage scope item over) (inner_scope scope (outer_uses (plain_key item ∷ []) ds)) l c)
      where
        by_case : (item_linkage scope item over ≡ l) ⊎ Contains (inner_scope scope (outer_uses (plain_key item ∷ []) ds)) l → (i : List ℕ) × (l.link ≡ link.Input i)
        by_case (inl e) = (item, ap (λ (z : Linkage). z.link) (sym e))
        by_case (inr d) = inner_inputs scope (outer_uses (plain_key item ∷ []) ds) l d

-- Each reference of the body is found behind what its flow sees.
pub body_found : (scope : Scope) (names : List Bound) (ds : List Draft) → IsWithin scope names → NoTypes names ds → ((l : Linkage) → Contains (body_links ds) l → linkage_at (body_links ds) l.key ≡ Some l)
    → (l : Linkage) → Contains (body_links ds) l → linkage_at (scope ++ body_links ds) l.key ≡ Some l
body_found scope names ds within fresh own l c = linkage_append scope (body_links ds) l.key ∙ by_link (linkage_at scope l.key) refl
  where
    by_link : (o : Option Linkage) → linkage_at scope l.key ≡ o → or_else (linkage_at scope l.key) (linkage_at (body_links ds) l.key) ≡ Some l
    by_link None e = ap (λ o. or_else o (linkage_at (body_links ds) l.key)) e ∙ own l c
    by_link (Some m) e = absurd (none-some _ (sym (no_link names ds fresh l c) ∙ (within l.key m e).1))
