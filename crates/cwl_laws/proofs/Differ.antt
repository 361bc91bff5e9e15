-- The references of a body are new where it stands, and differ from each other.
use Rattle.std.proofs.Common.{◌≡◌, ℕ, ◌⊎◌, inl, inr, Bool, true, false, List, [], ◌∷◌, ◌++◌, map, Option, Some, None, Contains, sym, ap, ◌∙◌, subst, refl}
use Rattle.std.proofs.lemmas.Bool.{false≢true, and_parts}
use Rattle.std.proofs.lemmas.List.Elements.{Contains-append_cases}
use Rattle.std.proofs.lemmas.Option.{none-some}
use Rattle.wdl_base.specs.declared.name.Key.{Key}
use Rattle.wdl_value.specs.declared.ty.Ty.{Ty}
use Rattle.wdl_typed.specs.declared.flow.Statement.{Statement, fold-Statement}
use Rattle.wdl_typed.specs.declared.scope.Bound.{Bound}
use Rattle.wdl_typed.specs.Bodies.{Differing, Library, Seen, body_gives, declared as declared_by, items_differ, items_step, joined}
use Rattle.wdl_typed.specs.Flow.{Known, env_of}
use Rattle.wdl_typed.specs.Lists.{has_name}
use Rattle.wdl_typed.specs.Scope.{is_among, lookup, type_in}
use Rattle.flow_soundness.specs.Readiness.{IsNew}
use Rattle.flow_soundness.proofs.Newness.{given_apart, tail_new}
use Rattle.cwl_model.proofs.Rounds.{first_is, later_is, none_is}
use Rattle.cwl_image.specs.Image.{Draft, Linkage, Output, Targets, body_links, draft, keys_of, linkage_of, links_of}
use Rattle.cwl_image.specs.Subset.{walk_body}
use Rattle.cwl_laws.specs.Laws.{AllDiffer, AllNew, KeysDiffer, New, NewItems, NoItems, NoKeys, has_key}
use Rattle.cwl_laws.proofs.Elements.{among_has, map_has, no_out, none_left, none_right, out_typed}
use Rattle.cwl_laws.proofs.Keys.{items_new}
use Rattle.cwl_laws.proofs.Splits.{split}
use Rattle.cwl_laws.proofs.Uses.{HasType}

-- what a step gives, and the items in it, are no names of these
pub record NoType (names : List Bound) (d : Draft) : Type 0 where
  pub outs : (o : Output) → Contains d.outs o → type_in names o.key ≡ None
  pub items : (k : Key) → Contains d.items k → type_in names k ≡ None

abbrev pub NoTypes : List Bound → List Draft → Type 0
NoTypes names [] = Unit {0}
NoTypes names (d ∷ ds) = NoType names d × NoTypes names ds

types_left : (bs cs : List Bound) (ds : List Draft) → NoTypes (bs ++ cs) ds → NoTypes bs ds
types_left bs cs [] h = tt
types_left bs cs (d ∷ ds) h = (
  record { outs = λ o c. none_left bs cs o.key (h.0.outs o c); items = λ k c. none_left bs cs k (h.0.items k c) },
  types_left bs cs ds h.1,
)

types_right : (bs cs : List Bound) (ds : List Draft) → NoTypes (bs ++ cs) ds → NoTypes cs ds
types_right bs cs [] h = tt
types_right bs cs (d ∷ ds) h = (
  record { outs = λ o c. none_right bs cs o.key (h.0.outs o c); items = λ k c. none_right bs cs k (h.0.items k c) },
  types_right bs cs ds h.1,
)

pub no_link : (names : List Bound) (ds : List Draft) → NoTypes names ds → (l : Linkage) → Contains (body_links ds) l → type_in names l.key ≡ None
no_link names [] h l c = absurd (none_is l c)
no_link names (d ∷ ds) h l c = by_case (λ e. no_link names ds h.1 l e) (Contains-append_cases (links_of d) (body_links ds) l c)
  where
    by_case : (Contains (body_links ds) l → type_in names l.key ≡ None) → Contains (links_of d) l ⊎ Contains (body_links ds) l → type_in names l.key ≡ None
    by_case rest (inl e) =
        let r = map_has Output Linkage (linkage_of d.id) d.outs l e in
        subst (λ (z : Linkage). type_in names z.key ≡ None) r.2 (h.0.outs r.0 r.1)
    by_case rest (inr e) = rest e

-- What is seen with a type is no reference of the body.
pub not_given : (names : List Bound) (ds : List Draft) → NoTypes names ds → (k : Key) → HasType names k → is_among k (keys_of (body_links ds)) ≡ false
not_given names ds h k t = by_test (is_among k (keys_of (body_links ds))) refl
  where
    by_test : (b : Bool) → is_among k (keys_of (body_links ds)) ≡ b → b ≡ false
    by_test false e = refl
    by_test true e =
        let r = among_has (body_links ds) k e in
        absurd (none-some _ (sym (no_link names ds h r.0 r.1) ∙ ap (type_in names) r.2 ∙ t.1))

-- ---- references that differ

no_keys : (os ps : List Output) → ((p : Output) → Contains ps p → has_key os p.key ≡ false) → NoKeys os ps
no_keys os [] h = tt
no_keys os (p ∷ ps) h = (h p (first_is p ps), no_keys os ps (λ q c. h q (later_is p ps q c)))

no_items : (os : List Output) (ks : List Key) → ((k : Key) → Contains ks k → has_key os k ≡ false) → NoItems os ks
no_items os [] h = tt
no_items os (k ∷ ks) h = (h k (first_is k ks), no_items os ks (λ j c. h j (later_is k ks j c)))

pub keys_differ : (os : List Output) (bs : List Bound) → ((k : Key) → type_in bs k ≡ None → has_key os k ≡ false) → (ds : List Draft) → NoTypes bs ds → KeysDiffer os ds
keys_differ os bs out [] h = tt
keys_differ os bs out (d ∷ ds) h = (
  (no_keys os d.outs (λ p c. out p.key (h.0.outs p c)), no_items os d.items (λ k c. out k (h.0.items k c))),
  keys_differ os bs out ds h.1,
)

-- ---- names that are new

news : (os : List Output) (names : List Known) → ((o : Output) → Contains os o → lookup (env_of names) o.key ≡ None) → New os names
news [] names h = tt
news (o ∷ os) names h = (h o (first_is o os), news os names (λ p c. h p (later_is o os p c)))

new_items : (ks : List Key) (names : List Known) → ((k : Key) → Contains ks k → lookup (env_of names) k ≡ None) → NewItems ks names
new_items [] names h = tt
new_items (k ∷ ks) names h = (h k (first_is k ks), new_items ks names (λ j c. h j (later_is k ks j c)))

pub all_new : (bs : List Bound) (names : List Known) → ((k : Key) → type_in bs k ≡ None → lookup (env_of names) k ≡ None) → (ds : List Draft) → NoTypes bs ds → AllNew ds names
all_new bs names out [] h = tt
all_new bs names out (d ∷ ds) h = (
  (news d.outs names (λ o c. out o.key (h.0.outs o c)), new_items d.items names (λ k c. out k (h.0.items k c))),
  all_new bs names out ds h.1,
)

-- ---- bodies

module _ (lib : Library) (processes : Targets) (declared : List (List ℕ)) where
  -- What a body gives and the items in it are new where it stands.
  pub body_fresh : (ss : List Statement) (seen g : Seen) (all taken : List (List ℕ)) → body_gives lib ss seen ≡ Some g → (walk_body lib declared ss seen.names).broken ≡ [] → IsNew all taken seen ss
      → NoTypes seen.names (map (draft lib processes) ss)
  body_fresh [] seen g all taken h w n = tt
  body_fresh (st ∷ ss) seen g all taken h w n =
      let s = split lib processes declared st ss seen g h w in
      let tail = tail_new lib all taken seen st ss s.first s.typed n in (
        record {
          outs = λ o c.
              let t = out_typed (draft lib processes st).outs s.first.names s.outs o c in
              given_apart lib all taken seen st ss s.first s.typed n o.key t.0 t.1;
          items = λ k c. unseen k (items_new lib processes st all (and_parts (fold-Statement Differing items_step st all) (items_differ ss all) n.items_new).0 k c);
        },
        types_left seen.names s.first.names (map (draft lib processes) ss) (body_fresh ss (joined seen s.first) s.rest all (taken ++ declared_by st) s.more s.kept_more tail),
      )
    where
      unseen : (k : Key) → has_name k.first all ≡ false → type_in seen.names k ≡ None
      unseen k o = by_type (type_in seen.names k) refl
        where
          by_type : (t : Option Ty) → type_in seen.names k ≡ t → type_in seen.names k ≡ None
          by_type None e = e
          by_type (Some u) e = absurd (false≢true (sym o ∙ n.taken_all k.first (n.seen_taken k u e)))

  -- No two statements of a body give the same reference.
  pub body_differs : (ss : List Statement) (seen g : Seen) (all taken : List (List ℕ)) → body_gives lib ss seen ≡ Some g → (walk_body lib declared ss seen.names).broken ≡ [] → IsNew all taken seen ss
      → AllDiffer (map (draft lib processes) ss)
  body_differs [] seen g all taken h w n = tt
  body_differs (st ∷ ss) seen g all taken h w n =
      let s = split lib processes declared st ss seen g h w in
      let tail = tail_new lib all taken seen st ss s.first s.typed n in
      let fresh = body_fresh ss (joined seen s.first) s.rest all (taken ++ declared_by st) s.more s.kept_more tail in (
        keys_differ (draft lib processes st).outs s.first.names (no_out (draft lib processes st).outs s.first.names s.outs) (map (draft lib processes) ss)
            (types_right seen.names s.first.names (map (draft lib processes) ss) fresh),
        body_differs ss (joined seen s.first) s.rest all (taken ++ declared_by st) s.more s.kept_more tail,
      )
