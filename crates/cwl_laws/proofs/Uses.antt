-- What a statement refers to outside.
use Rattle.std.proofs.Common.{◌≡◌, ℕ, ◌⊎◌, inl, inr, Bool, true, false, cond, ◌&&◌, ◌||◌, List, [], ◌∷◌, ◌++◌, map, Option, Some, None, option_and_then, Contains, sym, ap, ◌∙◌, subst, refl}
use Rattle.std.proofs.lemmas.Bool.{false≢true, and_parts, or_left, or_parts, or_right}
use Rattle.std.proofs.lemmas.List.Elements.{Contains-append_cases}
use Rattle.std.proofs.lemmas.Option.{none-some}
use Rattle.wdl_base.specs.declared.name.Key.{Key}
use Rattle.wdl_value.specs.declared.ty.Ty.{Ty, Ty-F, out-Ty}
use Rattle.wdl_value.specs.declared.ty.Ty.TheOpen as type
use Rattle.wdl_value.specs.declared.ty.Ty.TheVariants as ty
use Rattle.wdl_value.specs.Fits.{Structs}
use Rattle.wdl_value.specs.Kinds.{is_bool}
use Rattle.wdl_typed.specs.declared.expr.TExpr.{TExpr}
use Rattle.wdl_typed.specs.declared.expr.TField.{TField}
use Rattle.wdl_typed.specs.declared.flow.Statement.{Statement, Statement-F, fold-roll-Statement, fold_out-Statement, ind-Statement, map-Statement, out-Statement, roll-Statement}
use Rattle.wdl_typed.specs.declared.flow.Statement.TheOpen as layer
use Rattle.wdl_typed.specs.declared.scope.Bound.{Bound}
use Rattle.wdl_typed.specs.declared.task.TInput.{TInput}
use Rattle.wdl_typed.specs.Bodies.{Giving, Library, Seen, Signature, all_given, all_seen, arg_names, arg_typed, args_typed, body_step, call_by, call_gives, gives, if_over, input_type, joined, optional, retyped, scatter_over, signature, statement_step, with_item}
use Rattle.wdl_typed.specs.Declarations.{bound, context, in_body, plain_key}
use Rattle.wdl_typed.specs.Lists.{are_distinct}
use Rattle.wdl_typed.specs.Scope.{is_among, same_key, type_in}
use Rattle.wdl_typed.specs.Typing.{is_type}
use Rattle.cwl_model.proofs.Rounds.{first_is, first_or_later, later_is, none_is, or_else}
use Rattle.cwl_image.specs.Image.{Draft, Linkage, Targets, args_used, body_links, body_uses, draft, draft_step, keys_of, links_of, option_list, reference, without}
use Rattle.cwl_image.specs.Subset.{Walk, Walked, block_broken, body_walk, scatter_at, scatter_over as scatter_walk, walk, walk_step}
use Rattle.cwl_laws.specs.Parts.{LinksTyped, OutsTyped}
use Rattle.cwl_laws.specs.Premises.{WiresBy}
use Rattle.cwl_laws.proofs.Given.{given_same, outs_linked}
use Rattle.cwl_laws.proofs.Reading.{call_wires, if_wires, scatter_wires}
use Rattle.cwl_laws.proofs.References.{cast_type, refers_under, type_is, under_type}
use Rattle.cwl_laws.proofs.Tools.{both_empty}

-- ---- types of names

abbrev pub HasType : List Bound → Key → Type 0
HasType names k = (t : Ty) × (type_in names k ≡ Some t)

pub type_append : (bs cs : List Bound) (k : Key) → type_in (bs ++ cs) k ≡ or_else (type_in bs k) (type_in cs k)
type_append [] cs k = refl
type_append (b ∷ bs) cs k = by_test (type_append bs cs k) (same_key b.key k)
  where
    by_test : type_in (bs ++ cs) k ≡ or_else (type_in bs k) (type_in cs k) → (w : Bool) → cond w (Some b.ty) (type_in (bs ++ cs) k) ≡ or_else (cond w (Some b.ty) (type_in bs k)) (type_in cs k)
    by_test rest true = refl
    by_test rest false = rest

type_either : (bs cs : List Bound) (k : Key) → HasType (bs ++ cs) k → HasType bs k ⊎ HasType cs k
type_either bs cs k h = by_type (type_in bs k) refl
  where
    by_type : (o : Option Ty) → type_in bs k ≡ o → HasType bs k ⊎ HasType cs k
    by_type (Some t) e = inl (t, e)
    by_type None e = inr (h.0, ap (λ o. or_else o (type_in cs k)) (sym e) ∙ sym (type_append bs cs k) ∙ h.1)

under_has : (k : Key) (ts : List Ty) (names : List Bound) (u : Ty) → under_type k ts names ≡ Some u → HasType names k
under_has k [] names u h = (u, h)
under_has k (w ∷ ts) names u h = by_rest (λ z q. under_has k ts names z q) (under_type k ts names) refl h
  where
    by_rest : ((z : Ty) → under_type k ts names ≡ Some z → HasType names k) → (o : Option Ty) → under_type k ts names ≡ o → cast_type o w ≡ Some u → HasType names k
    by_rest rest None q h = absurd (none-some _ h)
    by_rest rest (Some z) q h = rest z q

-- A well typed reference is to a name with a type.
pub key_typed : (structs : Structs) (names : List Bound) (x : TExpr) (k : Key) (t : Ty) → reference x ≡ Some k → in_body structs names x ≡ Some t → HasType names k
key_typed structs names x k t r h =
    let f = refers_under x k r in
    under_has k f.0 names t (sym (type_is (context structs names) false k f.0) ∙ ap (λ z. in_body structs names z) (sym f.1) ∙ h)

-- ---- keys of links

typed_among : (ls : List Linkage) (bs : List Bound) (k : Key) → LinksTyped ls bs → HasType bs k → is_among k (keys_of ls) ≡ true
typed_among [] [] k h t = absurd (none-some _ t.1)
typed_among [] (b ∷ bs) k h t = absurd h
typed_among (l ∷ ls) [] k h t = absurd h
typed_among (l ∷ ls) (b ∷ bs) k h t = by_test (λ q. typed_among ls bs k h.2 (t.0, q)) (same_key b.key k) refl t.1
  where
    by_test : (type_in bs k ≡ Some t.0 → is_among k (keys_of ls) ≡ true) → (w : Bool) → same_key b.key k ≡ w → cond w (Some b.ty) (type_in bs k) ≡ Some t.0 → (same_key l.key k || is_among k (keys_of ls)) ≡ true
    by_test rest true e q = or_left (same_key l.key k) (is_among k (keys_of ls)) (ap (λ j. same_key j k) h.0 ∙ e)
    by_test rest false e q = or_right (same_key l.key k) (is_among k (keys_of ls)) (rest q)

among_append : (ks ls : List Linkage) (k : Key) → (is_among k (keys_of ks) || is_among k (keys_of ls)) ≡ true → is_among k (keys_of (ks ++ ls)) ≡ true
among_append [] ls k h = h
among_append (l ∷ ks) ls k h = by_test (same_key l.key k) h (among_append ks ls k)
  where
    by_test : (b : Bool) → ((b || is_among k (keys_of ks)) || is_among k (keys_of ls)) ≡ true → ((is_among k (keys_of ks) || is_among k (keys_of ls)) ≡ true → is_among k (keys_of (ks ++ ls)) ≡ true)
        → (b || is_among k (keys_of (ks ++ ls))) ≡ true
    by_test true h rest = refl
    by_test false h rest = rest h

pub without_has : (inside ks : List Key) (k : Key) → Contains (without inside ks) k → Contains ks k × (is_among k inside ≡ false)
without_has inside [] k c = absurd (none_is k c)
without_has inside (j ∷ ks) k c = by_test (is_among j inside) refl c (λ d. without_has inside ks k d)
  where
    by_case : is_among j inside ≡ false → (Contains (without inside ks) k → Contains ks k × (is_among k inside ≡ false)) → (j ≡ k) ⊎ Contains (without inside ks) k → Contains (j ∷ ks) k × (is_among k inside ≡ false)
    by_case n rest (inl e) = (subst (λ z. Contains (j ∷ ks) z) e (first_is j ks), ap (λ z. is_among z inside) (sym e) ∙ n)
    by_case n rest (inr d) = let r = rest d in (later_is j ks k r.0, r.1)

    by_test : (b : Bool) → is_among j inside ≡ b → Contains (cond b [] (j ∷ []) ++ without inside ks) k → (Contains (without inside ks) k → Contains ks k × (is_among k inside ≡ false)) → Contains (j ∷ ks) k × (is_among k inside ≡ false)
    by_test true e c rest = let r = rest c in (later_is j ks k r.0, r.1)
    by_test false e c rest = by_case e rest (first_or_later j (without inside ks) k c)

pub option_has : (o : Option Key) (k : Key) → Contains (option_list o) k → o ≡ Some k
option_has None k c = absurd (none_is k c)
option_has (Some j) k c = by_case (first_or_later j [] k c)
  where
    by_case : (j ≡ k) ⊎ Contains [] k → Some j ≡ Some k
    by_case (inl e) = ap Some e
    by_case (inr d) = absurd (none_is k d)

-- ---- arguments

args_used_typed : (structs : Structs) (names : List Bound) (inputs : List TInput) (as_ : List (TField TExpr)) → args_typed structs names inputs as_ ≡ true → (k : Key) → Contains (args_used as_) k → HasType names k
args_used_typed structs names inputs [] h k c = absurd (none_is k c)
args_used_typed structs names inputs (a ∷ as_) h k c =
    let p = and_parts (arg_typed (input_type inputs a.name) (in_body structs names a.value)) (args_typed structs names inputs as_) h in
    by_case (by_input (input_type inputs a.name) p.0) (λ d. args_used_typed structs names inputs as_ p.1 k d) (Contains-append_cases (option_list (reference a.value)) (args_used as_) k c)
  where
    by_type : (o : Option Ty) (u : Ty) → in_body structs names a.value ≡ o → is_type o u ≡ true → (t : Ty) × (in_body structs names a.value ≡ Some t)
    by_type None u e h = absurd (false≢true h)
    by_type (Some t) u e h = (t, e)

    by_input : (o : Option Ty) → arg_typed o (in_body structs names a.value) ≡ true → (t : Ty) × (in_body structs names a.value ≡ Some t)
    by_input None h = absurd (false≢true h)
    by_input (Some u) h = by_type (in_body structs names a.value) u refl h

    by_case : (t : Ty) × (in_body structs names a.value ≡ Some t) → (Contains (args_used as_) k → HasType names k) → Contains (option_list (reference a.value)) k ⊎ Contains (args_used as_) k → HasType names k
    by_case t rest (inl d) = key_typed structs names a.value k t.0 (option_has (reference a.value) k d) t.1
    by_case t rest (inr d) = rest d

-- ---- statements

module _ (lib : Library) (processes : Targets) (declared : List (List ℕ)) where
  -- Each reference of a statement from outside is to a name that is seen.
  abbrev Uses : Statement → Type 0
  Uses st =
      (seen given : Seen) → gives lib st seen ≡ Some given → (walk lib declared st seen.names).broken ≡ [] → (k : Key) → Contains (draft lib processes st).uses k → HasType seen.names k

  abbrev KnownUses : Type 0
  KnownUses = (st : Statement) × Uses st

  abbrev plain : Statement-F KnownUses → Statement-F Statement
  plain = map-Statement KnownUses Statement (λ (k : KnownUses). k.0)

  abbrev firsts : List KnownUses → List Statement
  firsts = map (λ (k : KnownUses). k.0)

  -- seen before the body, or given in it
  abbrev Found : List Statement → Seen → Key → Type 0
  Found ss seen k = HasType seen.names k ⊎ (is_among k (keys_of (body_links (map (draft lib processes) ss))) ≡ true)

  body_used : (ks : List KnownUses) (seen g : Seen) → body_step (map (gives lib) (firsts ks)) seen ≡ Some g → (body_walk (map (walk lib declared) (firsts ks)) seen.names).broken ≡ [] → (k : Key)
      → Contains (body_uses (map (draft lib processes) (firsts ks))) k → Found (firsts ks) seen k
  body_used [] seen g h w k c = absurd (none_is k c)
  body_used (s ∷ ks) seen g h w k c = by_first (λ first r q b d. body_used ks (joined seen first) r q b k d) (gives lib s.0 seen) refl h
    where
      split : ((walk lib declared s.0 seen.names).broken ≡ []) × ((body_walk (map (walk lib declared) (firsts ks)) (seen.names ++ (walk lib declared s.0 seen.names).given)).broken ≡ [])
      split = both_empty (walk lib declared s.0 seen.names).broken (body_walk (map (walk lib declared) (firsts ks)) (seen.names ++ (walk lib declared s.0 seen.names).given)).broken w

      Rest : Seen → Type 0
      Rest first =
          (r : Seen) → body_step (map (gives lib) (firsts ks)) (joined seen first) ≡ Some r → (body_walk (map (walk lib declared) (firsts ks)) (seen.names ++ first.names)).broken ≡ []
          → Contains (body_uses (map (draft lib processes) (firsts ks))) k → Found (firsts ks) (joined seen first) k

      later : (first : Seen) → OutsTyped (draft lib processes s.0).outs first.names → Found (firsts ks) (joined seen first) k → Found (firsts (s ∷ ks)) seen k
      later first outs (inr d) =
          inr (among_append (links_of (draft lib processes s.0)) (body_links (map (draft lib processes) (firsts ks))) k
          (or_right (is_among k (keys_of (links_of (draft lib processes s.0)))) (is_among k (keys_of (body_links (map (draft lib processes) (firsts ks))))) d))
      later first outs (inl t) = by_place (type_either seen.names first.names k t)
        where
          by_place : HasType seen.names k ⊎ HasType first.names k → Found (firsts (s ∷ ks)) seen k
          by_place (inl u) = inl u
          by_place (inr u) =
              inr (among_append (links_of (draft lib processes s.0)) (body_links (map (draft lib processes) (firsts ks))) k
              (or_left (is_among k (keys_of (links_of (draft lib processes s.0)))) (is_among k (keys_of (body_links (map (draft lib processes) (firsts ks)))))
              (typed_among (links_of (draft lib processes s.0)) first.names k (outs_linked (draft lib processes s.0).id (draft lib processes s.0).outs first.names outs) u)))

      by_first : ((first : Seen) → Rest first) → (o : Option Seen) → gives lib s.0 seen ≡ o → option_and_then (λ first. option_and_then (λ rest. Some (joined first rest)) (body_step (map (gives lib) (firsts ks)) (joined seen first))) o ≡ Some g
          → Found (firsts (s ∷ ks)) seen k
      by_first rests None e h = absurd (none-some _ h)
      by_first rests (Some first) e h = by_rest (rests first) (body_step (map (gives lib) (firsts ks)) (joined seen first)) refl h
        where
          here : OutsTyped (draft lib processes s.0).outs first.names × ((walk lib declared s.0 seen.names).given ≡ first.names)
          here = given_same lib processes declared s.0 seen first e split.0

          by_case : Rest first → (more : Seen) → body_step (map (gives lib) (firsts ks)) (joined seen first) ≡ Some more
              → Contains (draft lib processes s.0).uses k ⊎ Contains (body_uses (map (draft lib processes) (firsts ks))) k → Found (firsts (s ∷ ks)) seen k
          by_case rest more q (inl d) = inl (s.1 seen first e split.0 k d)
          by_case rest more q (inr d) = later first here.0 (rest more q (subst (λ bs. (body_walk (map (walk lib declared) (firsts ks)) (seen.names ++ bs)).broken ≡ []) here.1 split.1) d)

          by_rest : Rest first → (o : Option Seen) → body_step (map (gives lib) (firsts ks)) (joined seen first) ≡ o → option_and_then (λ rest. Some (joined first rest)) o ≡ Some g → Found (firsts (s ∷ ks)) seen k
          by_rest rest None q h = absurd (none-some _ h)
          by_rest rest (Some more) q h = by_case rest more q (Contains-append_cases (draft lib processes s.0).uses (body_uses (map (draft lib processes) (firsts ks))) k c)

  layer_used : (y : Statement-F KnownUses) (seen given : Seen) → statement_step lib (map-Statement Statement Giving (gives lib) (plain y)) seen ≡ Some given
      → (walk_step lib declared (map-Statement Statement Walk (walk lib declared) (plain y)) seen.names).broken ≡ [] → (k : Key)
      → Contains (draft_step lib processes (map-Statement Statement Draft (draft lib processes) (plain y))).uses k → HasType seen.names k
  layer_used (layer.Decl d) seen given h w k c = absurd (none_is k c)
  layer_used (layer.Call c) seen given h w k d = by_signature (signature lib c.target) h
    where
      by_test : (s : Signature) (b : Bool) → (args_typed lib.structs seen.names s.inputs c.args && are_distinct (arg_names c.args) && all_given s.inputs (arg_names c.args) && all_seen seen.calls c.after) ≡ b
          → cond b (Some (call_gives c.name s.outputs)) None ≡ Some given → HasType seen.names k
      by_test s true e h =
          let p = and_parts (args_typed lib.structs seen.names s.inputs c.args && are_distinct (arg_names c.args) && all_given s.inputs (arg_names c.args)) (all_seen seen.calls c.after) e in
          let q = and_parts (args_typed lib.structs seen.names s.inputs c.args && are_distinct (arg_names c.args)) (all_given s.inputs (arg_names c.args)) p.0 in
          args_used_typed lib.structs seen.names s.inputs c.args (and_parts (args_typed lib.structs seen.names s.inputs c.args) (are_distinct (arg_names c.args)) q.0).0 k d
      by_test s false e h = absurd (none-some _ h)

      by_signature : (o : Option Signature) → option_and_then (call_by lib.structs c seen) o ≡ Some given → HasType seen.names k
      by_signature None h = absurd (none-some _ h)
      by_signature (Some s) h = by_test s (args_typed lib.structs seen.names s.inputs c.args && are_distinct (arg_names c.args) && all_given s.inputs (arg_names c.args) && all_seen seen.calls c.after) refl h
  layer_used (layer.Scatter b) seen given h w k c = by_type (in_body lib.structs seen.names b.over) refl h rest (Contains-append_cases (option_list (reference b.over)) (without inside (body_uses ds)) k c)
    where
      ds : List Draft
      ds = map (draft lib processes) (firsts b.body)

      ws : List Walk
      ws = map (walk lib declared) (firsts b.body)

      inside : List Key
      inside = plain_key b.item ∷ keys_of (body_links ds)

      rest : (scatter_walk b.item (body_walk ws) seen.names (in_body lib.structs seen.names b.over)).broken ≡ []
      rest = (both_empty (block_broken lib.structs declared seen.names b.over b.span) (scatter_walk b.item (body_walk ws) seen.names (in_body lib.structs seen.names b.over)).broken w).1

      one_typed : (u : Ty) → HasType (bound b.item u ∷ []) k → same_key (plain_key b.item) k ≡ true
      one_typed u t = by_test (same_key (plain_key b.item) k) t.1
        where
          by_test : (c : Bool) → cond c (Some u) None ≡ Some t.0 → c ≡ true
          by_test true h = refl
          by_test false h = absurd (none-some _ h)

      outside : (u : Ty) → is_among k inside ≡ false → Found (firsts b.body) (with_item seen b.item u) k → HasType seen.names k
      outside u n (inr d) = absurd (false≢true (sym (or_parts (same_key (plain_key b.item) k) (is_among k (keys_of (body_links ds))) n).1 ∙ d))
      outside u n (inl t) = by_place (type_either seen.names (bound b.item u ∷ []) k t)
        where
          by_place : HasType seen.names k ⊎ HasType (bound b.item u ∷ []) k → HasType seen.names k
          by_place (inl z) = z
          by_place (inr z) = absurd (false≢true (sym (or_parts (same_key (plain_key b.item) k) (is_among k (keys_of (body_links ds))) n).0 ∙ one_typed u z))

      by_body : (u : Ty) (some : Bool) (o : Option Seen) → body_step (map (gives lib) (firsts b.body)) (with_item seen b.item u) ≡ o → option_and_then (λ s. Some (retyped (λ z. ty.Array z some) s)) o ≡ Some given
          → (body_walk ws (seen.names ++ bound b.item u ∷ [])).broken ≡ [] → Contains (without inside (body_uses ds)) k → HasType seen.names k
      by_body u some None e h w d = absurd (none-some _ h)
      by_body u some (Some g) e h w d =
          let r = without_has inside (body_uses ds) k d in
          outside u r.1 (body_used b.body (with_item seen b.item u) g e w k r.0)

      by_layer : (z : Ty-F Ty) → scatter_over b.item (body_step (map (gives lib) (firsts b.body))) seen z ≡ Some given → (scatter_at b.item (body_walk ws) seen.names z).broken ≡ [] → Contains (without inside (body_uses ds)) k
          → HasType seen.names k
      by_layer (type.Array u some) h w d = by_body u some (body_step (map (gives lib) (firsts b.body)) (with_item seen b.item u)) refl h w d
      by_layer z h w d = absurd (none-some _ h)

      by_type : (o : Option Ty) → in_body lib.structs seen.names b.over ≡ o → option_and_then (λ t. scatter_over b.item (body_step (map (gives lib) (firsts b.body))) seen (out-Ty t)) o ≡ Some given
          → (scatter_walk b.item (body_walk ws) seen.names o).broken ≡ [] → Contains (option_list (reference b.over)) k ⊎ Contains (without inside (body_uses ds)) k → HasType seen.names k
      by_type None e h w d = absurd (none-some _ h)
      by_type (Some t) e h w (inl d) = key_typed lib.structs seen.names b.over k t (option_has (reference b.over) k d) e
      by_type (Some t) e h w (inr d) = by_layer (out-Ty t) h w d
  layer_used (layer.If b) seen given h w k c = by_type (in_body lib.structs seen.names b.cond) refl h (Contains-append_cases (option_list (reference b.cond)) (without inside (body_uses ds)) k c)
    where
      ds : List Draft
      ds = map (draft lib processes) (firsts b.body)

      ws : List Walk
      ws = map (walk lib declared) (firsts b.body)

      inside : List Key
      inside = keys_of (body_links ds)

      rest : (body_walk ws seen.names).broken ≡ []
      rest = (both_empty (block_broken lib.structs declared seen.names b.cond b.span) (body_walk ws seen.names).broken w).1

      outside : is_among k inside ≡ false → Found (firsts b.body) seen k → HasType seen.names k
      outside n (inr d) = absurd (false≢true (sym n ∙ d))
      outside n (inl t) = t

      by_body : (o : Option Seen) → body_step (map (gives lib) (firsts b.body)) seen ≡ o → option_and_then (λ s. Some (retyped optional s)) o ≡ Some given → Contains (without inside (body_uses ds)) k → HasType seen.names k
      by_body None e h d = absurd (none-some _ h)
      by_body (Some g) e h d = let r = without_has inside (body_uses ds) k d in outside r.1 (body_used b.body seen g e rest k r.0)

      by_bool : (t : Ty) (c : Bool) → cond c (option_and_then (λ s. Some (retyped optional s)) (body_step (map (gives lib) (firsts b.body)) seen)) None ≡ Some given → Contains (without inside (body_uses ds)) k → HasType seen.names k
      by_bool t true h d = by_body (body_step (map (gives lib) (firsts b.body)) seen) refl h d
      by_bool t false h d = absurd (none-some _ h)

      by_type : (o : Option Ty) → in_body lib.structs seen.names b.cond ≡ o → option_and_then (if_over (body_step (map (gives lib) (firsts b.body))) seen) o ≡ Some given
          → Contains (option_list (reference b.cond)) k ⊎ Contains (without inside (body_uses ds)) k → HasType seen.names k
      by_type None e h d = absurd (none-some _ h)
      by_type (Some t) e h (inl d) = key_typed lib.structs seen.names b.cond k t (option_has (reference b.cond) k d) e
      by_type (Some t) e h (inr d) = by_bool t (is_bool t) h d

  pub uses_typed : (st : Statement) → Uses st
  uses_typed = ind-Statement Uses (λ a y is. subst (λ (z : Statement-F Statement). Uses (roll-Statement z)) is (λ seen given h w k c.
      let typed = ap (λ (g : Giving). g seen) (fold-roll-Statement Giving (statement_step lib) (plain y)) in
      let walked = ap (λ (g : Walk). g seen.names) (fold-roll-Statement Walk (walk_step lib declared) (plain y)) in
      layer_used y seen given (sym typed ∙ h) (sym (ap (λ (z : Walked). z.broken) walked) ∙ w) k
      (subst (λ (d : Draft). Contains d.uses k) (fold-roll-Statement Draft (draft_step lib processes) (plain y)) c)))

  -- ---- wires

  layer_wires : (y : Statement-F Statement) → WiresBy (draft_step lib processes (map-Statement Statement Draft (draft lib processes) y))
  layer_wires (layer.Decl d) = λ scope l c. absurd (none_is l c)
  layer_wires (layer.Call c) = call_wires lib processes c
  layer_wires (layer.Scatter b) = scatter_wires b.number b.item b.over (map (draft lib processes) b.body)
  layer_wires (layer.If b) = if_wires b.number b.cond (map (draft lib processes) b.body)

  pub statement_wires : (st : Statement) → WiresBy (draft lib processes st)
  statement_wires st = subst WiresBy (sym (fold_out-Statement Draft (draft_step lib processes) st)) (layer_wires (out-Statement st))
