-- A declaration that goes has no fault, and the chain in its place has its value.
use Rattle.std.proofs.Common.{◌≡◌, ℕ, Bool, true, false, cond, not, ◌&&◌, List, [], ◌∷◌, ◌++◌, append-nil, Option, Some, None, option_and_then, Ok, sym, ap, ◌∙◌, subst, refl}
use Rattle.std.specs.Prelude.{is_none}
use Rattle.std.specs.List.{list_all}
use Rattle.std.proofs.lemmas.Bool.{false≢true, and_from}
use Rattle.wdl_base.specs.declared.name.Key.{Key}
use Rattle.wdl_base.specs.declared.place.Segment.{Segment}
use Rattle.wdl_value.specs.declared.env.Bind.{Bind}
use Rattle.wdl_value.specs.declared.ty.Ty.{Ty, Ty-F, out-Ty, roll-Ty, roll-out-Ty}
use Rattle.wdl_value.specs.declared.ty.Ty.TheOpen as type
use Rattle.wdl_value.specs.declared.ty.Ty.TheVariants as ty
use Rattle.wdl_value.specs.declared.value.Value.{Value, out-Value}
use Rattle.wdl_value.specs.declared.value.Value.TheOpen as value
use Rattle.wdl_value.specs.declared.value.Value.TheVariants as v
use Rattle.wdl_value.specs.Fits.{Structs, fits}
use Rattle.wdl_value.specs.Kinds.{file_at}
use Rattle.wdl_value.specs.Limits.{is_within}
use Rattle.wdl_value.proofs.FitsForms.{a_file}
use Rattle.wdl_typed.specs.declared.expr.TExpr.{TExpr}
use Rattle.wdl_typed.specs.declared.expr.TExpr.TheVariants as e
use Rattle.wdl_typed.specs.declared.scope.Bound.{Bound}
use Rattle.wdl_typed.specs.Declarations.{bound, plain_key}
use Rattle.wdl_typed.specs.Evaluation.{found, settled, value_met, value_of}
use Rattle.wdl_typed.specs.Flow.{Ended, Flowing, Known, all_known, declaration, declared_as, env_of, is_known, known, named, nothing}
use Rattle.wdl_typed.specs.KnownTypes.{is_some}
use Rattle.wdl_typed.specs.Lists.{has_name}
use Rattle.wdl_typed.specs.Requests.{before}
use Rattle.wdl_typed.specs.Scope.{lookup, names_of, type_in}
use Rattle.wdl_swaps.specs.declared.chain.Chain.{Chain}
use Rattle.wdl_swaps.specs.declared.swap.Swap.{Swap}
use Rattle.wdl_swaps.specs.Agreement.{is_found, met_in}
use Rattle.wdl_swaps.specs.Chains.{chain_of, expr_of}
use Rattle.wdl_swaps.specs.Swaps.{swapped}
use Rattle.wdl_swaps.proofs.Names.{names_chain}
use Rattle.leaf_image.specs.Leaves.{or_else}
use Rattle.wdl_eval.specs.Nodes.{within}
use Rattle.flow_laws.proofs.Keys.{key_itself}
use Rattle.flow_soundness.specs.Readiness.{Agrees, FitsSome}
use Rattle.flow_soundness.proofs.Fitting.{some_of}
use Rattle.record_laws.proofs.ChainLaws.{is_chain}
use Rattle.record_laws.proofs.Lookups.{keys_apart, names_append, one_missing}
use Rattle.record_laws.proofs.Paths.{kept_value, met_get, met_nothing}
use Rattle.cwl_records.specs.Aliases.{alias_swap, file_alone, is_source, root_type}
use Rattle.alias_laws.specs.Laws.{file_within}
use Rattle.cwl_records.specs.Types.{hops_type}
use Rattle.alias_laws.proofs.FileLimits.{found_keeps, value_keeps}
use Rattle.alias_laws.proofs.Hiding.{hidden_by}
use Rattle.alias_laws.proofs.Hops.{hops_lead}
use Rattle.alias_laws.proofs.SameSteps.{SameStep}
use Rattle.alias_laws.proofs.Sights.{Clean, Sees, Stands, known_same, met_same, type_stays}
use Rattle.wdl_base.proofs.Options.{then_parts}
use Rattle.wdl_task.proofs.Fit.{type_later as type_back}

file_is : (t : Ty) → file_at (out-Ty t) ≡ true → t ≡ ty.File
file_is t h = by_layer (out-Ty t) refl h
  where
    by_layer : (z : Ty-F Ty) → out-Ty t ≡ z → file_at z ≡ true → t ≡ ty.File
    by_layer type.File e h = sym (roll-out-Ty t) ∙ ap roll-Ty e ∙ ty.rolls-File
    by_layer z e h = absurd (false≢true h)

module _ (structs : Structs) (declared : List (List ℕ)) (bad : List ℕ → Bool) (bad_declared : (n : List ℕ) → has_name n declared ≡ false → bad n ≡ false)
    (bounds : List Bound) (ss : List Swap) (old now : List Known) (sees : Sees (hidden_by bad) declared bounds ss old now) (sound : Agrees structs bounds old) where
  abbrev hidden : Key → Bool
  hidden = hidden_by bad

  -- ---- what a chain begins with

  record Root (key : Key) (t : Ty) : Type 0 where
    pub typed : type_in bounds key ≡ Some t
    pub shown : hidden key ≡ false
    pub small : (x : Value) → lookup (env_of old) key ≡ Some x → is_within x ≡ true

  file_small : (key : Key) (u : Ty) → type_in bounds key ≡ Some u → file_at (out-Ty u) ≡ true → (x : Value) → lookup (env_of old) key ≡ Some x → is_within x ≡ true
  file_small key u typed file x h =
      let some_fits : FitsSome structs (Some u) x = subst (λ (o : Option Ty). FitsSome structs o x) typed (sound key x h) in
      let fit : fits structs x ty.File ≡ true = subst (λ (w : Ty). fits structs x w ≡ true) (file_is u file) some_fits in
      let f = a_file structs x fit in
      let layer : out-Value x ≡ value.File f.0 = ap out-Value f.1 ∙ v.outs-File f.0 in
      sym (ap (file_within x) layer) ∙ (sym (ap value_keeps h) ∙ found_keeps old key sees.files)

  root : (key : Key) (t : Ty) → root_type declared bounds key ≡ Some t → Root key t
  root key t h = by_second key.second refl h
    where
      by_file : (n : List ℕ) → key.second ≡ Some n → (o : Option Ty) → type_in bounds key ≡ o → file_alone o ≡ Some t → Root key t
      by_file n e None i h = absurd (cc)
      by_file n e (Some u) i h = by_test (file_at (out-Ty u)) refl h
        where
          by_test : (b : Bool) → file_at (out-Ty u) ≡ b → (let o : Option Ty = cond b (Some u) None in o ≡ Some t) → Root key t
          by_test true f h = record { typed = i ∙ h; shown = ap (λ (o : Option (List ℕ)). is_none o && bad key.first) e; small = file_small key u i f }
          by_test false f h = absurd (cc)

      by_declared : key.second ≡ None → (b : Bool) → has_name key.first declared ≡ b → cond b None (type_in bounds key) ≡ Some t → Root key t
      by_declared e true i h = absurd (cc)
      by_declared e false i h = record {
        typed = h;
        shown = ap (λ (o : Option (List ℕ)). is_none o && bad key.first) e ∙ bad_declared key.first i;
        small = λ x at. sees.small key x (ap is_none e) i at;
      }

      by_second : (o : Option (List ℕ)) → key.second ≡ o → cond (is_some o) (file_alone (type_in bounds key)) (cond (has_name key.first declared) None (type_in bounds key)) ≡ Some t → Root key t
      by_second (Some n) e h = by_file n e (type_in bounds key) refl h
      by_second None e h = by_declared e (has_name key.first declared) refl h

  -- ---- the declaration and the chain

  module _ (name : List ℕ) (own : Ty) (a : TExpr) (c : Chain) (new : type_in bounds (plain_key name) ≡ None) (dropped : hidden (plain_key name) ≡ true) (chained : chain_of (swapped ss a) ≡ Some c)
      (source : is_source structs declared bounds c ≡ true) (calls : List Ended) (place : List Segment) where
    abbrev made : Flowing
    made = declaration (record { names = old; calls = calls; place = place }) name a

    chain_is : swapped ss a ≡ expr_of c
    chain_is = is_chain (swapped ss a) c chained

    names_are : names_of (swapped ss a) ≡ c.key ∷ []
    names_are = ap names_of chain_is ∙ names_chain c

    -- the type of the root, and of the whole chain
    record Source : Type 0 where
      pub root_ty : Ty
      pub whole_ty : Ty
      pub root : Root c.key root_ty
      pub hops : hops_type structs c.hops root_ty ≡ Some whole_ty

    from : Source
    from =
        let p = some_of (option_and_then (hops_type structs c.hops) (root_type declared bounds c.key)) source in
        let q = then_parts (hops_type structs c.hops) (root_type declared bounds c.key) p.0 p.1 in
        record { root_ty = q.0; whole_ty = p.0; root = root c.key q.0 q.1; hops = q.2 }

    clean : Clean hidden (swapped ss a)
    clean = ap (list_all (λ (k : Key). not (hidden k))) names_are ∙ and_from (not (hidden c.key)) true (ap not from.root.shown) refl

    known_as_root : all_known old a ≡ (is_known now c.key && true)
    known_as_root = known_same hidden declared bounds ss old now sees a clean ∙ ap (list_all (is_known now)) names_are

    met_as_chain : met_in (env_of old) a ≡ met_in (env_of now) (expr_of c)
    met_as_chain = met_same hidden declared bounds ss old now sees a clean ∙ ap (met_in (env_of now)) chain_is

    -- the name has this value, or none, and so has the chain
    record Made (o : Option Value) : Type 0 where
      pub is : made ≡ named (known name o)
      pub value : met_in (env_of now) (expr_of c) ≡ within (found o)
      pub there : is_found (env_of now) c.key ≡ is_some o

    made_none : lookup (env_of now) c.key ≡ None → Made None
    made_none h =
        let unknown : all_known old a ≡ false = known_as_root ∙ ap (λ (o : Option Value). is_some o && true) h in
        record {
          is = ap (λ b. cond b (declared_as place name (value_of (before (env_of old)) a)) (named (known name None))) unknown;
          value = met_nothing (before (env_of now)) c.hops (e.Get c.key) None (met_get (before (env_of now)) c.key ∙ ap (λ (o : Option Value). within (found o)) h);
          there = ap is_some h;
        }

    made_some : (x : Value) → lookup (env_of now) c.key ≡ Some x → (y : Value) × Made (Some y)
    made_some x h =
        let s = from in
        let at_old : lookup (env_of old) c.key ≡ Some x = sym (sees.others c.key s.root.shown) ∙ h in
        let small = s.root.small x at_old in
        let fit : FitsSome structs (Some s.root_ty) x = subst (λ (o : Option Ty). FitsSome structs o x) s.root.typed (sound c.key x at_old) in
        let got : value_met (before (env_of now)) (e.Get c.key) ≡ Ok x = met_get (before (env_of now)) c.key ∙ ap (λ (o : Option Value). within (found o)) h ∙ kept_value x small in
        let l = hops_lead structs (before (env_of now)) c.hops (e.Get c.key) x s.root_ty s.whole_ty got fit small s.hops in
        let there : all_known old a ≡ true = known_as_root ∙ ap (λ (o : Option Value). is_some o && true) h in
        let value_is : value_of (before (env_of old)) a ≡ Ok l.0 = ap settled (met_as_chain ∙ l.1) in (
          l.0,
          record {
            is = ap (λ b. cond b (declared_as place name (value_of (before (env_of old)) a)) (named (known name None))) there ∙ ap (declared_as place name) value_is;
            value = l.1 ∙ sym (kept_value l.0 l.3);
            there = ap is_some h;
          },
        )

    made_known : (o : Option Value) × Made o
    made_known = by_root (lookup (env_of now) c.key) refl
      where
        by_root : (o : Option Value) → lookup (env_of now) c.key ≡ o → (p : Option Value) × Made p
        by_root None h = (None, made_none h)
        by_root (Some x) h = let m = made_some x h in (Some m.0, m.1)

    -- ---- what is seen then

    not_known : lookup (env_of old) (plain_key name) ≡ None
    not_known = by_value (lookup (env_of old) (plain_key name)) refl
      where
        by_value : (o : Option Value) → lookup (env_of old) (plain_key name) ≡ o → o ≡ None
        by_value None h = refl
        by_value (Some x) h =
            let none : FitsSome structs None x = subst (λ (o : Option Ty). FitsSome structs o x) new (sound (plain_key name) x h) in
            absurd none

    one_known : (o : Option Value) → lookup (env_of (known name o ∷ [])) (plain_key name) ≡ o
    one_known None = refl
    one_known (Some x) = ap (λ b. cond b (Some x) None) (key_itself (plain_key name))

    other_known : (o : Option Value) (key : Key) → hidden key ≡ false → lookup (env_of (known name o ∷ [])) key ≡ None
    other_known None key shown = refl
    other_known (Some x) key shown = one_missing (plain_key name) x key (keys_apart hidden (plain_key name) key dropped shown)

    key_is : (o : Option Value) → lookup (env_of (old ++ known name o ∷ [])) (plain_key name) ≡ o
    key_is o = names_append old (known name o ∷ []) (plain_key name) ∙ ap (λ p. or_else p (lookup (env_of (known name o ∷ [])) (plain_key name))) not_known ∙ one_known o

    pub record Aliased (f : Flowing) : Type 0 where
      pub same : SameStep hidden f nothing
      pub stands : Stands hidden (bounds ++ bound name own ∷ []) (env_of (old ++ f.names)) (env_of (now ++ [])) (alias_swap name c)

    aliased_as : (o : Option Value) → Made o → Aliased (named (known name o))
    aliased_as o m =
        let now_is : env_of (now ++ []) ≡ env_of now = ap env_of (append-nil now) in
        record {
          same = record { names = λ key shown. other_known o key shown; calls = refl; told = refl };
          stands = record {
            path = refl;
            gone = dropped;
            shown = from.root.shown;
            value = ap (λ (env : List Bind). met_in env (expr_of c)) now_is ∙ m.value
                ∙ sym (met_get (before (env_of (old ++ known name o ∷ []))) (plain_key name) ∙ ap (λ (p : Option Value). within (found p)) (key_is o));
            known = ap (λ (env : List Bind). is_found env c.key) now_is ∙ m.there ∙ sym (ap is_some (key_is o));
            key_seen = ap is_some (type_back bounds (bound name own ∷ []) (plain_key name) new ∙ ap (λ b. cond b (Some own) None) (key_itself (plain_key name)));
            root_seen = type_stays bounds (bound name own ∷ []) c.key (ap is_some from.root.typed);
          };
        }

    -- The declaration has no fault, and gives a name that is hidden; the chain stands for it.
    pub aliased : Aliased made
    aliased = subst Aliased (sym made_known.1.is) (aliased_as made_known.0 made_known.1)
