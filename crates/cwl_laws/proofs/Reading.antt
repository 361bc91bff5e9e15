-- Wires, and the arguments of a call.
use Rattle.std.proofs.Common.{◌≡◌, ℕ, ◌⊎◌, inl, inr, Bool, true, false, cond, ◌&&◌, List, [], ◌∷◌, ◌++◌, map, Option, Some, None, option_and_then, Ok, Err, Contains, codes, sym, ap, ◌∙◌, subst, refl}
use Rattle.std.proofs.lemmas.Bool.{and_from}
use Rattle.std.proofs.lemmas.List.Elements.{Contains-append_cases}
use Rattle.wdl_base.specs.declared.fault.EvalCode.TheVariants.{TooLarge}
use Rattle.wdl_base.specs.declared.name.Key.{Key}
use Rattle.wdl_value.specs.declared.env.Bind.{Bind}
use Rattle.wdl_value.specs.declared.value.Value.{Value}
use Rattle.wdl_value.specs.Fits.{Structs}
use Rattle.wdl_value.specs.Limits.{is_within}
use Rattle.wdl_value.specs.Outcome.{Outcome}
use Rattle.wdl_typed.specs.declared.expr.TExpr.{TExpr}
use Rattle.wdl_typed.specs.declared.expr.TField.{TField}
use Rattle.wdl_typed.specs.declared.flow.TCall.{TCall}
use Rattle.wdl_typed.specs.declared.scope.Bound.{Bound}
use Rattle.wdl_typed.specs.declared.task.TInput.{TInput}
use Rattle.wdl_typed.specs.Flow.{Known, all_known, arg_bind, args_known, args_met, env_of, named_arg}
use Rattle.wdl_typed.specs.Requests.{Failing, Tried, tried}
use Rattle.cwl_model.specs.declared.process.Link.{Link}
use Rattle.cwl_model.specs.declared.process.Wire.{Wire}
use Rattle.cwl_model.specs.Means.{Named, are_within, named, wired}
use Rattle.cwl_model.specs.Rounds.{Linked}
use Rattle.cwl_model.proofs.Rounds.{first_or_later, none_is}
use Rattle.cwl_image.specs.Image.{Draft, Scope, Targets, args_wired, call_draft, if_draft, link_or, linkage_at, outer_uses, outer_wire, reference, scatter_draft, wire_to}
use Rattle.cwl_laws.specs.Laws.{Fit, FitsAt, Shows}
use Rattle.cwl_laws.specs.Premises.{AreArgs, IsArg, WiresBy}
use Rattle.cwl_laws.proofs.Objects.{IsSeen, is_seen, value_in}
use Rattle.wdl_typed.specs.Bodies.{Library}
use Rattle.wdl_typed.specs.Declarations.{plain_key}

-- ---- wires

to_by : (scope : Scope) (id : List ℕ) (o : Option Key) (l : Link) → Contains (map (λ (w : Wire). w.source) (wire_to scope id o)) l → (key : Key) × (l ≡ link_or (linkage_at scope key))
to_by scope id None l c = absurd (none_is l c)
to_by scope id (Some key) l c = by_case (first_or_later (link_or (linkage_at scope key)) [] l c)
  where
    by_case : (link_or (linkage_at scope key) ≡ l) ⊎ Contains [] l → (key : Key) × (l ≡ link_or (linkage_at scope key))
    by_case (inl q) = (key, sym q)
    by_case (inr d) = absurd (none_is l d)

sources_append : (ws us : List Wire) → map (λ (w : Wire). w.source) (ws ++ us) ≡ map (λ (w : Wire). w.source) ws ++ map (λ (w : Wire). w.source) us
sources_append [] us = refl
sources_append (w ∷ ws) us = ap (λ ls. w.source ∷ ls) (sources_append ws us)

abbrev BySome : Scope → Link → Type 0
BySome scope l = (key : Key) × (l ≡ link_or (linkage_at scope key))

both_by : (scope : Scope) (ws us : List Wire) (l : Link) → (Contains (map (λ (w : Wire). w.source) ws) l → BySome scope l) → (Contains (map (λ (w : Wire). w.source) us) l → BySome scope l)
    → Contains (map (λ (w : Wire). w.source) (ws ++ us)) l → BySome scope l
both_by scope ws us l f g c = by_case (Contains-append_cases (map (λ (w : Wire). w.source) ws) (map (λ (w : Wire). w.source) us) l (subst (λ ls. Contains ls l) (sources_append ws us) c))
  where
    by_case : Contains (map (λ (w : Wire). w.source) ws) l ⊎ Contains (map (λ (w : Wire). w.source) us) l → BySome scope l
    by_case (inl a) = f a
    by_case (inr b) = g b

outer_by : (scope : Scope) (ks : List Key) (l : Link) → Contains (map (λ (w : Wire). w.source) (map (outer_wire scope) ks)) l → BySome scope l
outer_by scope [] l c = absurd (none_is l c)
outer_by scope (k ∷ ks) l c = by_case (λ d. outer_by scope ks l d) (first_or_later (link_or (linkage_at scope k)) (map (λ (w : Wire). w.source) (map (outer_wire scope) ks)) l c)
  where
    by_case : (Contains (map (λ (w : Wire). w.source) (map (outer_wire scope) ks)) l → BySome scope l) → (link_or (linkage_at scope k) ≡ l) ⊎ Contains (map (λ (w : Wire). w.source) (map (outer_wire scope) ks)) l → BySome scope l
    by_case rest (inl q) = (k, sym q)
    by_case rest (inr d) = rest d

args_by : (scope : Scope) (as_ : List (TField TExpr)) (l : Link) → Contains (map (λ (w : Wire). w.source) (args_wired as_ scope)) l → BySome scope l
args_by scope [] l c = absurd (none_is l c)
args_by scope (a ∷ as_) l c = both_by scope (wire_to scope a.name (reference a.value)) (args_wired as_ scope) l (to_by scope a.name (reference a.value) l) (λ d. args_by scope as_ l d) c

pub call_wires : (lib : Library) (processes : Targets) (c : TCall) → WiresBy (call_draft lib processes c)
call_wires lib processes c scope l d = args_by scope c.args l d

pub scatter_wires : (k : ℕ) (item : List ℕ) (over : TExpr) (ds : List Draft) → WiresBy (scatter_draft k item over ds)
scatter_wires k item over ds scope l c =
    both_by scope (wire_to scope item (reference over)) (map (outer_wire scope) (outer_uses (plain_key item ∷ []) ds)) l (to_by scope item (reference over) l) (outer_by scope (outer_uses (plain_key item ∷ []) ds) l) c

pub if_wires : (k : ℕ) (cond_ : TExpr) (ds : List Draft) → WiresBy (if_draft k cond_ ds)
if_wires k cond_ ds scope l c =
    both_by scope (wire_to scope (codes "_when") (reference cond_)) (map (outer_wire scope) (outer_uses [] ds)) l (to_by scope (codes "_when") (reference cond_) l) (outer_by scope (outer_uses [] ds) l) c

-- ---- arguments

module _ (structs : Structs) (bounds : List Bound) (scope : Scope) (inputs : List TInput) (names : List Known) (known : List Linked) (fit : Fit structs bounds names) (shows : Shows scope names known) where
  abbrev pub args_object : (as_ : List (TField TExpr)) → AreArgs structs bounds scope inputs as_ → List Named
  args_object [] h = []
  args_object (a ∷ as_) h = named a.name (value_in names h.0.key) ∷ args_object as_ h.1

  pub arg_seen : (a : TField TExpr) (h : IsArg structs bounds scope inputs a) → IsSeen scope names known h.key
  arg_seen a h = is_seen scope names known shows h.key h.source.0 h.source.1

  pub arg_fit : (a : TField TExpr) (h : IsArg structs bounds scope inputs a) → FitsAt structs bounds h.key (value_in names h.key)
  arg_fit a h = fit h.key (value_in names h.key) (arg_seen a h).name

  pub args_are_known : (as_ : List (TField TExpr)) (h : AreArgs structs bounds scope inputs as_) → args_known names as_ ≡ true
  args_are_known [] h = refl
  args_are_known (a ∷ as_) h = and_from (all_known names a.value) (args_known names as_) (h.0.reads.known names (value_in names h.0.key) (arg_seen a h.0).name) (args_are_known as_ h.1)

  pub args_are_wired : (as_ : List (TField TExpr)) (h : AreArgs structs bounds scope inputs as_) → wired known (args_wired as_ scope) ≡ Some (args_object as_ h)
  args_are_wired [] h = refl
  args_are_wired (a ∷ as_) h =
      ap (λ o. wired known (wire_to scope a.name o ++ args_wired as_ scope)) h.0.reads.refers
      ∙ ap (λ o. option_and_then (λ x. option_and_then (λ ns. Some (named a.name x ∷ ns)) (wired known (args_wired as_ scope))) o) (arg_seen a h.0).link
      ∙ ap (option_and_then (λ ns. Some (named a.name (value_in names h.0.key) ∷ ns))) (args_are_wired as_ h.1)

  abbrev bind_of : Named → Bind
  bind_of n = arg_bind n.id n.value

  -- the arguments' values, or a fault where one passes a limit
  abbrev pub MetBy : Tried (List Bind) → List Named → Type 0
  MetBy o ns = ((are_within ns ≡ true) × (o ≡ Ok (map bind_of ns))) ⊎ ((are_within ns ≡ false) × ((f : Failing) × (o ≡ Err f)))

  pub args_are_met : (as_ : List (TField TExpr)) (h : AreArgs structs bounds scope inputs as_) → MetBy (args_met (env_of names) as_) (args_object as_ h)
  args_are_met [] h = inl (refl, refl)
  args_are_met (a ∷ as_) h =
      subst (λ (o : Outcome Value). MetBy (tried (named_arg a.name o) more) (args_object (a ∷ as_) h)) (sym (h.0.reads.value (env_of names) (value_in names h.0.key) (arg_fit a h.0) (arg_seen a h.0).name))
      (by_limit (is_within (value_in names h.0.key)) refl (args_are_met as_ h.1))
    where
      more : Value → Tried (List Bind)
      more x = tried (args_met (env_of names) as_) (λ bs. Ok (arg_bind a.name x ∷ bs))

      x : Value
      x = value_in names h.0.key

      by_limit : (b : Bool) → is_within (value_in names h.0.key) ≡ b → MetBy (args_met (env_of names) as_) (args_object as_ h.1)
          → MetBy (tried (named_arg a.name (cond b (Ok (value_in names h.0.key)) (Err TooLarge))) more) (named a.name (value_in names h.0.key) ∷ args_object as_ h.1)
      by_limit false e r = inr (ap (λ b. b && are_within (args_object as_ h.1)) e, (_, refl))
      by_limit true e (inl r) =
          inl (
            ap (λ b. b && are_within (args_object as_ h.1)) e ∙ r.0,
            ap (λ o. tried o (λ bs. Ok (arg_bind a.name (value_in names h.0.key) ∷ bs))) r.1,
          )
      by_limit true e (inr r) =
          inr (
            ap (λ b. b && are_within (args_object as_ h.1)) e ∙ r.0,
            (r.1.0, ap (λ o. tried o (λ bs. Ok (arg_bind a.name (value_in names h.0.key) ∷ bs))) r.1.1),
          )
