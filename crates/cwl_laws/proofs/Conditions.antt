-- Conditions and steps with `when`.
use Rattle.std.proofs.Common.{◌≡◌, ℕ, nat_le, ◌⊎◌, inl, inr, Bool, true, false, cond, ◌||◌, List, [], ◌∷◌, ◌++◌, map, Some, None, option_and_then, Ok, Err, Contains, sym, ap, ◌∙◌, subst, refl}
use Rattle.std.specs.Str.{bytes_eq}
use Rattle.std.proofs.lemmas.Bool.{false≢true, and_from, or_parts}
use Rattle.std.proofs.lemmas.Slice.Eq.{bytes_eq-Decides}
use Rattle.wdl_base.specs.declared.fault.EvalCode.TheVariants.{TooLarge}
use Rattle.wdl_base.specs.declared.name.Key.{Key}
use Rattle.wdl_base.specs.declared.place.Segment.{Segment}
use Rattle.wdl_base.specs.declared.place.Segment.TheVariants as segment
use Rattle.wdl_value.specs.declared.ty.Ty.{fold-roll-Ty}
use Rattle.wdl_value.specs.declared.ty.Ty.TheVariants as ty
use Rattle.wdl_value.specs.declared.ty.Ty.TheOpen as shape
use Rattle.wdl_value.specs.declared.value.Value.{Value, Value-F, out-Value, roll-Value, roll-out-Value, fold-roll-Value}
use Rattle.wdl_value.specs.declared.value.Value.TheVariants as v
use Rattle.wdl_value.specs.declared.value.Value.TheOpen as value
use Rattle.wdl_value.specs.Fits.{Structs}
use Rattle.wdl_value.specs.Limits.{is_short, is_within, limited, short_step}
use Rattle.wdl_value.specs.Outcome.{Outcome}
use Rattle.wdl_value.specs.Size.{size, size_step}
use Rattle.wdl_value.specs.Parts.{bool_at, bool_in}
use Rattle.wdl_typed.specs.declared.expr.TExpr.{TExpr}
use Rattle.wdl_typed.specs.declared.scope.Bound.{Bound}
use Rattle.wdl_typed.specs.Evaluation.{value_of}
use Rattle.wdl_typed.specs.Flow.{Flowing, Known, Names, Runner, Sight, all_known, chosen, conditional, each_key, env_of, if_run, in_turn, inside, missing, seeing, with_count}
use Rattle.wdl_typed.specs.Requests.{before}
use Rattle.wdl_typed.specs.Scope.{lookup, same_key}
use Rattle.cwl_model.specs.declared.process.CwlFlow.{CwlFlow}
use Rattle.cwl_model.specs.declared.process.Mode.TheVariants as mode
use Rattle.cwl_model.specs.declared.process.Link.TheVariants as link
use Rattle.cwl_model.specs.declared.tool.CwlIn.{CwlIn}
use Rattle.cwl_model.specs.declared.ty.CwlTy.{CwlTy, CwlTy-F, out-CwlTy, roll-CwlTy, roll-out-CwlTy, fold-roll-CwlTy}
use Rattle.cwl_model.specs.declared.ty.CwlTy.TheVariants as cwl
use Rattle.cwl_model.specs.declared.ty.CwlTy.TheOpen as type
use Rattle.cwl_model.specs.Means.{Ground, Named, Running, Test, all_taken, are_typed, each_null, flow_means, given_or, given_outputs, has_type, input_links, mode_means, named, or_null, step_means, taken, typed_at, value_at, when_means, wired, wired_means}
use Rattle.cwl_model.specs.Rounds.{Linked, known_value}
use Rattle.cwl_model.proofs.Rounds.{first_is, first_or_later, later_is, none_is, or_else}
use Rattle.cwl_image.specs.Image.{Draft, Linkage, Output, Scope, block_out, block_output, body_items, body_links, body_steps, id_of, if_draft, inner_scope, input_of, linkage_of, links_of, null_at, null_type, out_id, outer_uses, outer_wire, reference, step_of, type_of, type_step, when_input, wire_to}
use Rattle.cwl_laws.specs.Laws.{Agrees, AllNew, AllSimulate, Fit, FitsAt, Given, New, NewItems, Shows, Simulates, all_running, as_running, has_key}
use Rattle.cwl_laws.specs.Premises.{IsCondition, when_id}
use Rattle.cwl_laws.proofs.Blocks.{block_agrees, running_flow}
use Rattle.cwl_laws.proofs.Bodies.{lookup_append}
use Rattle.cwl_laws.proofs.Objects.{IsSeen, given_same, inner_shows, is_seen, keys_known, keys_typed, value_in, value_under, wired_keys}
use Rattle.flow_soundness.proofs.Shapes.{none_lookup as each_missing}
use Rattle.flow_soundness.proofs.NewNames.{same_key-refl as same_itself}

-- ---- types

null_is : (t : CwlTy) (x : Value) → has_type (cwl.Null t) x ≡ typed_at (type.Null (has_type t)) x (out-Value x)
null_is t x =
    ap (λ u. has_type u x) (sym (cwl.rolls-Null t))
    ∙ ap (λ (p : Test). p x) (fold-roll-CwlTy Test (λ t x. typed_at t x (out-Value x)) (type.Null t))

pub bool_is : (x : Value) → has_type cwl.Bool x ≡ typed_at type.Bool x (out-Value x)
bool_is x =
    ap (λ u. has_type u x) (sym cwl.rolls-Bool)
    ∙ ap (λ (p : Test). p x) (fold-roll-CwlTy Test (λ t x. typed_at t x (out-Value x)) type.Bool)

a_bool : (x : Value) → has_type cwl.Bool x ≡ true → (b : Bool) × (x ≡ v.Bool b)
a_bool x h = by_layer (out-Value x) refl (sym (bool_is x) ∙ h)
  where
    by_layer : (y : Value-F Value) → out-Value x ≡ y → typed_at type.Bool x y ≡ true → (b : Bool) × (x ≡ v.Bool b)
    by_layer (value.Bool b) e h = (b, sym (roll-out-Value x) ∙ ap roll-Value e ∙ v.rolls-Bool b)
    by_layer y e h = absurd (false≢true h)

pub null_takes : (t : CwlTy) (x : Value) → has_type t x ≡ true → has_type (cwl.Null t) x ≡ true
null_takes t x h = null_is t x ∙ by_layer (out-Value x)
  where
    by_layer : (y : Value-F Value) → typed_at (type.Null (has_type t)) x y ≡ true
    by_layer value.Absent = refl
    by_layer y = h

pub absent_at : (t : CwlTy) → has_type (cwl.Null t) v.Absent ≡ true
absent_at t = null_is t v.Absent ∙ ap (typed_at (type.Null (has_type t)) v.Absent) v.outs-Absent

null_typed : (t : CwlTy) (x : Value) → has_type t x ≡ true → has_type (null_type t) x ≡ true
null_typed t x h = by_layer (out-CwlTy t)
  where
    by_layer : (u : CwlTy-F CwlTy) → has_type (null_at t u) x ≡ true
    by_layer (type.Null u) = h
    by_layer u = null_takes t x h

absent_typed : (t : CwlTy) → has_type (null_type t) v.Absent ≡ true
absent_typed t = by_layer (out-CwlTy t) refl
  where
    by_layer : (u : CwlTy-F CwlTy) → out-CwlTy t ≡ u → has_type (null_at t u) v.Absent ≡ true
    by_layer (type.Null u) e = ap (λ w. has_type w v.Absent) (sym (roll-out-CwlTy t) ∙ ap roll-CwlTy e ∙ cwl.rolls-Null u) ∙ absent_at u
    by_layer u e = absent_at t

-- ---- outputs of a block

null_given : (ls : List Linkage) (names : List Known) (ns : List Named) → Given (map (block_output (λ t. t)) ls) names ns → Given (map (block_output null_type) ls) names ns
null_given [] names ns h = tt
null_given (l ∷ ls) names ns h = ((h.0.0, h.0.1, h.0.2, null_typed l.ty h.0.0 h.0.3), null_given ls names ns h.1)

pub new_link : (f : CwlTy → CwlTy) (ls : List Linkage) (names : List Known) → New (map (block_output f) ls) names → (l : Linkage) → Contains ls l → lookup (env_of names) l.key ≡ None
new_link f [] names h l c = absurd (none_is l c)
new_link f (m ∷ ls) names h l c = by_case (λ d. new_link f ls names h.1 l d) (first_or_later m ls l c)
  where
    by_case : (Contains ls l → lookup (env_of names) l.key ≡ None) → (m ≡ l) ⊎ Contains ls l → lookup (env_of names) l.key ≡ None
    by_case rest (inl e) = ap (λ (z : Linkage). lookup (env_of names) z.key) (sym e) ∙ h.0
    by_case rest (inr d) = rest d

new_split : (f : CwlTy → CwlTy) (step : List ℕ) (os : List Output) (ls : List Linkage) (names : List Known) → New (map (block_output f) (map (linkage_of step) os ++ ls)) names
    → New os names × New (map (block_output f) ls) names
new_split f step [] ls names h = (tt, h)
new_split f step (o ∷ os) ls names h = let r = new_split f step os ls names h.1 in ((h.0, r.0), r.1)

pub items_split : (ks ls : List Key) (names : List Known) → NewItems (ks ++ ls) names → NewItems ks names × NewItems ls names
items_split [] ls names h = (tt, h)
items_split (k ∷ ks) ls names h = let r = items_split ks ls names h.1 in ((h.0, r.0), r.1)

pub all_new : (f : CwlTy → CwlTy) (ds : List Draft) (names : List Known) → New (map (block_output f) (body_links ds)) names → NewItems (body_items ds) names → AllNew ds names
all_new f [] names h i = tt
all_new f (d ∷ ds) names h i =
    let r = new_split f d.id d.outs (body_links ds) names h in
    let q = items_split d.items (body_items ds) names i in
    ((r.0, q.0), all_new f ds names r.1 q.1)

-- ---- names that are not given

key_split : (f : CwlTy → CwlTy) (step : List ℕ) (os : List Output) (ls : List Linkage) (key : Key) → has_key (map (block_output f) (map (linkage_of step) os ++ ls)) key ≡ false
    → (has_key os key ≡ false) × (has_key (map (block_output f) ls) key ≡ false)
key_split f step [] ls key h = (refl, h)
key_split f step (o ∷ os) ls key h =
    let p = or_parts (same_key o.key key) (has_key (map (block_output f) (map (linkage_of step) os ++ ls)) key) h in
    let r = key_split f step os ls key p.1 in
    (or_both (same_key o.key key) (has_key os key) p.0 r.0, r.1)
  where
    or_both : (a b : Bool) → a ≡ false → b ≡ false → (a || b) ≡ false
    or_both a b h k = ap (λ x. x || b) h ∙ k

pub turn_own : (g : Ground) (structs : Structs) (seen after : List Bound) (f : CwlTy → CwlTy) (fs : List Runner) (ds : List Draft) (scope : Scope) (s : Sight) → AllSimulate g structs seen scope fs ds after → (key : Key)
    → has_key (map (block_output f) (body_links ds)) key ≡ false → lookup (env_of (in_turn fs s).names) key ≡ None
turn_own g structs seen after f [] [] scope s all key h = refl
turn_own g structs seen after f [] (d ∷ ds) scope s all key h = absurd all
turn_own g structs seen after f (r ∷ fs) [] scope s all key h = absurd all
turn_own g structs seen after f (r ∷ fs) (d ∷ ds) scope s all key h =
    let p = key_split f d.id d.outs (body_links ds) key h in
    let next = seeing s (r s) in
    lookup_append (r s).names (in_turn fs next).names key
    ∙ ap (λ o. or_else o (lookup (env_of (in_turn fs next).names) key)) (all.2.own s key p.0)
    ∙ turn_own g structs (seen ++ all.0) after f fs ds (scope ++ links_of d) next all.3 key p.1

each_other : (f : CwlTy → CwlTy) (ls : List Linkage) (x : Value) (key : Key) → has_key (map (block_output f) ls) key ≡ false
    → lookup (env_of (each_key (Some x) (map (λ (l : Linkage). l.key) ls))) key ≡ None
each_other f [] x key h = refl
each_other f (l ∷ ls) x key h =
    let p = or_parts (same_key l.key key) (has_key (map (block_output f) ls) key) h in
    ap (λ b. cond b (Some x) (lookup (env_of (each_key (Some x) (map (λ (l : Linkage). l.key) ls))) key)) p.0 ∙ each_other f ls x key p.1

each_value : (ks : List Key) (x : Value) (key : Key) → Contains ks key → lookup (env_of (each_key (Some x) ks)) key ≡ Some x
each_value [] x key c = absurd (none_is key c)
each_value (k ∷ ks) x key c = by_test (λ d. each_value ks x key d) (same_key k key) refl (first_or_later k ks key c)
  where
    by_test : (Contains ks key → lookup (env_of (each_key (Some x) ks)) key ≡ Some x) → (b : Bool) → same_key k key ≡ b → (k ≡ key) ⊎ Contains ks key
        → cond b (Some x) (lookup (env_of (each_key (Some x) ks)) key) ≡ Some x
    by_test rest true e d = refl
    by_test rest false e (inl s) = absurd (false≢true (sym e ∙ ap (λ j. same_key j key) s ∙ same_itself key))
    by_test rest false e (inr d) = rest d

null_value : (ids : List (List ℕ)) (id : List ℕ) → Contains ids id → value_at (each_null ids) id ≡ Some v.Absent
null_value [] id c = absurd (none_is id c)
null_value (i ∷ ids) id c = by_test (λ d. null_value ids id d) (bytes_eq i id) refl (first_or_later i ids id c)
  where
    by_test : (Contains ids id → value_at (each_null ids) id ≡ Some v.Absent) → (b : Bool) → bytes_eq i id ≡ b → (i ≡ id) ⊎ Contains ids id
        → cond b (Some v.Absent) (value_at (each_null ids) id) ≡ Some v.Absent
    by_test rest true e d = refl
    by_test rest false e (inl s) = absurd (false≢true (sym e ∙ (bytes_eq-Decides i id).1 s))
    by_test rest false e (inr d) = rest d

nulls_given : (all ls : List Linkage) → ((key : Key) → Contains (map (λ (l : Linkage). l.key) ls) key → Contains (map (λ (l : Linkage). l.key) all) key)
    → ((id : List ℕ) → Contains (map out_id (map (block_output null_type) ls)) id → Contains (map out_id (map (block_output null_type) all)) id)
    → Given (map (block_output null_type) ls) (each_key (Some v.Absent) (map (λ (l : Linkage). l.key) all)) (each_null (map out_id (map (block_output null_type) all)))
nulls_given all [] keys ids = tt
nulls_given all (l ∷ ls) keys ids = (
  (
    v.Absent,
    each_value (map (λ (l : Linkage). l.key) all) v.Absent l.key (keys l.key (first_is l.key (map (λ (l : Linkage). l.key) ls))),
    null_value (map out_id (map (block_output null_type) all)) (id_of l.key) (ids (id_of l.key) (first_is (id_of l.key) (map out_id (map (block_output null_type) ls)))),
    absent_typed l.ty,
  ),
  nulls_given all ls (λ k c. keys k (later_is l.key (map (λ (l : Linkage). l.key) ls) k c)) (λ i c. ids i (later_is (id_of l.key) (map out_id (map (block_output null_type) ls)) i c)),
)

-- ---- conditions

bool_type : type_of ty.Bool ≡ cwl.Bool
bool_type = ap type_of (sym ty.rolls-Bool) ∙ fold-roll-Ty CwlTy type_step shape.Bool

bool_limited : (b : Bool) → limited (v.Bool b) ≡ Ok (v.Bool b)
bool_limited b = ap (λ w. cond w (Ok (v.Bool b)) (Err TooLarge)) (within b)
  where
    within : (b : Bool) → is_within (v.Bool b) ≡ true
    within b =
        and_from (nat_le (size (v.Bool b)) 4194304) (is_short (v.Bool b))
        (ap (λ n. nat_le n 4194304) (ap size (sym (v.rolls-Bool b)) ∙ fold-roll-Value ℕ size_step (value.Bool b)))
        (ap is_short (sym (v.rolls-Bool b)) ∙ fold-roll-Value Bool short_step (value.Bool b))

module _ (g : Ground) (structs : Structs) (bounds : List Bound) (scope : Scope) (n : Names) (fs : List Runner) (m k : ℕ) (e : TExpr) (key : Key) (ds : List Draft)
    (is : IsCondition g structs bounds scope n fs k e key ds) where
  abbrev Body : Runner
  Body s = with_count m (in_turn fs s)

  abbrev Outs : List Output
  Outs = map (block_output null_type) (body_links ds)

  -- ---- names

  chosen_own : (s : Sight) (b : Bool) (j : Key) → has_key Outs j ≡ false → lookup (env_of (chosen n Body s k b).names) j ≡ None
  chosen_own s true j h = turn_own g structs bounds is.inner.after null_type fs ds (inner_scope scope (outer_uses [] ds)) (inside s (segment.If k)) is.inner.all j h
  chosen_own s false j h = ap (λ ks. lookup (env_of (each_key (Some v.Absent) ks)) j) is.keys ∙ each_other null_type (body_links ds) v.Absent j h

  outcome_own : (s : Sight) (o : Outcome Value) (j : Key) → has_key Outs j ≡ false → lookup (env_of (conditional n Body s k o).names) j ≡ None
  outcome_own s (Ok x) j h = chosen_own s (bool_in x) j h
  outcome_own s (Err c) j h = each_missing n.keys j

  if_own : (s : Sight) (j : Key) → has_key Outs j ≡ false → lookup (env_of (if_run n Body k e s).names) j ≡ None
  if_own s j h = by_test (all_known s.names e)
    where
      by_test : (b : Bool) → lookup (env_of (cond b (conditional n Body s k (value_of (before (env_of s.names)) e)) (missing n)).names) j ≡ None
      by_test true = outcome_own s (value_of (before (env_of s.names)) e) j h
      by_test false = each_missing n.keys j

  -- ---- the step

  module _ (s : Sight) (known : List Linked) (fit : Fit structs bounds s.names) (shows : Shows scope s.names known) (new : New Outs s.names) (items : NewItems (body_items ds) s.names) where
    seen : (j : Key) → Contains (outer_uses [] ds) j → IsSeen scope s.names known j
    seen j c = let r = is.used j c in is_seen scope s.names known shows j r.0 r.1

    -- with the condition's value
    chosen_agrees : (b : Bool) → Agrees Outs (chosen n Body s k b)
        (when_means (as_running g (step_of (if_draft k e ds) scope)) (s.place ++ segment.If k ∷ []) (named when_id (v.Bool b) ∷ map (λ j. named (id_of j) (value_in s.names j)) (outer_uses [] ds)) (value.Bool b))
    chosen_agrees false =
        record {
          clean = refl;
          jobs = λ h. refl;
          given = λ h.
              subst (λ ks. Given Outs (each_key (Some v.Absent) ks) (each_null (map out_id Outs))) (sym is.keys)
              (nulls_given (body_links ds) (body_links ds) (λ j c. c) (λ i c. c));
        }
    chosen_agrees true = subst (Agrees Outs (Body (inside s (segment.If k)))) (sym opened) (from_block inside_agrees)
      where
        object : List Named
        object = named when_id (v.Bool true) ∷ map (λ j. named (id_of j) (value_in s.names j)) (outer_uses [] ds)

        ins : List CwlIn
        ins = when_input ∷ map input_of (inner_scope scope (outer_uses [] ds))

        place : List Segment
        place = s.place ++ segment.If k ∷ []

        flow_process_is : CwlFlow Running
        flow_process_is = record { inputs = ins; outputs = map block_out (body_links ds); steps = all_running g (body_steps ds (inner_scope scope (outer_uses [] ds))) }

        opened : when_means (as_running g (step_of (if_draft k e ds) scope)) place object (value.Bool true) ≡ flow_means flow_process_is false place object
        opened = ap (λ (r : Running). r false place object) (running_flow g ins (map block_out (body_links ds)) (body_steps ds (inner_scope scope (outer_uses [] ds))))

        has : (j : Key) → Contains (outer_uses [] ds) j → value_at object (id_of j) ≡ Some (value_in s.names j)
        has j c =
            ap (λ b. cond b (Some (v.Bool true)) (value_at (map (λ j. named (id_of j) (value_in s.names j)) (outer_uses [] ds)) (id_of j))) (is.apart j c)
            ∙ value_under scope s.names known (outer_uses [] ds) seen is.ids (outer_uses [] ds) (λ i d. d) j c

        when_value : value_at object when_id ≡ Some (v.Bool true)
        when_value = ap (λ b. cond b (Some (v.Bool true)) (value_at (map (λ j. named (id_of j) (value_in s.names j)) (outer_uses [] ds)) when_id)) ((bytes_eq-Decides when_id when_id).1 refl)

        when_taken : (taken object when_input).value ≡ v.Bool true
        when_taken = ap (λ o. given_or o None) when_value ∙ given_same (v.Bool true)

        typed : are_typed object ins ≡ true
        typed =
            and_from (has_type cwl.Bool (taken object when_input).value) (are_typed object (map input_of (inner_scope scope (outer_uses [] ds))))
            (ap (has_type cwl.Bool) when_taken ∙ bool_is (v.Bool true) ∙ ap (typed_at type.Bool (v.Bool true)) (v.outs-Bool true))
            (keys_typed scope s.names known (outer_uses [] ds) seen is.ids object has (outer_uses [] ds) (λ i d. d))

        inner_known : (j : Key) → Contains (outer_uses [] ds) j → known_value (input_links (all_taken object ins)) (link.Input (id_of j)) ≡ Some (value_in s.names j)
        inner_known j c =
            ap (λ b. cond b (Some (taken object when_input).value) (known_value (input_links (all_taken object (map input_of (inner_scope scope (outer_uses [] ds))))) (link.Input (id_of j)))) (is.apart j c)
            ∙ keys_known scope s.names known (outer_uses [] ds) seen is.ids object has (outer_uses [] ds) (λ i d. d) j c

        inside_agrees : Agrees (map (block_output (λ t. t)) (body_links ds)) (in_turn fs (inside s (segment.If k))) (flow_means flow_process_is false place object)
        inside_agrees =
            block_agrees g structs bounds fs ds (inner_scope scope (outer_uses [] ds)) ins is.inner (inside s (segment.If k)) object typed fit
            (inner_shows scope s.names known (outer_uses [] ds) seen is.ids (input_links (all_taken object ins)) inner_known)
            (all_new null_type ds s.names new items) (new_link null_type (body_links ds) s.names new)

        from_block : Agrees (map (block_output (λ t. t)) (body_links ds)) (in_turn fs (inside s (segment.If k))) (flow_means flow_process_is false place object)
            → Agrees Outs (Body (inside s (segment.If k))) (flow_means flow_process_is false place object)
        from_block a =
            record {
              clean = a.clean;
              jobs = λ h. a.jobs h;
              given = λ h. null_given (body_links ds) (in_turn fs (inside s (segment.If k))).names (given_outputs (flow_means flow_process_is false place object).outputs) (a.given h);
            }

    if_agrees : Agrees Outs (if_run n Body k e s) (step_means s.place known (as_running g (step_of (if_draft k e ds) scope)))
    if_agrees = by_bool (a_bool (value_in s.names key) (sym (ap (λ t. has_type t (value_in s.names key)) bool_type) ∙ is.reads.typed (value_in s.names key) cond_fit))
      where
        cond_seen : IsSeen scope s.names known key
        cond_seen = is_seen scope s.names known shows key is.source.0 is.source.1

        cond_fit : FitsAt structs bounds key (value_in s.names key)
        cond_fit = fit key (value_in s.names key) cond_seen.name

        wires_are : wired known (wire_to scope when_id (reference e) ++ map (outer_wire scope) (outer_uses [] ds))
            ≡ Some (named when_id (value_in s.names key) ∷ map (λ j. named (id_of j) (value_in s.names j)) (outer_uses [] ds))
        wires_are =
            ap (λ o. wired known (wire_to scope when_id o ++ map (outer_wire scope) (outer_uses [] ds))) is.reads.refers
            ∙ ap (λ o. option_and_then (λ x. option_and_then (λ ns. Some (named when_id x ∷ ns)) (wired known (map (outer_wire scope) (outer_uses [] ds)))) o) cond_seen.link
            ∙ ap (option_and_then (λ ns. Some (named when_id (value_in s.names key) ∷ ns))) (wired_keys scope s.names known (outer_uses [] ds) seen is.ids (outer_uses [] ds) (λ i d. d))

        object_of : Value → List Named
        object_of x = named when_id x ∷ map (λ j. named (id_of j) (value_in s.names j)) (outer_uses [] ds)

        by_bool : (b : Bool) × (value_in s.names key ≡ v.Bool b) → Agrees Outs (if_run n Body k e s) (step_means s.place known (as_running g (step_of (if_draft k e ds) scope)))
        by_bool r =
            let b = r.0 in
            let run_is : if_run n Body k e s ≡ chosen n Body s k b =
            ap (λ w. cond w (conditional n Body s k (value_of (before (env_of s.names)) e)) (missing n)) (is.reads.known s.names (value_in s.names key) cond_seen.name)
            ∙ ap (conditional n Body s k) (is.reads.value (env_of s.names) (value_in s.names key) cond_fit cond_seen.name ∙ ap limited r.1 ∙ bool_limited b)
            ∙ ap (λ (y : Value-F Value). chosen n Body s k (bool_at y)) (v.outs-Bool b) in
            let means_is : step_means s.place known (as_running g (step_of (if_draft k e ds) scope))
            ≡ when_means (as_running g (step_of (if_draft k e ds) scope)) (s.place ++ segment.If k ∷ []) (named when_id (v.Bool b) ∷ map (λ j. named (id_of j) (value_in s.names j)) (outer_uses [] ds)) (value.Bool b) =
            ap (wired_means s.place (as_running g (step_of (if_draft k e ds) scope))) (wires_are ∙ ap (λ x. Some (object_of x)) r.1)
            ∙ ap (λ w. mode_means (as_running g (step_of (if_draft k e ds) scope)) mode.When (s.place ++ w ∷ []) (object_of (v.Bool b))) is.place
            ∙ ap (λ o. when_means (as_running g (step_of (if_draft k e ds) scope)) (s.place ++ segment.If k ∷ []) (object_of (v.Bool b)) (out-Value (or_null o)))
            (ap (λ w. cond w (Some (v.Bool b)) (value_at (map (λ j. named (id_of j) (value_in s.names j)) (outer_uses [] ds)) when_id)) ((bytes_eq-Decides when_id when_id).1 refl))
            ∙ ap (λ y. when_means (as_running g (step_of (if_draft k e ds) scope)) (s.place ++ segment.If k ∷ []) (object_of (v.Bool b)) y) (v.outs-Bool b) in
            subst (λ (f : Flowing). Agrees Outs f (step_means s.place known (as_running g (step_of (if_draft k e ds) scope)))) (sym run_is)
            (subst (Agrees Outs (chosen n Body s k b)) (sym means_is) (chosen_agrees b))

  pub if_simulates : Simulates g structs bounds scope (if_run n Body k e) (if_draft k e ds)
  if_simulates = record { own = if_own; agrees = if_agrees }
