-- The flow of a block.
use Rattle.std.proofs.Common.{◌≡◌, ℕ, ◌⊎◌, inl, inr, Bool, true, false, cond, not, ◌&&◌, List, [], ◌∷◌, ◌++◌, map, Option, Some, None, option_and_then, Contains, sym, ap, ◌∙◌, subst, refl}
use Rattle.std.specs.List.{list_all}
use Rattle.std.specs.Str.{bytes_eq}
use Rattle.std.proofs.lemmas.Bool.{false≢true, and_from, or_parts}
use Rattle.std.proofs.lemmas.List.Elements.{Contains-append_cases}
use Rattle.std.proofs.lemmas.Slice.Eq.{bytes_eq-Decides}
use Rattle.std.proofs.lemmas.Option.{none-some, same_Some}
use Rattle.wdl_base.specs.declared.name.Key.{Key}
use Rattle.wdl_value.specs.declared.value.Value.{Value}
use Rattle.wdl_value.specs.Fits.{Structs}
use Rattle.wdl_typed.specs.declared.scope.Bound.{Bound}
use Rattle.wdl_typed.specs.Flow.{Known, Runner, Sight, env_of, in_turn, is_clean}
use Rattle.wdl_typed.specs.Scope.{lookup, same_key}
use Rattle.cwl_model.specs.declared.process.CwlFlow.{CwlFlow}
use Rattle.cwl_model.specs.declared.process.CwlStep.{CwlStep}
use Rattle.cwl_model.specs.declared.process.FlowOut.{FlowOut}
use Rattle.cwl_model.specs.declared.process.Link.{Link}
use Rattle.cwl_model.specs.declared.process.Link.TheVariants as link
use Rattle.cwl_model.specs.declared.process.Process.{Process, fold-roll-Process}
use Rattle.cwl_model.specs.declared.process.Process.TheVariants as process
use Rattle.cwl_model.specs.declared.process.Process.TheOpen as layer
use Rattle.cwl_model.specs.declared.tool.CwlIn.{CwlIn}
use Rattle.cwl_model.specs.Laws.{Apart, IsRunnable, StepsInOnePass, in_order, is_of, owned, pass_means, sources_of}
use Rattle.cwl_model.specs.Means.{Ground, Meaning, Named, Running, all_taken, are_typed, flow_gives, flow_means, given_outputs, incomplete, input_links, is_given, known_at_last, named, or_null, output_taken, outputs_taken, process_step, running, step_means, value_at}
use Rattle.cwl_model.specs.Rounds.{Linked, known_value}
use Rattle.cwl_model.proofs.Passes.{flows_in_one_pass, no_owner}
use Rattle.cwl_model.proofs.Rounds.{first_is, first_or_later, later_is, none_is, or_else}
use Rattle.cwl_image.specs.Image.{Draft, Linkage, Output, Scope, block_out, block_output, body_links, body_steps, flow_process, id_of, linkage_at, linkage_of, links_of, link_or, step_of}
use Rattle.cwl_laws.specs.Laws.{Agrees, AllNew, BodyAgrees, Fit, Given, Shown, Shows, all_running, as_running}
use Rattle.cwl_laws.specs.Premises.{AllWires, IdsDiffer, IsInner}
use Rattle.cwl_laws.proofs.Bodies.{bodies_agree, lookup_append}

pub running_flow : (g : Ground) (ins : List CwlIn) (outs : List FlowOut) (steps : List (CwlStep Process))
    → running g (flow_process ins outs steps) ≡ flow_means (record { inputs = ins; outputs = outs; steps = all_running g steps })
running_flow g ins outs steps =
    ap (running g) (sym (process.rolls-Flow (record { inputs = ins; outputs = outs; steps = steps })))
    ∙ fold-roll-Process Running (process_step g) (layer.Flow (record { inputs = ins; outputs = outs; steps = steps }))

-- ---- steps that stand by their sources

pub all_from : {A : Type 0} (p : A → Bool) (xs : List A) → ((x : A) → Contains xs x → p x ≡ true) → list_all p xs ≡ true
all_from p [] h = refl
all_from p (x ∷ xs) h = and_from (p x) (list_all p xs) (h x (first_is x xs)) (all_from p xs (λ y c. h y (later_is x xs y c)))

pub linkage_in : (scope : Scope) (key : Key) (l : Linkage) → linkage_at scope key ≡ Some l → Contains scope l
linkage_in [] key l h = absurd (none-some _ h)
linkage_in (m ∷ scope) key l h = by_test (λ e. linkage_in scope key l e) (same_key m.key key) h
  where
    by_test : (linkage_at scope key ≡ Some l → Contains scope l) → (b : Bool) → cond b (Some m) (linkage_at scope key) ≡ Some l → Contains (m ∷ scope) l
    by_test rest true e = subst (λ (z : Linkage). Contains (m ∷ scope) z) (same_Some _ _ e) (first_is m scope)
    by_test rest false e = later_is m scope l (rest e)

-- Nothing in the scope is an output of these steps.
abbrev pub AllFree : Scope → List (CwlStep Running) → Type 0
AllFree scope ss = (l : Linkage) → Contains scope l → owned is_of ss l.link ≡ false

links_out : (step : List ℕ) (os : List Output) (l : Linkage) → Contains (map (linkage_of step) os) l → (o : List ℕ) × (l.link ≡ link.Out step o)
links_out step [] l c = absurd (none_is l c)
links_out step (o ∷ os) l c = by_case (λ d. links_out step os l d) (first_or_later (linkage_of step o) (map (linkage_of step) os) l c)
  where
    by_case : (Contains (map (linkage_of step) os) l → (p : List ℕ) × (l.link ≡ link.Out step p)) → (linkage_of step o ≡ l) ⊎ Contains (map (linkage_of step) os) l → (p : List ℕ) × (l.link ≡ link.Out step p)
    by_case rest (inl e) = (o.id, ap (λ (z : Linkage). z.link) (sym e))
    by_case rest (inr d) = rest d

module _ (g : Ground) where
  pub steps_in_order : (ds : List Draft) (scope : Scope) → AllWires ds → AllFree scope (all_running g (body_steps ds scope)) → Apart is_of (all_running g (body_steps ds scope))
      → in_order sources_of is_of (all_running g (body_steps ds scope)) ≡ true
  steps_in_order [] scope wires free apart = refl
  steps_in_order (d ∷ ds) scope wires free apart =
      and_from (list_all (λ l. not (owned is_of (step ∷ later) l)) (sources_of step)) (in_order sources_of is_of later)
      (all_from (λ l. not (owned is_of (step ∷ later) l)) (sources_of step) (λ l c. ap not (source_free l (wires.0 scope l c))))
      (steps_in_order ds (scope ++ links_of d) wires.1 (λ l c. free_then l (Contains-append_cases scope (links_of d) l c)) apart.1)
    where
      step : CwlStep Running
      step = as_running g (step_of d scope)

      later : List (CwlStep Running)
      later = all_running g (body_steps ds (scope ++ links_of d))

      source_free : (l : Link) → (key : Key) × (l ≡ link_or (linkage_at scope key)) → owned is_of (step ∷ later) l ≡ false
      source_free l r = by_value (linkage_at scope r.0) refl
        where
          by_value : (o : Option Linkage) → linkage_at scope r.0 ≡ o → owned is_of (step ∷ later) l ≡ false
          by_value None e = ap (owned is_of (step ∷ later)) (r.1 ∙ ap link_or e) ∙ no_owner (step ∷ later) []
          by_value (Some m) e = ap (owned is_of (step ∷ later)) (r.1 ∙ ap link_or e) ∙ free m (linkage_in scope r.0 m e)

      free_then : (l : Linkage) → Contains scope l ⊎ Contains (links_of d) l → owned is_of later l.link ≡ false
      free_then l (inl c) = (or_parts (is_of step l.link) (owned is_of later l.link) (free l c)).1
      free_then l (inr c) =
          let r = links_out d.id d.outs l c in
          ap (owned is_of later) r.1 ∙ apart.0 (link.Out d.id r.0) ((bytes_eq-Decides d.id d.id).1 refl)

  -- ---- the outputs of a flow

  -- the value of a reference that has one
  abbrev value_in : List Known → Key → Value
  value_in names key = or_null (lookup (env_of names) key)

  abbrev output_at : List Known → Linkage → Named
  output_at names l = named (id_of l.key) (value_in names l.key)

  outputs_are : (names : List Known) (known : List Linked) (ls : List Linkage) → ((l : Linkage) → Contains ls l → Shown names known l)
      → outputs_taken false known (map block_out ls) ≡ Some (map (output_at names) ls)
  outputs_are names known [] h = refl
  outputs_are names known (l ∷ ls) h =
      ap (λ o. option_and_then (λ n. option_and_then (λ ns. Some (n ∷ ns)) (outputs_taken false known (map block_out ls))) o) here
      ∙ ap (option_and_then (λ ns. Some (output_at names l ∷ ns))) (outputs_are names known ls (λ m c. h m (later_is l ls m c)))
    where
      x : Shown names known l
      x = h l (first_is l ls)

      here : output_taken false (block_out l) (known_value known l.link) ≡ Some (output_at names l)
      here =
          ap (output_taken false (block_out l)) x.2
          ∙ ap (λ b. cond (b && true) (Some (named (id_of l.key) x.0)) None) x.3
          ∙ ap (λ o. Some (named (id_of l.key) (or_null o))) (sym x.1)

  value_listed : (names : List Known) (ls : List Linkage) (l : Linkage) → ((a : Linkage) → Contains ls a → bytes_eq (id_of a.key) (id_of l.key) ≡ true → a.key ≡ l.key) → Contains ls l
      → value_at (map (output_at names) ls) (id_of l.key) ≡ Some (value_in names l.key)
  value_listed names [] l differ c = absurd (none_is l c)
  value_listed names (m ∷ ls) l differ c =
      by_test (λ d. value_listed names ls l (λ a k. differ a (later_is m ls a k)) d) (differ m (first_is m ls)) (bytes_eq (id_of m.key) (id_of l.key)) refl (first_or_later m ls l c)
    where
      by_test : (Contains ls l → value_at (map (output_at names) ls) (id_of l.key) ≡ Some (value_in names l.key)) → (bytes_eq (id_of m.key) (id_of l.key) ≡ true → m.key ≡ l.key)
          → (b : Bool) → bytes_eq (id_of m.key) (id_of l.key) ≡ b → (m ≡ l) ⊎ Contains ls l
          → cond b (Some (value_in names m.key)) (value_at (map (output_at names) ls) (id_of l.key)) ≡ Some (value_in names l.key)
      by_test rest same true e d = ap (λ k. Some (value_in names k)) (same e)
      by_test rest same false e (inl s) = absurd (false≢true (sym e ∙ (bytes_eq-Decides (id_of m.key) (id_of l.key)).1 (ap (λ (z : Linkage). id_of z.key) s)))
      by_test rest same false e (inr d) = rest d

  module _ (names more : List Known) (known : List Linked) (all : List Linkage) (differ : IdsDiffer all) (new : (l : Linkage) → Contains all l → lookup (env_of names) l.key ≡ None)
      (shown : (l : Linkage) → Contains all l → Shown (names ++ more) known l) where
    given_outs : (ls : List Linkage) → ((l : Linkage) → Contains ls l → Contains all l) → Given (map (block_output (λ t. t)) ls) more (map (output_at (names ++ more)) all)
    given_outs [] within = tt
    given_outs (l ∷ ls) within =
        let c = within l (first_is l ls) in
        let x = shown l c in (
          (
            x.0,
            sym (lookup_append names more l.key ∙ ap (λ o. or_else o (lookup (env_of more) l.key)) (new l c)) ∙ x.1,
            value_listed (names ++ more) all l (λ a k e. differ a l k c e) c ∙ ap (λ o. Some (or_null o)) x.1,
            x.3,
          ),
          given_outs ls (λ m k. within m (later_is l ls m k)),
        )

  -- ---- the flow of a block

  pub inputs_only : (ns : List Named) (l : Link) (ss : List (CwlStep Running)) → owned is_of ss l ≡ true → known_value (input_links ns) l ≡ None
  inputs_only [] l ss o = refl
  inputs_only (n ∷ ns) (link.Input i) ss o = absurd (false≢true (sym (no_owner ss i) ∙ o))
  inputs_only (n ∷ ns) (link.Out t p) ss o = inputs_only ns (link.Out t p) ss o

  module _ (structs : Structs) (seen : List Bound) (fs : List Runner) (ds : List Draft) (inner : Scope) (ins : List CwlIn) (block : IsInner g structs seen fs ds inner) where
    runnable : IsRunnable (all_running g (body_steps ds inner))
    runnable =
        record {
          ordered = steps_in_order ds inner block.wires (λ l c. let r = block.inputs l c in ap (owned is_of (all_running g (body_steps ds inner))) r.1 ∙ no_owner (all_running g (body_steps ds inner)) r.0) block.apart;
          apart = block.apart;
        }

    abbrev Outputs : List Output
    Outputs = map (block_output (λ t. t)) (body_links ds)

    abbrev flow_is : CwlFlow Running
    flow_is = record { inputs = ins; outputs = map block_out (body_links ds); steps = all_running g (body_steps ds inner) }

    pub block_agrees : (s : Sight) (object : List Named) → are_typed object ins ≡ true → Fit structs seen s.names → Shows inner s.names (input_links (all_taken object ins)) → AllNew ds s.names
        → ((l : Linkage) → Contains (body_links ds) l → lookup (env_of s.names) l.key ≡ None) → Agrees Outputs (in_turn fs s) (flow_means flow_is false s.place object)
    block_agrees s object typed fit shows new none =
        subst (Agrees Outputs (in_turn fs s)) (sym (opened ∙ passed)) (by_clean (is_clean (in_turn fs s)) refl)
      where
        last : List Linked
        last = known_at_last s.place (all_running g (body_steps ds inner)) (all_taken object ins)

        one : StepsInOnePass s.place (all_running g (body_steps ds inner)) (all_taken object ins)
        one = flows_in_one_pass s.place (all_running g (body_steps ds inner)) (all_taken object ins) runnable

        pass : List Meaning
        pass = pass_means s.place (all_running g (body_steps ds inner)) (input_links (all_taken object ins))

        opened : flow_means flow_is false s.place object
            ≡ flow_gives false (map block_out (body_links ds)) (known_at_last s.place (all_running g (body_steps ds inner)) (all_taken object ins))
            (map (step_means s.place (known_at_last s.place (all_running g (body_steps ds inner)) (all_taken object ins))) (all_running g (body_steps ds inner)))
        opened =
            ap (λ b. cond (b && true) (flow_gives false (map block_out (body_links ds)) (known_at_last s.place (all_running g (body_steps ds inner)) (all_taken object ins))
            (map (step_means s.place (known_at_last s.place (all_running g (body_steps ds inner)) (all_taken object ins))) (all_running g (body_steps ds inner)))) incomplete) typed

        passed : flow_gives false (map block_out (body_links ds)) (known_at_last s.place (all_running g (body_steps ds inner)) (all_taken object ins))
            (map (step_means s.place (known_at_last s.place (all_running g (body_steps ds inner)) (all_taken object ins))) (all_running g (body_steps ds inner)))
            ≡ flow_gives false (map block_out (body_links ds)) last pass
        passed = ap (flow_gives false (map block_out (body_links ds)) last) one.means

        body : BodyAgrees g ds inner s.place s.names (input_links (all_taken object ins)) (in_turn fs s)
        body =
            bodies_agree g structs seen block.after fs ds inner s (input_links (all_taken object ins)) block.all block.differ block.apart
            (λ l o. inputs_only (all_taken object ins) l (all_running g (body_steps ds inner)) o) new fit shows

        shown : is_clean (in_turn fs s) ≡ true → (l : Linkage) → Contains (body_links ds) l → Shown (s.names ++ (in_turn fs s).names) last l
        shown h l c =
            let x = body.shows h l.key l (block.found l c) in
            (x.0, x.1, one.known l.link ∙ x.2, x.3)

        complete : is_clean (in_turn fs s) ≡ true → (flow_gives false (map block_out (body_links ds)) last pass).outputs ≡ Some (map (output_at (s.names ++ (in_turn fs s).names)) (body_links ds))
        complete h =
            ap (λ b. cond b (outputs_taken false last (map block_out (body_links ds))) None) (sym body.clean ∙ h)
            ∙ outputs_are (s.names ++ (in_turn fs s).names) last (body_links ds) (shown h)

        by_clean : (b : Bool) → is_clean (in_turn fs s) ≡ b → Agrees Outputs (in_turn fs s) (flow_gives false (map block_out (body_links ds)) last pass)
        by_clean true e =
            record {
              clean = e ∙ sym (ap is_given (complete e));
              jobs = λ h. body.jobs h;
              given = λ h.
                  subst (λ (o : Option (List Named)). Given Outputs (in_turn fs s).names (given_outputs o)) (sym (complete e))
                  (given_outs s.names (in_turn fs s).names last (body_links ds) block.ids none (shown e) (body_links ds) (λ l c. c));
            }
        by_clean false e =
            record {
              clean = e ∙ sym (ap (λ b. is_given (cond b (outputs_taken false last (map block_out (body_links ds))) None)) (sym body.clean ∙ e));
              jobs = λ h. absurd (false≢true (sym e ∙ h));
              given = λ h. absurd (false≢true (sym e ∙ h));
            }
