-- A workflow and the flow that is its image, as the document or in a plain step.
use Rattle.std.proofs.Common.{◌≡◌, ℕ, ◌⊎◌, inl, inr, Bool, true, false, cond, not, ◌&&◌, ◌||◌, List, [], ◌∷◌, ◌++◌, append-nil, map, Option, Some, None, option_and_then, Ok, Err, Contains, sym, ap, ◌∙◌, subst, refl}
use Rattle.std.specs.Str.{bytes_eq}
use Rattle.std.proofs.lemmas.Bool.{false≢true, and_parts, or_left, or_parts, or_right}
use Rattle.std.proofs.lemmas.Slice.Eq.{bytes_eq-Decides}
use Rattle.std.proofs.lemmas.Option.{none-some}
use Rattle.wdl_base.specs.declared.fault.EvalCode.TheVariants.{TooLarge}
use Rattle.wdl_base.specs.declared.name.Key.{Key}
use Rattle.wdl_base.specs.declared.place.Segment.{Segment}
use Rattle.wdl_value.specs.declared.env.Bind.{Bind}
use Rattle.wdl_value.specs.declared.value.Value.{Value}
use Rattle.wdl_value.specs.Fits.{Structs}
use Rattle.wdl_value.specs.Limits.{is_within, limited}
use Rattle.wdl_typed.specs.declared.task.TDecl.{TDecl}
use Rattle.wdl_typed.specs.declared.task.TInput.{TInput}
use Rattle.wdl_typed.specs.declared.scope.Bound.{Bound}
use Rattle.wdl_typed.specs.Declarations.{decl_names, input_names, inputs_bound, plain_key}
use Rattle.wdl_typed.specs.Evaluation.{value_of}
use Rattle.wdl_typed.specs.Flow as flow
use Rattle.wdl_typed.specs.Flow.{Flowing, Known, Runner, Sight, declaration, declared_as, env_of, in_turn, is_clean, known, nothing, seeing, together, with_count}
use Rattle.wdl_typed.specs.Lists.{are_distinct, has_name}
use Rattle.wdl_typed.specs.Requests.{before}
use Rattle.wdl_typed.specs.Scope.{lookup, same_key}
use Rattle.cwl_model.specs.declared.process.CwlFlow.{CwlFlow}
use Rattle.cwl_model.specs.declared.process.CwlStep.{CwlStep}
use Rattle.cwl_model.specs.declared.process.Link.TheVariants as link
use Rattle.cwl_model.specs.Laws.{IsRunnable, is_of, owned, pass_means}
use Rattle.cwl_model.specs.Means.{Ground, Meaning, Named, Running, all_taken, are_complete, are_within, flow_gives, flow_means, has_type, incomplete, input_links, is_complete, is_given, known_at_last, named, or_null, output_taken, outputs_taken, step_gives, step_means, value_at}
use Rattle.cwl_model.specs.Rounds.{Linked, known_value, one_pass}
use Rattle.cwl_model.proofs.Passes.{flows_in_one_pass, no_owner}
use Rattle.cwl_model.proofs.Rounds.{first_is, first_or_later, later_is, none_is, or_else}
use Rattle.cwl_image.specs.Image.{Draft, Linkage, Scope, block_output, body_links, body_steps, cwl_in, flow_out, input_linkage, link_of, linkage_at, reference, type_of}
use Rattle.cwl_laws.specs.Laws.{AllNew, BodyAgrees, Fit, FitsAt, Shows, all_running, has_key, job_of, jobs_of}
use Rattle.cwl_laws.specs.Premises.{AreGiven, AreMet, AreOutputs, FlowsAgree, IsWorkflow, input_names_with}
use Rattle.cwl_laws.specs.Tools.{input_value}
use Rattle.cwl_laws.proofs.Blocks.{inputs_only, steps_in_order}
use Rattle.cwl_laws.proofs.Bodies.{bodies_agree, clean_together, lookup_append, turn_fit}
use Rattle.cwl_laws.proofs.Conditions.{turn_own}
use Rattle.cwl_laws.proofs.Objects.{IsSeen, is_seen, value_in}
use Rattle.cwl_laws.proofs.Starts.{InputsAgree, all_meet, and_true, inputs_agree, start_fit, start_shows}

-- ---- outputs

-- the same names with the same values, each of its type
abbrev pub OutsGiven : List TDecl → List Known → List Named → Type 0
OutsGiven [] [] [] = Unit {0}
OutsGiven (d ∷ ds) (k ∷ ks) (n ∷ ns) = (k ≡ known d.name (Some n.value)) × (n.id ≡ d.name) × (has_type (type_of d.ty) n.value ≡ true) × OutsGiven ds ks ns
OutsGiven ds ks ns = ⊥

pub record OutsAgree (ds : List TDecl) (f : Flowing) (o : Option (List Named)) : Type 0 where
  pub clean : is_clean f ≡ is_given o
  pub jobs : is_clean f ≡ true → f.jobs ≡ []
  pub outs : is_clean f ≡ true → (ns : List Named) × (o ≡ Some ns) × OutsGiven ds f.names ns

shows_more : (scope : Scope) (names more : List Known) (kn : List Linked) → Shows scope names kn → Shows scope (names ++ more) kn
shows_more scope names more kn h key l e = let x = h key l e in (x.0, lookup_append names more l.key ∙ ap (λ o. or_else o (lookup (env_of more) l.key)) x.1, x.2, x.3)

-- the values of what the scope has fit
abbrev ScopeFits : Structs → List Bound → Scope → List Known → Type 0
ScopeFits structs seen scope names = (key : Key) (l : Linkage) → linkage_at scope key ≡ Some l → FitsAt structs seen key (value_in names key)

fits_more : (structs : Structs) (seen : List Bound) (scope : Scope) (names more : List Known) (kn : List Linked) → Shows scope names kn → ScopeFits structs seen scope names → ScopeFits structs seen scope (names ++ more)
fits_more structs seen scope names more kn shows fit key l e =
    let x = is_seen scope names kn shows key l e in
    subst (FitsAt structs seen key) (sym (ap or_null (lookup_append names more key ∙ ap (λ o. or_else o (lookup (env_of more) key)) x.name))) (fit key l e)

outs_agree : (structs : Structs) (seen : List Bound) (scope : Scope) (kn : List Linked) (ds : List TDecl) (s : Sight) → AreOutputs structs seen scope ds → ScopeFits structs seen scope s.names → Shows scope s.names kn
    → OutsAgree ds (flow.outputs ds s) (outputs_taken true kn (map (flow_out scope) ds))
outs_agree structs bounds scope kn [] s h fit shows = record { clean = refl; jobs = λ c. refl; outs = λ c. ([], refl, tt) }
outs_agree structs bounds scope kn (d ∷ ds) s h fit shows =
    by_limit (λ f. outs_agree structs bounds scope kn ds (seeing s f) h.1 (fits_more structs bounds scope s.names f.names kn shows fit) (shows_more scope s.names f.names kn shows)) (is_within (value_in s.names h.0.key)) refl
  where
    x : Value
    x = value_in s.names h.0.key

    seen : IsSeen scope s.names kn h.0.key
    seen = is_seen scope s.names kn shows h.0.key h.0.source.0 h.0.source.1

    ok : FitsAt structs bounds h.0.key (value_in s.names h.0.key)
    ok = fit h.0.key h.0.source.0 h.0.source.1

    typed : has_type (type_of d.ty) (value_in s.names h.0.key) ≡ true
    typed = h.0.reads.typed (value_in s.names h.0.key) ok

    run_is : declaration s d.name d.value ≡ declared_as s.place d.name (limited (value_in s.names h.0.key))
    run_is =
        ap (λ b. cond b (declared_as s.place d.name (value_of (before (env_of s.names)) d.value)) (flow.named (known d.name None))) (h.0.reads.known s.names (value_in s.names h.0.key) seen.name)
        ∙ ap (declared_as s.place d.name) (h.0.reads.value (env_of s.names) (value_in s.names h.0.key) ok seen.name)

    taken_is : output_taken true (flow_out scope d) (known_value kn (link_of scope (reference d.value)))
        ≡ cond (is_within (value_in s.names h.0.key)) (Some (named d.name (value_in s.names h.0.key))) None
    taken_is =
        ap (λ k. output_taken true (flow_out scope d) (known_value kn (link_of scope k))) h.0.reads.refers
        ∙ ap (output_taken true (flow_out scope d)) seen.link
        ∙ ap (λ b. cond (b && (false || is_within (value_in s.names h.0.key))) (Some (named d.name (value_in s.names h.0.key))) None) typed

    joined : Option Named → Option (List Named)
    joined o = option_and_then (λ n. option_and_then (λ ns. Some (n ∷ ns)) (outputs_taken true kn (map (flow_out scope) ds))) o

    by_outcome : (f : Flowing) (o : Option Named) → OutsAgree (d ∷ ds) (together f (flow.outputs ds (seeing s f))) (joined o)
        → declaration s d.name d.value ≡ f → output_taken true (flow_out scope d) (known_value kn (link_of scope (reference d.value))) ≡ o
        → OutsAgree (d ∷ ds) (flow.outputs (d ∷ ds) s) (outputs_taken true kn (map (flow_out scope) (d ∷ ds)))
    by_outcome f o a e q =
        subst (λ (z : Flowing). OutsAgree (d ∷ ds) (together z (flow.outputs ds (seeing s z))) (outputs_taken true kn (map (flow_out scope) (d ∷ ds)))) (sym e)
        (subst (λ w. OutsAgree (d ∷ ds) (together f (flow.outputs ds (seeing s f))) (joined w)) (sym q) a)

    given_some : (p : Option (List Named)) → is_given (option_and_then (λ ns. Some (named d.name x ∷ ns)) p) ≡ is_given p
    given_some None = refl
    given_some (Some ns) = refl

    by_limit : ((f : Flowing) → OutsAgree ds (flow.outputs ds (seeing s f)) (outputs_taken true kn (map (flow_out scope) ds))) → (b : Bool) → is_within (value_in s.names h.0.key) ≡ b
        → OutsAgree (d ∷ ds) (flow.outputs (d ∷ ds) s) (outputs_taken true kn (map (flow_out scope) (d ∷ ds)))
    by_limit rest true w =
        let one : Flowing = flow.named (known d.name (Some (value_in s.names h.0.key))) in
        let r = rest one in
        by_outcome one (Some (named d.name (value_in s.names h.0.key)))
        (record {
          clean = clean_together one (flow.outputs ds (seeing s one)) ∙ r.clean ∙ sym (given_some (outputs_taken true kn (map (flow_out scope) ds)));
          jobs = λ c. r.jobs (sym (clean_together one (flow.outputs ds (seeing s one))) ∙ c);
          outs = λ c.
              let q = r.outs (sym (clean_together one (flow.outputs ds (seeing s one))) ∙ c) in
              (named d.name (value_in s.names h.0.key) ∷ q.0, ap (option_and_then (λ ns. Some (named d.name (value_in s.names h.0.key) ∷ ns))) q.1, (refl, refl, typed, q.2));
        })
        (run_is ∙ ap (λ b. declared_as s.place d.name (cond b (Ok (value_in s.names h.0.key)) (Err TooLarge))) w)
        (taken_is ∙ ap (λ b. cond b (Some (named d.name (value_in s.names h.0.key))) None) w)
    by_limit rest false w =
        let bad : Flowing = declared_as s.place d.name (Err TooLarge) in
        let stops : is_clean (together bad (flow.outputs ds (seeing s bad))) ≡ false = clean_together bad (flow.outputs ds (seeing s bad)) in
        by_outcome bad None
        (record { clean = stops; jobs = λ c. absurd (false≢true (sym stops ∙ c)); outs = λ c. absurd (false≢true (sym stops ∙ c)) })
        (run_is ∙ ap (λ b. declared_as s.place d.name (cond b (Ok (value_in s.names h.0.key)) (Err TooLarge))) w)
        (taken_is ∙ ap (λ b. cond b (Some (named d.name (value_in s.names h.0.key))) None) w)

-- ---- the whole

pub named_among : (ds : List TDecl) (c : TDecl) → Contains ds c → has_name c.name (decl_names ds) ≡ true
named_among [] c i = absurd (none_is c i)
named_among (d ∷ ds) c i = by_case (λ j. named_among ds c j) (first_or_later d ds c i)
  where
    by_case : (Contains ds c → has_name c.name (decl_names ds) ≡ true) → (d ≡ c) ⊎ Contains ds c → (bytes_eq d.name c.name || has_name c.name (decl_names ds)) ≡ true
    by_case rest (inl e) = or_left (bytes_eq d.name c.name) (has_name c.name (decl_names ds)) ((bytes_eq-Decides d.name c.name).1 (ap (λ (z : TDecl). z.name) e))
    by_case rest (inr j) = or_right (bytes_eq d.name c.name) (has_name c.name (decl_names ds)) (rest j)

-- The flow is clean exactly where its image is complete; then jobs and outputs agree.
pub record FlowAgrees (outs : List TDecl) (names : List Known) (f : Flowing) (m : Meaning) : Type 0 where
  pub clean : is_clean f ≡ is_complete m
  pub jobs : is_clean f ≡ true → jobs_of f ≡ m.jobs
  pub outputs : is_clean f ≡ true → (ns : List Named) × (m.outputs ≡ Some ns) × OutsGiven outs names ns

inputs_linked : (is : List TInput) (l : Linkage) → Contains (map input_linkage is) l → (i : List ℕ) × (l.link ≡ link.Input i)
inputs_linked [] l c = absurd (none_is l c)
inputs_linked (j ∷ is) l c = by_case (λ d. inputs_linked is l d) (first_or_later (input_linkage j) (map input_linkage is) l c)
  where
    by_case : (Contains (map input_linkage is) l → (i : List ℕ) × (l.link ≡ link.Input i)) → (input_linkage j ≡ l) ⊎ Contains (map input_linkage is) l → (i : List ℕ) × (l.link ≡ link.Input i)
    by_case rest (inl e) = (j.name, ap (λ (z : Linkage). z.link) (sym e))
    by_case rest (inr d) = rest d

module _ (g : Ground) (structs : Structs) (object : List Named) (given : List Bind) (same : (name : List ℕ) → lookup given (plain_key name) ≡ value_at object name)
    (is : List TInput) (fs : List Runner) (ds : List Draft) (outs : List TDecl) (m : ℕ) (place : List Segment) (w : IsWorkflow g structs is fs ds outs) (met : AreMet structs object is) where
  abbrev Steps : List (CwlStep Running)
  Steps = all_running g (body_steps ds (map input_linkage is))

  abbrev Image : CwlFlow Running
  Image = record { inputs = map cwl_in is; outputs = map (flow_out (map input_linkage is ++ body_links ds)) outs; steps = all_running g (body_steps ds (map input_linkage is)) }

  abbrev Ins : Flowing
  Ins = flow.inputs given is (flow.beginning place)

  abbrev One : Sight
  One = seeing (flow.beginning place) (flow.inputs given is (flow.beginning place))

  abbrev Body : Flowing
  Body = with_count m (in_turn fs One)

  abbrev Two : Sight
  Two = seeing One (with_count m (in_turn fs One))

  abbrev Outs : Flowing
  Outs = flow.outputs outs Two

  abbrev Links : List Linked
  Links = input_links (all_taken object (map cwl_in is))

  abbrev Last : List Linked
  Last = known_at_last place Steps (all_taken object (map cwl_in is))

  abbrev Pass : List Meaning
  Pass = pass_means place Steps Links

  abbrev Given : Meaning
  Given = flow_gives true (map (flow_out (map input_linkage is ++ body_links ds)) outs) Last Pass

  abbrev Whole : Flowing
  Whole = together Ins (together Body (together Outs nothing))

  runnable : IsRunnable (all_running g (body_steps ds (map input_linkage is)))
  runnable =
      record {
        ordered =
            steps_in_order g ds (map input_linkage is) w.wires
            (λ l c. let r = inputs_linked is l c in ap (owned is_of (all_running g (body_steps ds (map input_linkage is)))) r.1 ∙ no_owner (all_running g (body_steps ds (map input_linkage is))) r.0) w.apart;
        apart = w.apart;
      }

  inputs_are : InputsAgree structs object given same is Ins
  inputs_are = inputs_agree structs object given same is (flow.beginning place) (all_meet structs object is w.inputs met)

  whole_clean : is_clean Whole ≡ (is_clean Ins && (is_clean Body && is_clean Outs))
  whole_clean =
      clean_together Ins (together Body (together Outs nothing))
      ∙ ap (λ b. is_clean Ins && b) (clean_together Body (together Outs nothing) ∙ ap (λ b. is_clean Body && b) (clean_together Outs nothing ∙ and_true (is_clean Outs)))

  opened : (b : Bool) → are_within (all_taken object (map cwl_in is)) ≡ b → flow_means Image true place object ≡ cond b Given incomplete
  opened b e =
      let one = flows_in_one_pass place Steps (all_taken object (map cwl_in is)) runnable in
      ap (λ t. cond (t && (false || are_within (all_taken object (map cwl_in is)))) (flow_gives true (map (flow_out (map input_linkage is ++ body_links ds)) outs) Last (map (step_means place Last) Steps)) incomplete) inputs_are.typed
      ∙ ap (λ t. cond t (flow_gives true (map (flow_out (map input_linkage is ++ body_links ds)) outs) Last (map (step_means place Last) Steps)) incomplete) e
      ∙ ap (λ ms. cond b (flow_gives true (map (flow_out (map input_linkage is ++ body_links ds)) outs) Last ms) incomplete) one.means

  module _ (clean : is_clean Ins ≡ true) where
    one_fits : Fit structs (inputs_bound is) (One).names
    one_fits = subst (Fit structs (inputs_bound is)) (sym (inputs_are.names clean)) (start_fit structs object given same is inputs_are.fit)

    body_agrees : BodyAgrees g ds (map input_linkage is) place (One).names Links (in_turn fs One)
    body_agrees =
        bodies_agree g structs (inputs_bound is) w.after fs ds (map input_linkage is) One Links w.all w.differ w.apart (λ l o. inputs_only g (all_taken object (map cwl_in is)) l Steps o)
        (subst (AllNew ds) (sym (inputs_are.names clean)) (w.new (input_value object))) one_fits
        (subst (λ ks. Shows (map input_linkage is) ks Links) (sym (inputs_are.names clean)) (start_shows structs object given same is inputs_are.typed))

    two_fits : Fit structs w.after (Two).names
    two_fits = turn_fit g structs (inputs_bound is) w.after fs ds (map input_linkage is) One w.all one_fits

    outputs_are : is_clean Body ≡ true → OutsAgree outs Outs (outputs_taken true Last (map (flow_out (map input_linkage is ++ body_links ds)) outs))
    outputs_are c =
        let one = flows_in_one_pass place Steps (all_taken object (map cwl_in is)) runnable in
        outs_agree structs w.after (map input_linkage is ++ body_links ds) Last outs Two w.outputs
        (λ key l e. two_fits key (value_in (Two).names key) (is_seen (map input_linkage is ++ body_links ds) (Two).names (one_pass (step_gives place) Steps Links) (body_agrees.shows c) key l e).name)
        (λ key l e. let x = body_agrees.shows c key l e in (x.0, x.1, one.known l.link ∙ x.2, x.3))

    whole_agrees : FlowAgrees outs (Outs).names Whole Given
    whole_agrees = by_body (is_clean Body) refl
      where
        by_body : (b : Bool) → is_clean Body ≡ b → FlowAgrees outs (Outs).names Whole Given
        by_body true c =
            let a = outputs_are c in
            let all : is_clean Whole ≡ is_clean Outs = whole_clean ∙ ap (λ b. b && (is_clean Body && is_clean Outs)) clean ∙ ap (λ b. b && is_clean Outs) c in
            let complete : are_complete Pass ≡ true = sym body_agrees.clean ∙ c in
            let given_is : (Given).outputs ≡ outputs_taken true Last (map (flow_out (map input_linkage is ++ body_links ds)) outs) =
            ap (λ b. cond b (outputs_taken true Last (map (flow_out (map input_linkage is ++ body_links ds)) outs)) None) complete in
            record {
              clean = all ∙ a.clean ∙ sym (ap is_given given_is);
              jobs = λ h.
                  ap (λ rs. map job_of (rs ++ ((Body).jobs ++ ((Outs).jobs ++ [])))) (inputs_are.jobs clean)
                  ∙ ap (λ rs. map job_of ((Body).jobs ++ (rs ++ []))) (a.jobs (sym all ∙ h))
                  ∙ ap (map job_of) (append-nil (Body).jobs)
                  ∙ body_agrees.jobs c;
              outputs = λ h. let q = a.outs (sym all ∙ h) in (q.0, given_is ∙ q.1, q.2);
            }
        by_body false c =
            let stops : is_clean Whole ≡ false = whole_clean ∙ ap (λ b. b && (is_clean Body && is_clean Outs)) clean ∙ ap (λ b. b && is_clean Outs) c in
            let stuck : are_complete Pass ≡ false = sym body_agrees.clean ∙ c in
            record {
              clean = stops ∙ sym (ap (λ b. is_given (cond b (outputs_taken true Last (map (flow_out (map input_linkage is ++ body_links ds)) outs)) None)) stuck);
              jobs = λ h. absurd (false≢true (sym stops ∙ h));
              outputs = λ h. absurd (false≢true (sym stops ∙ h));
            }

  pub workflow_agrees : FlowAgrees outs (Outs).names Whole (flow_means Image true place object)
  workflow_agrees = by_inputs (is_clean Ins) refl
    where
      by_inputs : (b : Bool) → is_clean Ins ≡ b → FlowAgrees outs (Outs).names Whole (flow_means Image true place object)
      by_inputs true c = subst (FlowAgrees outs (Outs).names Whole) (sym (opened true (sym inputs_are.clean ∙ c))) (whole_agrees c)
      by_inputs false c =
          let stops : is_clean Whole ≡ false = whole_clean ∙ ap (λ b. b && (is_clean Body && is_clean Outs)) c in
          subst (FlowAgrees outs (Outs).names Whole) (sym (opened false (sym inputs_are.clean ∙ c)))
          (record { clean = stops; jobs = λ h. absurd (false≢true (sym stops ∙ h)); outputs = λ h. absurd (false≢true (sym stops ∙ h)) })

  -- ---- outputs among all names

  no_input : (name : List ℕ) → (js : List TInput) → has_name name (input_names js) ≡ false → lookup (env_of (input_names_with (input_value object) js)) (plain_key name) ≡ None
  no_input name [] h = refl
  no_input name (j ∷ js) h =
      let p = or_parts (bytes_eq j.name name) (has_name name (input_names js)) h in
      ap (λ b. cond (b && true) (Some (input_value object j)) (lookup (env_of (input_names_with (input_value object) js)) (plain_key name))) p.0 ∙ no_input name js p.1

  no_link : (ls : Scope) (key : Key) → linkage_at ls key ≡ None → has_key (map (block_output (λ t. t)) ls) key ≡ false
  no_link [] key h = refl
  no_link (l ∷ ls) key h = by_test (no_link ls key) (same_key l.key key) h
    where
      by_test : (linkage_at ls key ≡ None → has_key (map (block_output (λ t. t)) ls) key ≡ false) → (b : Bool) → cond b (Some l) (linkage_at ls key) ≡ None
          → (b || has_key (map (block_output (λ t. t)) ls) key) ≡ false
      by_test rest true e = absurd (none-some _ (sym e))
      by_test rest false e = rest e

  no_body : (name : List ℕ) → lookup (env_of (in_turn fs One).names) (plain_key name) ≡ None
  no_body name =
      turn_own g structs (inputs_bound is) w.after (λ t. t) fs ds (map input_linkage is) One w.all (plain_key name) (no_link (body_links ds) (plain_key name) (w.body_plain name))

  abbrev Names : List Known
  Names = (Ins).names ++ ((in_turn fs One).names ++ ((Outs).names ++ []))

  among_all : is_clean Ins ≡ true → (name : List ℕ) → has_name name (input_names is) ≡ false → (o : Option Value) → lookup (env_of (Outs).names) (plain_key name) ≡ o
      → lookup (env_of Names) (plain_key name) ≡ o
  among_all clean name new o h =
      lookup_append (Ins).names ((in_turn fs One).names ++ ((Outs).names ++ [])) (plain_key name)
      ∙ ap (λ p. or_else p (lookup (env_of ((in_turn fs One).names ++ ((Outs).names ++ []))) (plain_key name))) (ap (λ ks. lookup (env_of ks) (plain_key name)) (inputs_are.names clean) ∙ no_input name is new)
      ∙ lookup_append (in_turn fs One).names ((Outs).names ++ []) (plain_key name)
      ∙ ap (λ p. or_else p (lookup (env_of ((Outs).names ++ [])) (plain_key name))) (no_body name)
      ∙ ap (λ ks. lookup (env_of ks) (plain_key name)) (append-nil (Outs).names)
      ∙ h

  outs_given : (names : List Known) (os : List TDecl) (ks : List Known) (ns : List Named) → are_distinct (decl_names os) ≡ true
      → ((d : TDecl) → Contains os d → (o : Option Value) → lookup (env_of ks) (plain_key d.name) ≡ o → lookup (env_of names) (plain_key d.name) ≡ o)
      → OutsGiven os ks ns → AreGiven os names ns
  outs_given names [] [] [] differ all h = tt
  outs_given names [] (k ∷ ks) ns differ all h = absurd h
  outs_given names [] [] (n ∷ ns) differ all h = absurd h
  outs_given names (d ∷ os) [] ns differ all h = absurd h
  outs_given names (d ∷ os) (k ∷ ks) [] differ all h = absurd h
  outs_given names (d ∷ os) (k ∷ ks) (n ∷ ns) differ all h =
      let p = and_parts (not (has_name d.name (decl_names os))) (are_distinct (decl_names os)) differ in (
        h.1,
        all d (first_is d os) (Some n.value) (here k h.0),
        h.2,
        outs_given names os ks ns p.1 (λ c i o e. all c (later_is d os c i) o (later c k h.0 (other c i p.0) ∙ e)) h.3,
      )
    where
      here : (k : Known) → k ≡ known d.name (Some n.value) → lookup (env_of (k ∷ ks)) (plain_key d.name) ≡ Some n.value
      here k e =
          ap (λ (z : Known). lookup (env_of (z ∷ ks)) (plain_key d.name)) e
          ∙ ap (λ b. cond (b && true) (Some n.value) (lookup (env_of ks) (plain_key d.name))) ((bytes_eq-Decides d.name d.name).1 refl)

      later : (c : TDecl) (k : Known) → k ≡ known d.name (Some n.value) → bytes_eq d.name c.name ≡ false → lookup (env_of (k ∷ ks)) (plain_key c.name) ≡ lookup (env_of ks) (plain_key c.name)
      later c k e n_ =
          ap (λ (z : Known). lookup (env_of (z ∷ ks)) (plain_key c.name)) e ∙ ap (λ b. cond (b && true) (Some n.value) (lookup (env_of ks) (plain_key c.name))) n_

      other : (c : TDecl) → Contains os c → not (has_name d.name (decl_names os)) ≡ true → bytes_eq d.name c.name ≡ false
      other c i h = by_test (bytes_eq d.name c.name) refl
        where
          by_test : (b : Bool) → bytes_eq d.name c.name ≡ b → b ≡ false
          by_test false e = refl
          by_test true e =
              absurd (false≢true (sym (ap not (named_among os c i ∙ refl)) ∙ subst (λ (m : List ℕ). not (has_name m (decl_names os)) ≡ true) ((bytes_eq-Decides d.name c.name).0 e) h))

  -- The flow of a workflow is clean exactly where its image is complete; then jobs and outputs agree.
  pub workflow_simulates : FlowsAgree outs Whole (flow_means Image true place object)
  workflow_simulates =
      record {
        clean = workflow_agrees.clean;
        jobs = workflow_agrees.jobs;
        outputs = λ c.
            let q = workflow_agrees.outputs c in
            let ins : is_clean Ins ≡ true = (and_parts (is_clean Ins) (is_clean Body && is_clean Outs) (sym whole_clean ∙ c)).0 in
            (q.0, q.1, outs_given Names outs (Outs).names q.0 w.outputs_differ (λ d i o e. among_all ins d.name (w.outputs_new d i) o e) q.2);
      }
