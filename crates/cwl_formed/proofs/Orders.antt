-- The inputs that a text gives stand in the order of the inputs of the workflow, and so does what is read of their input object.
use Rattle.std.proofs.Common.{◌≡◌, ℕ, Bool, true, false, not, cond, nat_lt, List, [], ◌∷◌, ◌++◌, length, map, Option, Some, None, Result, Ok, Err, sym, ap, ◌∙◌, subst, refl}
use Rattle.std.specs.Str.{bytes_eq}
use Rattle.std.proofs.lemmas.Bool.{and_parts, or_parts, not-true}
use Rattle.std.proofs.lemmas.Slice.Eq.{bytes_eq-Decides}
use Rattle.serde_json.specs.Data.{Data, Members}
use Rattle.serde_json.specs.Find.{as_object}
use Rattle.wdl_value.specs.declared.env.Bind.{Bind}
use Rattle.wdl_value.specs.declared.value.Value.{Value}
use Rattle.wdl_value.specs.Fits.{Structs}
use Rattle.wdl_typed.specs.declared.flow.FlowDef.{FlowDef}
use Rattle.wdl_typed.specs.declared.task.TInput.{TInput}
use Rattle.wdl_typed.specs.Declarations.{input_names}
use Rattle.wdl_typed.specs.Kept.{flow_typed}
use Rattle.wdl_typed.specs.Lists.{are_distinct, has_name}
use Rattle.wdl_names.proofs.FreshLemmas.{fresh-distinct}
use Rattle.flow_soundness.proofs.FlowSound.{is_typed}
use Rattle.flow_laws.proofs.Checked.{kept as kept_by}
use Rattle.wdl_json.specs.declared.fault.InputFault.{InputFault}
use Rattle.wdl_json.specs.declared.given.GivenInput.{GivenInput}
use Rattle.wdl_json.specs.declared.given.GivenInput.TheVariants.{LeftOut, Fitting, Misfit}
use Rattle.wdl_json.specs.Inputs.{bad, bind_of, binds, from_json, from_object, given_of, inputs_in, json_in, misfit_fault, missing_fault, or_fault, unknown_fault}
use Rattle.wdl_json.proofs.InputsFit.{bytes_fit}
use Rattle.cwl_model.specs.Means.{Named, named, value_at}
use Rattle.cwl_image.specs.Image.{cwl_in}
use Rattle.cwl_laws.specs.Simulation.{object_of}
use Rattle.cwl_formed.specs.Given.{TextsStand}
use Rattle.cwl_formed.specs.Objects.{in_order, under_id}
use Rattle.cwl_formed.proofs.Given.{main_inputs, objects_stand}
use Rattle.wdl_base.proofs.Options.{all_at}

-- ---- the order

-- A value under another name changes nothing.
order_skips : (is : List TInput) (name : List ℕ) (x : Value) (ns : List Named) → has_name name (input_names is) ≡ false → in_order (map cwl_in is) (named name x ∷ ns) ≡ in_order (map cwl_in is) ns
order_skips [] name x ns h = refl
order_skips (i ∷ is) name x ns h =
    let p = or_parts (bytes_eq i.name name) (has_name name (input_names is)) h in
    ap (λ w. under_id (cwl_in i) (cond w (Some x) (value_at ns i.name)) ++ in_order (map cwl_in is) (named name x ∷ ns)) (turned i.name p.0)
    ∙ ap (λ more. under_id (cwl_in i) (value_at ns i.name) ++ more) (order_skips is name x ns p.1)
  where
    turned : (other : List ℕ) → bytes_eq other name ≡ false → bytes_eq name other ≡ false
    turned other e = by_test (bytes_eq name other) refl
      where
        by_test : (w : Bool) → bytes_eq name other ≡ w → w ≡ false
        by_test true k = sym ((bytes_eq-Decides other name).1 (sym ((bytes_eq-Decides name other).0 k))) ∙ e
        by_test false k = refl

module _ (structs : Structs) (flow : List ℕ) (ms : Members) where
  abbrev given : TInput → GivenInput
  given = given_of structs flow ms

  abbrev bound : List TInput → List Bind
  bound = binds structs flow ms

  not_bound : (is : List TInput) (name : List ℕ) → has_name name (input_names is) ≡ false → value_at (object_of (bound is)) name ≡ None
  not_bound [] name h = refl
  not_bound (i ∷ is) name h = let p = or_parts (bytes_eq i.name name) (has_name name (input_names is)) h in by_given (given i) p.0 (not_bound is name p.1)
    where
      by_given : (g : GivenInput) → bytes_eq i.name name ≡ false → value_at (object_of (bound is)) name ≡ None → value_at (object_of (bind_of i g ++ bound is)) name ≡ None
      by_given LeftOut e rest = rest
      by_given (Fitting x) e rest = ap (λ w. cond w (Some x) (value_at (object_of (bound is)) name)) e ∙ rest
      by_given Misfit e rest = rest

  bound_in_order : (is : List TInput) → are_distinct (input_names is) ≡ true → in_order (map cwl_in is) (object_of (bound is)) ≡ object_of (bound is)
  bound_in_order [] h = refl
  bound_in_order (i ∷ is) h =
      let p = and_parts (not (has_name i.name (input_names is))) (are_distinct (input_names is)) h in
      by_given (given i) (not-true (has_name i.name (input_names is)) p.0) (bound_in_order is p.1)
    where
      rest_of : List Named
      rest_of = object_of (bound is)

      left : has_name i.name (input_names is) ≡ false → in_order (map cwl_in is) rest_of ≡ rest_of → in_order (map cwl_in (i ∷ is)) rest_of ≡ rest_of
      left new rest = ap (λ o. under_id (cwl_in i) o ++ in_order (map cwl_in is) rest_of) (not_bound is i.name new) ∙ rest

      by_given : (g : GivenInput) → has_name i.name (input_names is) ≡ false → in_order (map cwl_in is) rest_of ≡ rest_of
          → in_order (map cwl_in (i ∷ is)) (object_of (bind_of i g ++ bound is)) ≡ object_of (bind_of i g ++ bound is)
      by_given LeftOut new rest = left new rest
      by_given (Fitting x) new rest =
          ap (λ w. under_id (cwl_in i) (cond w (Some x) (value_at rest_of i.name)) ++ in_order (map cwl_in is) (named i.name x ∷ rest_of)) ((bytes_eq-Decides i.name i.name).1 refl)
          ∙ ap (λ more. named i.name x ∷ more) (order_skips is i.name x rest_of new ∙ rest)
      by_given Misfit new rest = left new rest

-- ---- what a text gives

no_fault : (fault : Option InputFault) (o : Result (List Bind) InputFault) (env : List Bind) → or_fault fault o ≡ Ok env → o ≡ Ok env
no_fault None o env h = h
no_fault (Some e) o env h = cc

some_binds : (structs : Structs) (f : FlowDef) (text : List ℕ) (env : List Bind) → inputs_in structs f text ≡ Ok env → (ms : Members) × (binds structs f.name ms f.inputs ≡ env)
some_binds structs f text env h = by_length (nat_lt 1048576 (length text)) h
  where
    by_object : (o : Option Members) → from_object structs f o ≡ Ok env → (ms : Members) × (binds structs f.name ms f.inputs ≡ env)
    by_object None k = cc
    by_object (Some ms) k =
        let whole = no_fault (unknown_fault f.name f.inputs ms) _ env k in
        let there = no_fault (missing_fault f.name f.inputs ms) _ env whole in
        let fitting = no_fault (misfit_fault structs f.name f.inputs ms) _ env there in
        let same : binds structs f.name ms f.inputs ≡ env = cc fitting in
        (ms, same)

    by_json : (o : Option Data) → from_json structs f o ≡ Ok env → (ms : Members) × (binds structs f.name ms f.inputs ≡ env)
    by_json None k = cc
    by_json (Some d) k = by_object (as_object d) k

    by_length : (w : Bool) → cond w (Err (bad 407 None)) (from_json structs f (json_in text)) ≡ Ok env → (ms : Members) × (binds structs f.name ms f.inputs ≡ env)
    by_length true k = cc
    by_length false k = by_json (json_in text) k

pub texts_stand : TextsStand
texts_stand lib main f text given checked subset there h =
    let t = is_typed lib f (all_at (flow_typed lib) lib.flows main f (kept_by lib (Some main) checked).flows there) in
    let differ = sym (fresh-distinct (input_names f.inputs)) ∙ t.inputs_new in
    let o = objects_stand lib main f given checked subset there (bytes_fit lib.structs f text given differ h) in
    let b = some_binds lib.structs f text given h in
    let order = subst (λ (bs : List Bind). in_order (map cwl_in f.inputs) (object_of bs) ≡ object_of bs) b.1 (bound_in_order lib.structs f.name b.0 f.inputs differ) in
    (o.ordered, o.reads ∙ ap Some (ap (λ js. in_order js (object_of given)) (main_inputs lib 24 main f there) ∙ order))
