-- The process with records means what its body means for the leaves.
use Rattle.std.proofs.Common.{◌≡◌, ℕ, ◌⊎◌, inl, inr, Bool, true, false, cond, not, ◌&&◌, ◌||◌, List, [], ◌∷◌, map, Option, Some, None, option_and_then, option_map, Contains, sym, ap, ◌∙◌, subst, refl}
use Rattle.std.proofs.lemmas.Bool.{and_parts}
use Rattle.wdl_base.specs.declared.place.Segment.{Segment}
use Rattle.wdl_value.specs.declared.value.Value.{Value}
use Rattle.wdl_value.specs.declared.value.Value.TheVariants as v
use Rattle.wdl_value.specs.Fits.{Structs}
use Rattle.wdl_value.specs.Parts.{is_undefined}
use Rattle.wdl_typed.specs.declared.task.TInput.{TInput}
use Rattle.wdl_typed.specs.Declarations.{input_names}
use Rattle.wdl_typed.specs.Lists.{are_distinct, has_name}
use Rattle.cwl_model.specs.declared.process.CwlFlow.{CwlFlow}
use Rattle.cwl_model.specs.declared.process.Process.{Process, Process-F, fold_out-Process, map-Process}
use Rattle.cwl_model.specs.declared.process.Process.TheVariants as process
use Rattle.cwl_model.specs.declared.process.Process.TheOpen as layer
use Rattle.cwl_model.specs.declared.tool.CwlIn.{CwlIn}
use Rattle.cwl_model.specs.Means.{Ground, Meaning, Named, Running, all_taken, are_typed, are_within, flow_gives, flow_means, given_or, has_type, incomplete, known_at_last, means, named, or_null, process_step, running, step_means, taken, value_at}
use Rattle.cwl_model.proofs.Rounds.{first_is, first_or_later, later_is, none_is}
use Rattle.cwl_image.specs.Image.{cwl_in}
use Rattle.cwl_laws.proofs.Inputs.{name_apart}
use Rattle.cwl_records.specs.declared.leaf.RecordLeaf.{RecordLeaf}
use Rattle.cwl_records.specs.declared.wide.WideWire.{WideWire}
use Rattle.cwl_records.specs.Wide.{all_wide, body_means, means_wide, through, wide_taken, wide_wired}
use Rattle.cwl_records.specs.Wrapping.{leaf_named, wide_in, wire_by, wire_in, wrapped}
use Rattle.leaf_image.specs.Leaves.{is_record}
use Rattle.wdl_stdlib.proofs.Keys.{bytes_eq-refl as bytes_same}

-- ---- what a process takes

-- A workflow that takes the same values means the same.
module _ (g : Ground) (b : CwlFlow Process) (old now : List Named) (same : (i : CwlIn) → Contains b.inputs i → taken now i ≡ taken old i) where
  abbrev Same : List CwlIn → Type 0
  Same is = (i : CwlIn) → Contains is i → taken now i ≡ taken old i

  taken_same : (is : List CwlIn) → Same is → all_taken now is ≡ all_taken old is
  taken_same [] h = refl
  taken_same (i ∷ is) h = ap (λ n. n ∷ all_taken now is) (h i (first_is i is)) ∙ ap (λ ns. taken old i ∷ ns) (taken_same is (λ j c. h j (later_is i is j c)))

  typed_same : (is : List CwlIn) → Same is → are_typed now is ≡ are_typed old is
  typed_same [] h = refl
  typed_same (i ∷ is) h =
      ap (λ (n : Named). has_type i.ty n.value && are_typed now is) (h i (first_is i is))
      ∙ ap (λ w. has_type i.ty (taken old i).value && w) (typed_same is (λ j c. h j (later_is i is j c)))

  abbrev meaning : CwlFlow Running → Bool → List Segment → Bool → List Named → Meaning
  meaning f limited place typed ns =
      cond (typed && (not limited || are_within ns))
      (flow_gives limited f.outputs (known_at_last place f.steps ns) (map (step_means place (known_at_last place f.steps ns)) f.steps)) incomplete

  flow_same : (f : CwlFlow Running) → f.inputs ≡ b.inputs → (limited : Bool) (place : List Segment) → flow_means f limited place now ≡ flow_means f limited place old
  flow_same f e limited place =
      let h : Same f.inputs = subst Same (sym e) same in
      ap (λ w. meaning f limited place w (all_taken now f.inputs)) (typed_same f.inputs h) ∙ ap (meaning f limited place (are_typed old f.inputs)) (taken_same f.inputs h)

  -- of a workflow with these inputs
  abbrev IsFlowOf : Process-F Running → Type 0
  IsFlowOf (layer.Flow f) = f.inputs ≡ b.inputs
  IsFlowOf (layer.Tool t) = ⊥

  step_same : (z : Process-F Running) → IsFlowOf z → (limited : Bool) (place : List Segment) → process_step g z limited place now ≡ process_step g z limited place old
  step_same (layer.Flow f) e limited place = flow_same f e limited place
  step_same (layer.Tool t) e limited place = absurd e

  by_layer : (object : List Named) (limited : Bool) (place : List Segment) → running g (process.Flow b) limited place object ≡ process_step g (map-Process Process Running (running g) (layer.Flow b)) limited place object
  by_layer object limited place =
      ap (λ (r : Running). r limited place object)
      (fold_out-Process Running (process_step g) (process.Flow b) ∙ ap (λ z. process_step g (map-Process Process Running (running g) z)) (process.outs-Flow b))

  pub means_same : (place : List Segment) → means g (process.Flow b) now place ≡ means g (process.Flow b) old place
  means_same place = by_layer now true place ∙ step_same (map-Process Process Running (running g) (layer.Flow b)) refl true place ∙ sym (by_layer old true place)

-- ---- defaults

same_either : (b : Bool) (x : Value) → cond b x x ≡ x
same_either true x = refl
same_either false x = refl

null_twice : (preset : Option Value) → given_or (Some (or_null preset)) preset ≡ or_null preset
null_twice None = same_either (is_undefined v.Absent) v.Absent
null_twice (Some d) = same_either (is_undefined d) d

-- What was taken once is taken as it is.
pub taken_twice : (o preset : Option Value) → given_or (Some (given_or o preset)) preset ≡ given_or o preset
taken_twice None preset = null_twice preset
taken_twice (Some x) preset = by_test (is_undefined x) refl (null_twice preset)
  where
    by_test : (b : Bool) → is_undefined x ≡ b → given_or (Some (or_null preset)) preset ≡ or_null preset → given_or (Some (cond b (or_null preset) x)) preset ≡ cond b (or_null preset) x
    by_test true e rest = rest
    by_test false e rest = ap (λ w. cond w (or_null preset) x) e

-- values under the names of inputs
pub named_at : (value : TInput → Value) (is : List TInput) → are_distinct (input_names is) ≡ true → (i : TInput) → Contains is i
    → value_at (map (λ (k : TInput). named k.name (value k)) is) i.name ≡ Some (value i)
named_at value [] d i c = absurd (none_is i c)
named_at value (j ∷ is) d i c =
    let p = and_parts (not (has_name j.name (input_names is))) (are_distinct (input_names is)) d in
    by_case p.0 (first_or_later j is i c) (named_at value is p.1 i)
  where
    by_case : not (has_name j.name (input_names is)) ≡ true → (j ≡ i) ⊎ Contains is i → (Contains is i → value_at (map (λ (k : TInput). named k.name (value k)) is) i.name ≡ Some (value i))
        → value_at (named j.name (value j) ∷ map (λ (k : TInput). named k.name (value k)) is) i.name ≡ Some (value i)
    by_case new (inl e) rest =
        subst (λ (z : TInput). value_at (named j.name (value j) ∷ map (λ (k : TInput). named k.name (value k)) is) z.name ≡ Some (value z)) e
        (ap (λ b. cond b (Some (value j)) (value_at (map (λ (k : TInput). named k.name (value k)) is) j.name)) (bytes_same j.name))
    by_case new (inr q) rest = ap (λ b. cond b (Some (value j)) (value_at (map (λ (k : TInput). named k.name (value k)) is) i.name)) (name_apart j is new i q) ∙ rest q

-- ---- records round a body

module _ (structs : Structs) (records : List RecordLeaf) (object : List Named) where
  -- the value of an input
  abbrev pub wide_value : TInput → Value
  wide_value i = cond (is_record i) (or_null (value_at object i.name)) (taken object (cwl_in i)).value

  abbrev pub wide_named : TInput → Named
  wide_named i = named i.name (wide_value i)

  pub all_are : (is : List TInput) → ((i : TInput) → Contains is i → wide_taken object (wide_in structs i) ≡ Some (wide_named i))
      → all_wide object (map (wide_in structs) is) ≡ Some (map wide_named is)
  all_are [] h = refl
  all_are (i ∷ is) h =
      ap (option_and_then (λ n. option_map (λ ns. n ∷ ns) (all_wide object (map (wide_in structs) is)))) (h i (first_is i is))
      ∙ ap (option_map (λ ns. wide_named i ∷ ns)) (all_are is (λ j c. h j (later_is i is j c)))

  -- the values of the wires
  abbrev wire_of : TInput → WideWire
  wire_of i = wire_by i.name (leaf_named records i.name)

  wired_are : (ns : List Named) (value : TInput → Value) (is : List TInput) → ((i : TInput) → Contains is i → option_and_then (through (wire_of i).path) (value_at ns (wire_of i).source) ≡ Some (value i))
      → ((i : TInput) → (wire_of i).id ≡ i.name) → wide_wired ns (map (wire_in records) (map cwl_in is)) ≡ Some (map (λ (i : TInput). named i.name (value i)) is)
  wired_are ns value [] h ids = refl
  wired_are ns value (i ∷ is) h ids =
      ap (option_and_then (λ x. option_map (λ ms. named (wire_of i).id x ∷ ms) (wide_wired ns (map (wire_in records) (map cwl_in is))))) (h i (first_is i is))
      ∙ ap (option_map (λ ms. named (wire_of i).id (value i) ∷ ms)) (wired_are ns value is (λ j c. h j (later_is i is j c)) ids)
      ∙ ap (λ id. Some (named id (value i) ∷ map (λ (j : TInput). named j.name (value j)) is)) (ids i)

  wire_id : (id : List ℕ) (o : Option RecordLeaf) → (wire_by id o).id ≡ id
  wire_id id None = refl
  wire_id id (Some l) = refl

  -- The meaning is that of the body for the values of the wires.
  pub wide_means : (g : Ground) (source is : List TInput) (body : CwlFlow Process) (value : TInput → Value) → body.inputs ≡ map cwl_in is
      → ((i : TInput) → Contains source i → wide_taken object (wide_in structs i) ≡ Some (wide_named i))
      → ((i : TInput) → Contains is i → option_and_then (through (wire_of i).path) (value_at (map wide_named source) (wire_of i).source) ≡ Some (value i))
      → means_wide g (wrapped records source structs body) object [] ≡ means g (process.Flow body) (map (λ (i : TInput). named i.name (value i)) is) []
  wide_means g source is body value e typed wires =
      ap (λ o. body_means g (wrapped records source structs body) [] (option_and_then (λ ns. wide_wired ns (map (wire_in records) body.inputs)) o)) (all_are source typed)
      ∙ ap (λ js. body_means g (wrapped records source structs body) [] (wide_wired (map wide_named source) (map (wire_in records) js))) e
      ∙ ap (body_means g (wrapped records source structs body) []) (wired_are (map wide_named source) value is wires (λ i. wire_id i.name (leaf_named records i.name)))
