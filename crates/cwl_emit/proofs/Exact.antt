-- What is written has no float: processes and input objects.
use Rattle.std.proofs.Common.{◌≡◌, ℕ, Bool, true, false, ◌||◌, List, [], ◌∷◌, map, codes, Option, Some, None, Ordering, Less, Equal, Greater, refl, ap, ◌∙◌, subst}
use Rattle.std.proofs.lemmas.Bool.{or_parts, or_from}
use Rattle.std.specs.Ordering.{match_ordering}
use Rattle.serde_json.specs.Data.{Data, string, array, Members, no_members, member, put}
use Rattle.serde_json.specs.View.{items_of}
use Rattle.serde_json.specs.Written.{has_float, items_have_float, members_have_float}
use Rattle.wdl_value.specs.declared.env.Bind.{Bind}
use Rattle.wdl_value.specs.declared.value.Field.{Field}
use Rattle.wdl_value.specs.declared.value.Value.{Value, Value-F, ind-Value, roll-Value, map-Value, fold-roll-Value}
use Rattle.wdl_value.specs.declared.value.Value.TheOpen as value
use Rattle.wdl_value.proofs.ValueLayers.{Known, plain, firsts, first_fields}
use Rattle.wdl_json.proofs.Texts.{value_exact, put_float as put_exact, integer_exact}
use Rattle.json_values.specs.Writing.{json_of}
use Rattle.cwl_model.specs.declared.process.CwlStep.{CwlStep}
use Rattle.cwl_model.specs.declared.process.FlowOut.{FlowOut}
use Rattle.cwl_model.specs.declared.process.Mode.{Mode}
use Rattle.cwl_model.specs.declared.process.Mode.TheVariants as mode
use Rattle.cwl_model.specs.declared.process.Process.{Process, Process-F, map-Process, roll-Process, ind-Process, fold-roll-Process}
use Rattle.cwl_model.specs.declared.process.Process.TheOpen as layer
use Rattle.cwl_model.specs.declared.process.Wire.{Wire}
use Rattle.cwl_model.specs.declared.tool.CwlIn.{CwlIn}
use Rattle.cwl_model.specs.declared.tool.Origin.{Origin}
use Rattle.cwl_model.specs.declared.tool.Origin.TheVariants as origin
use Rattle.cwl_model.specs.declared.tool.Tool.{Tool}
use Rattle.cwl_model.specs.declared.tool.ToolOut.{ToolOut}
use Rattle.cwl_model.specs.declared.ty.CwlTy.{CwlTy, CwlTy-F, map-CwlTy, roll-CwlTy, ind-CwlTy, fold-roll-CwlTy}
use Rattle.cwl_model.specs.declared.ty.CwlTy.TheOpen as type
use Rattle.cwl_emit.specs.Objects.{object_step, value_object, fields_put, with_given, object_json}
use Rattle.cwl_emit.specs.Writing.{list, type_step, type_json, with_default, input_json, origin_members, tool_out_json, code_json, code_members, with_version, tool_json, flow_out_json, wire_json, mode_members, flow_json, step_written, process_step, process_json, with_json}

pub all_exact : {A : Type 0} (f : A → Data) → ((x : A) → has_float (f x) ≡ false) → (xs : List A) → items_have_float (items_of (map f xs)) ≡ false
all_exact f each [] = refl
all_exact f each (x ∷ xs) = or_from (has_float (f x)) (items_have_float (items_of (map f xs))) (each x) (all_exact f each xs)

-- ---- types and inputs

abbrev pub TypeExact : CwlTy → Type 0
TypeExact t = has_float (type_json t) ≡ false

abbrev plain_type : CwlTy-F ((t : CwlTy) × TypeExact t) → CwlTy-F CwlTy
plain_type = map-CwlTy ((t : CwlTy) × TypeExact t) CwlTy (λ (k : (t : CwlTy) × TypeExact t). k.0)

type_layer : (y : CwlTy-F ((t : CwlTy) × TypeExact t)) → has_float (type_step (map-CwlTy CwlTy Data type_json (plain_type y))) ≡ false
type_layer type.Bool = refl
type_layer type.Long = refl
type_layer type.Str = refl
type_layer type.File = refl
type_layer (type.List k) = or_from (has_float (type_json k.0)) false k.1 refl
type_layer (type.Null k) = or_from (has_float (type_json k.0)) false k.1 refl

pub type_exact : (t : CwlTy) → TypeExact t
type_exact = ind-CwlTy TypeExact (λ l y is. subst (λ (z : CwlTy-F CwlTy). TypeExact (roll-CwlTy z)) is (ap has_float (fold-roll-CwlTy Data type_step (plain_type y)) ∙ type_layer y))

pub input_exact : (i : CwlIn) → has_float (input_json i) ≡ false
input_exact i = by_preset i.preset
  where
    typed : has_float (type_json i.ty) || false ≡ false
    typed = or_from (has_float (type_json i.ty)) false (type_exact i.ty) refl

    by_preset : (o : Option Value) → members_have_float (with_default o (member (codes "id") (string i.id) (member (codes "type") (type_json i.ty) no_members))) ≡ false
    by_preset None = typed
    by_preset (Some x) = or_from (has_float (json_of x)) (has_float (type_json i.ty) || false) (value_exact x) typed

-- ---- tools

tool_out_exact : (o : ToolOut) → has_float (tool_out_json o) ≡ false
tool_out_exact o = by_origin o.origin
  where
    by_origin : (x : Origin) → members_have_float (origin_members x) ≡ false
    by_origin origin.Stdout = refl
    by_origin (origin.Glob name) = refl

codes_exact : (ns : Option (List ℕ)) → members_have_float (code_members ns) ≡ false
codes_exact None = refl
codes_exact (Some ns) = or_from (items_have_float (items_of (map code_json ns))) false (all_exact code_json (λ n. refl) ns) refl

version_exact : (outermost : Bool) (ms : Members) → members_have_float ms ≡ false → members_have_float (with_version outermost ms) ≡ false
version_exact true ms h = h
version_exact false ms h = h

tool_exact : (outermost : Bool) (t : Tool) → has_float (tool_json outermost t) ≡ false
tool_exact outermost t =
    version_exact outermost
    (member (codes "inputs") (list input_json t.inputs) (member (codes "outputs") (list tool_out_json t.outputs) (member (codes "stdout") (string (codes "_stdout")) (code_members t.codes))))
    (or_from (items_have_float (items_of (map input_json t.inputs))) _ (all_exact input_json input_exact t.inputs)
    (or_from (items_have_float (items_of (map tool_out_json t.outputs))) _ (all_exact tool_out_json tool_out_exact t.outputs) (codes_exact t.codes)))

-- ---- workflows

pub flow_out_exact : (o : FlowOut) → has_float (flow_out_json o) ≡ false
flow_out_exact o = or_from (has_float (type_json o.ty)) false (type_exact o.ty) refl

mode_exact : (m : Mode) → members_have_float (mode_members m) ≡ false
mode_exact mode.Plain = refl
mode_exact (mode.Scatter id) = refl
mode_exact mode.When = refl

abbrev Exact : Process → Type 0
Exact p = (outermost : Bool) → has_float (process_json p outermost) ≡ false

abbrev Child : Type 0
Child = (p : Process) × Exact p

abbrev plain_process : Process-F Child → Process-F Process
plain_process = map-Process Child Process (λ (k : Child). k.0)

abbrev first_step : CwlStep Child → CwlStep Process
first_step s = record { id = s.id; wires = s.wires; outs = s.outs; run = s.run.0; mode = s.mode }

step_exact : (s : CwlStep Child) → has_float (step_written (with_json (first_step s))) ≡ false
step_exact s =
    or_from (items_have_float (items_of (map wire_json s.wires))) _ (all_exact wire_json (λ (w : Wire). refl) s.wires)
    (or_from (items_have_float (items_of (map string s.outs))) _ (all_exact string (λ t. refl) s.outs)
    (or_from (has_float (process_json s.run.0 false)) _ (s.run.1 false) (mode_exact s.mode)))

steps_exact : (ss : List (CwlStep Child)) → items_have_float (items_of (map step_written (map with_json (map first_step ss)))) ≡ false
steps_exact [] = refl
steps_exact (s ∷ ss) =
    or_from (has_float (step_written (with_json (first_step s)))) (items_have_float (items_of (map step_written (map with_json (map first_step ss))))) (step_exact s) (steps_exact ss)

flow_exact : (outermost : Bool) (ins : List CwlIn) (outs : List FlowOut) (steps : Data) → has_float steps ≡ false → has_float (flow_json outermost ins outs steps) ≡ false
flow_exact outermost ins outs steps h = by_version outermost
  where
    rest : items_have_float (items_of (map input_json ins)) || (items_have_float (items_of (map flow_out_json outs)) || (has_float steps || false)) ≡ false
    rest =
        or_from (items_have_float (items_of (map input_json ins))) _ (all_exact input_json input_exact ins)
        (or_from (items_have_float (items_of (map flow_out_json outs))) _ (all_exact flow_out_json flow_out_exact outs) (or_from (has_float steps) false h refl))

    by_version : (b : Bool) → has_float (flow_json b ins outs steps) ≡ false
    by_version true = rest
    by_version false = rest

process_layer : (y : Process-F Child) (outermost : Bool) → has_float (process_step (map-Process Process (Bool → Data) process_json (plain_process y)) outermost) ≡ false
process_layer (layer.Tool t) outermost = tool_exact outermost t
process_layer (layer.Flow f) outermost = flow_exact outermost f.inputs f.outputs (array (items_of (map step_written (map with_json (map first_step f.steps))))) (steps_exact f.steps)

-- what is written for a process has no float
pub process_exact : (p : Process) → Exact p
process_exact = ind-Process Exact (λ l y is. subst (λ (z : Process-F Process). Exact (roll-Process z)) is (λ outermost.
    ap (λ (w : Bool → Data). has_float (w outermost)) (fold-roll-Process (Bool → Data) process_step (plain_process y)) ∙ process_layer y outermost))

-- ---- input objects

put_at : (o : Ordering) (k l : List ℕ) (d e : Data) (ms : Members) → has_float d ≡ false → has_float e || members_have_float ms ≡ false → members_have_float (put k d ms) ≡ false
    → members_have_float (match_ordering o (member k d (member l e ms)) (member l d ms) (member l e (put k d ms))) ≡ false
put_at Less k l d e ms h i more = or_from (has_float d) (has_float e || members_have_float ms) h i
put_at Equal k l d e ms h i more = or_from (has_float d) (members_have_float ms) h (or_parts (has_float e) (members_have_float ms) i).1
put_at Greater k l d e ms h i more = or_from (has_float e) (members_have_float (put k d ms)) (or_parts (has_float e) (members_have_float ms) i).0 more

abbrev IsObject : Value → Type 0
IsObject x = has_float (value_object x) ≡ false

values_exact : (ks : List (Known IsObject)) → items_have_float (items_of (map value_object (firsts IsObject ks))) ≡ false
values_exact [] = refl
values_exact (k ∷ ks) = or_from (has_float (value_object k.0)) (items_have_float (items_of (map value_object (firsts IsObject ks)))) k.1 (values_exact ks)

fields_exact : (ks : List (Field (Known IsObject))) (ms : Members) → members_have_float ms ≡ false
    → members_have_float (fields_put (map (λ (f : Field Value). record { name = f.name; value = value_object f.value }) (first_fields IsObject ks)) ms) ≡ false
fields_exact [] ms h = h
fields_exact (k ∷ ks) ms h = fields_exact ks (put k.name (value_object k.value.0) ms) (put_exact k.name (value_object k.value.0) ms k.value.1 h)

value_layer : (y : Value-F (Known IsObject)) → has_float (object_step (map-Value Value Data value_object (plain IsObject y))) ≡ false
value_layer (value.Bool b) = refl
value_layer (value.Int n) = integer_exact n
value_layer (value.Str s) = refl
value_layer (value.File s) = refl
value_layer (value.List ks) = values_exact ks
value_layer (value.Pair a b) = refl
value_layer (value.Map rows) = refl
value_layer (value.Struct name ks) = fields_exact ks no_members refl
value_layer value.Absent = refl

value_object_exact : (x : Value) → IsObject x
value_object_exact = ind-Value IsObject (λ l y is. subst (λ (z : Value-F Value). IsObject (roll-Value z)) is (ap has_float (fold-roll-Value Data object_step (plain IsObject y)) ∙ value_layer y))

given_exact : (bs : List Bind) (ms : Members) → members_have_float ms ≡ false → members_have_float (with_given bs ms) ≡ false
given_exact [] ms h = h
given_exact (b ∷ bs) ms h = given_exact bs (put b.key.first (value_object b.value) ms) (put_exact b.key.first (value_object b.value) ms (value_object_exact b.value) h)

-- an input object has no float
pub object_exact : (given : List Bind) → has_float (object_json given) ≡ false
object_exact given = given_exact given no_members refl
