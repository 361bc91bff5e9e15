-- Each process with record inputs that JSON stands for is written as that JSON.
use Rattle.std.proofs.Common.{◌≡◌, ℕ, Bool, true, false, cond, ◌&&◌, List, [], ◌∷◌, map, codes, Option, Some, None, option_and_then, refl, sym, ap, ◌∙◌, subst}
use Rattle.std.proofs.lemmas.Bool.{false≢true, and_parts}
use Rattle.std.proofs.lemmas.Option.{same_Some}
use Rattle.serde_json.specs.Data.{Data, string, array, object, no_items, item, Members, no_members, member}
use Rattle.cwl_model.specs.declared.process.CwlFlow.{CwlFlow}
use Rattle.cwl_model.specs.declared.process.FlowOut.{FlowOut}
use Rattle.cwl_model.specs.declared.process.Process.{Process, Process-F, out-Process, roll-Process, roll-out-Process}
use Rattle.cwl_model.specs.declared.process.Process.TheOpen as layer
use Rattle.cwl_model.specs.declared.process.Process.TheVariants as process
use Rattle.cwl_emit.specs.Reading.{cwl_of, flow_out_of, has_names, is_class, is_member, is_text, is_version, list_of, member_of, text_of, with3}
use Rattle.cwl_emit.specs.Writing.{class_json, flow_out_json, list, process_json}
use Rattle.cwl_emit.proofs.Flows.{class_is, flow_out_is, process_is}
use Rattle.cwl_emit.proofs.Parts.{of_three, Is, MembersAre, no_item, item_is, array_is, no_member, member_is, object_is, names_ordered, text_is, word_is, list_is, shape_of, shape_is}
use Rattle.cwl_records.specs.declared.wide.RecordProcess.{RecordProcess}
use Rattle.cwl_records.specs.declared.wide.WideIn.{WideIn}
use Rattle.cwl_records.specs.declared.wide.WideWire.{WideWire}
use Rattle.cwl_records.specs.WideReading.{BodyStep, are_ids, are_outer, are_requirements, body_of, body_step, body_step_in, body_step_of, flow_in, if_ids, is_outer, only_step, path_of, process_by, wide_in_members, wide_in_of, wide_of, wide_wire, wide_wire_of, wire_path}
use Rattle.cwl_records.specs.WideWriting.{body_id, flow_out_id, only, outer_json, outer_out, outer_requirements, path_members, step_json, value_from, wide_in_json, wide_json, wide_wire_json}
use Rattle.cwl_records.proofs.WideFields.{wide_in_is}
use Rattle.cwl_records.proofs.WideOutputs.{ids_are, outer_are}
use Rattle.cwl_records.proofs.WidePaths.{path_is}
use Rattle.wdl_base.proofs.Options.{then_parts, chosen_parts}

-- ---- wires

abbrev short_names : List (List ℕ)
short_names = codes "id" ∷ codes "source" ∷ []

abbrev long_names : List (List ℕ)
long_names = codes "id" ∷ codes "source" ∷ codes "valueFrom" ∷ []

-- a wire without its path, read from its object
record WireRead (ms : Members) (id source : List ℕ) : Type 0 where
  pub id_read : member_of (codes "id") text_of ms ≡ Some id
  pub source_read : member_of (codes "source") text_of ms ≡ Some source

ordered_wire : (i s : Data) (path : List (List ℕ)) → names_ordered (member (codes "id") i (member (codes "source") s (path_members path))) ≡ true
ordered_wire i s [] = refl
ordered_wire i s (n ∷ ns) = refl

wire_object : (ms : Members) (i s : Data) (tail : Members) (id source : List ℕ) (path : List (List ℕ)) → WireRead ms id source → ms ≡ member (codes "id") i (member (codes "source") s tail)
    → MembersAre tail (path_members path) → Is (object ms) (wide_wire_json (wide_wire id source path))
wire_object ms i s tail id source path read is rest =
    let own = text_is i id (sym (ap (member_of (codes "id") text_of) is) ∙ read.id_read) in
    let from = text_is s source (sym (ap (member_of (codes "source") text_of) is) ∙ read.source_read) in
    subst (λ m. Is (object m) (wide_wire_json (wide_wire id source path))) (sym is)
    (object_is _ _ (member_is (codes "id") i (string id) _ _ own (member_is (codes "source") s (string source) _ _ from rest)) (ordered_wire (string id) (string source) path))

abbrev longer : Members → Option (List (List ℕ))
longer ms = cond (has_names long_names ms) (member_of (codes "valueFrom") path_of ms) None

short_wire : (ms : Members) (id source : List ℕ) → WireRead ms id source → has_names short_names ms ≡ true → Is (object ms) (wide_wire_json (wide_wire id source []))
short_wire ms id source read names =
    let s = shape_of short_names ms names in
    wire_object ms s.0 s.3.0 no_members id source [] read (shape_is short_names ms s) no_member

long_wire : (ms : Members) (id source : List ℕ) (path : List (List ℕ)) → WireRead ms id source → longer ms ≡ Some path → Is (object ms) (wide_wire_json (wide_wire id source path))
long_wire ms id source path read h =
    let c = chosen_parts (has_names long_names ms) (member_of (codes "valueFrom") path_of ms) path h in
    let s = shape_of long_names ms c.0 in
    let is : ms ≡ member (codes "id") s.0 (member (codes "source") s.3.0 (member (codes "valueFrom") s.3.3.0 no_members)) = shape_is long_names ms s in
    let p = path_is s.3.3.0 path (sym (ap (member_of (codes "valueFrom") path_of) is) ∙ c.1) in
    wire_object ms s.0 s.3.0 (member (codes "valueFrom") s.3.3.0 no_members) id source path read is
    (subst (MembersAre (member (codes "valueFrom") s.3.3.0 no_members)) (sym p.members) (member_is (codes "valueFrom") s.3.3.0 (string (value_from path)) _ _ p.is no_member))

wire_by_path : (ms : Members) (id source : List ℕ) (path : List (List ℕ)) → WireRead ms id source → wire_path ms ≡ Some path → Is (object ms) (wide_wire_json (wide_wire id source path))
wire_by_path ms id source path read h = by_names (has_names short_names ms) refl h
  where
    by_names : (b : Bool) → has_names short_names ms ≡ b → cond b (Some []) (longer ms) ≡ Some path → Is (object ms) (wide_wire_json (wide_wire id source path))
    by_names true e k = subst (λ p. Is (object ms) (wide_wire_json (wide_wire id source p))) (same_Some [] path k) (short_wire ms id source read e)
    by_names false e k = long_wire ms id source path read k

wide_wire_is : (d : Data) (w : WideWire) → wide_wire_of d ≡ Some w → Is d (wide_wire_json w)
wide_wire_is (object ms) w h =
    let r = of_three wide_wire (member_of (codes "id") text_of ms) (member_of (codes "source") text_of ms) (wire_path ms) w h in
    subst (λ (x : WideWire). Is (object ms) (wide_wire_json x)) r.rest.made
    (wire_by_path ms r.x r.rest.x r.rest.y (record { id_read = r.first; source_read = r.rest.first }) r.rest.second)
wide_wire_is d w h = cc

-- ---- the step of the body

flow_is : (y : Process-F Process) (f : CwlFlow Process) → flow_in y ≡ Some f → roll-Process y ≡ process.Flow f
flow_is (layer.Tool t) f h = cc
flow_is (layer.Flow g) f h = process.rolls-Flow g ∙ ap process.Flow (same_Some g f h)

body_is : (d : Data) (f : CwlFlow Process) → body_of d ≡ Some f → Is d (process_json (process.Flow f) false)
body_is d f h =
    let p = then_parts (λ p. flow_in (out-Process p)) (cwl_of false d) f h in
    subst (λ p. Is d (process_json p false)) (sym (roll-out-Process p.0) ∙ flow_is (out-Process p.0) f p.2) (process_is false d p.0 p.1)

abbrev step_names : List (List ℕ)
step_names = codes "id" ∷ codes "in" ∷ codes "out" ∷ codes "run" ∷ []

abbrev written : BodyStep → Data
written s = step_json s.wires s.body.outputs (process_json (process.Flow s.body) false)

abbrev reads_step : Members → Option BodyStep
reads_step ms = with3 body_step (member_of (codes "in") (list_of wide_wire_of) ms) (member_of (codes "out") (list_of text_of) ms) (member_of (codes "run") body_of ms)

body_step_members_are : (ms : Members) (s : BodyStep) → body_step_in ms ≡ Some s → Is (object ms) (written s)
body_step_members_are ms s h =
    let c = chosen_parts (has_names step_names ms && is_member (codes "id") (is_text body_id) ms) (option_and_then if_ids (reads_step ms)) s h in
    let p = and_parts (has_names step_names ms) (is_member (codes "id") (is_text body_id) ms) c.0 in
    let a = shape_of step_names ms p.0 in
    let is : ms ≡ member (codes "id") a.0 (member (codes "in") a.3.0 (member (codes "out") a.3.3.0 (member (codes "run") a.3.3.3.0 no_members))) = shape_is step_names ms a in
    let own = word_is body_id a.0 (sym (ap (is_member (codes "id") (is_text body_id)) is) ∙ p.1) in
    let q = then_parts if_ids (reads_step ms) s c.1 in
    let t = chosen_parts (are_ids q.0.outs q.0.body.outputs) (Some q.0) s q.2 in
    let r = of_three body_step (list_of wide_wire_of a.3.0) (list_of text_of a.3.3.0) (body_of a.3.3.3.0) q.0 (sym (ap reads_step is) ∙ q.1) in
    let made = r.rest.made in
    let ids : r.rest.x ≡ map flow_out_id r.rest.y.outputs = ids_are r.rest.x r.rest.y.outputs (ap (λ (x : BodyStep). are_ids x.outs x.body.outputs) made ∙ t.0) in
    let outs = subst (λ xs. Is a.3.3.0 (list string xs)) ids (list_is text_of string text_is a.3.3.0 r.rest.x r.rest.first) in
    subst (λ m. Is (object m) (written s)) (sym is)
    (subst (λ (x : BodyStep). Is (object (member (codes "id") a.0 (member (codes "in") a.3.0 (member (codes "out") a.3.3.0 (member (codes "run") a.3.3.3.0 no_members))))) (written x)) (made ∙ same_Some q.0 s t.1)
    (object_is _ _
    (member_is (codes "id") a.0 (string body_id) _ _ own
    (member_is (codes "in") a.3.0 (list wide_wire_json r.x) _ _ (list_is wide_wire_of wide_wire_json wide_wire_is a.3.0 r.x r.first)
    (member_is (codes "out") a.3.3.0 (list string (map flow_out_id r.rest.y.outputs)) _ _ outs
    (member_is (codes "run") a.3.3.3.0 (process_json (process.Flow r.rest.y) false) _ _ (body_is a.3.3.3.0 r.rest.y r.rest.second) no_member))))
    refl))

body_step_is : (d : Data) (s : BodyStep) → body_step_of d ≡ Some s → Is d (written s)
body_step_is (object ms) s h = body_step_members_are ms s h
body_step_is d s h = cc

only_step_is : (d : Data) (s : BodyStep) → only_step d ≡ Some s → Is d (only (written s))
only_step_is (array (item d no_items)) s h = array_is _ _ (item_is d (written s) _ _ (body_step_is d s h) no_item)
only_step_is d s h = cc

-- ---- the outer workflow

abbrev by_expression : List ℕ
by_expression = codes "StepInputExpressionRequirement"

abbrev by_workflow : List ℕ
by_workflow = codes "SubworkflowFeatureRequirement"

requirements_are : (d : Data) → are_requirements d ≡ true → Is d outer_requirements
requirements_are (array no_items) h = absurd (false≢true h)
requirements_are (array (item d no_items)) h = absurd (false≢true (and_parts (is_class by_expression d) false h).1)
requirements_are (array (item d (item e no_items))) h =
    let p = and_parts (is_class by_expression d) (is_class by_workflow e && true) h in
    let q = and_parts (is_class by_workflow e) true p.1 in
    array_is _ _
    (item_is d (class_json by_expression) _ _ (class_is by_expression d p.0) (item_is e (class_json by_workflow) _ _ (class_is by_workflow e q.0) no_item))
requirements_are (array (item d (item e (item f ds)))) h =
    let p = and_parts (is_class by_expression d) (is_class by_workflow e && false) h in
    absurd (false≢true (and_parts (is_class by_workflow e) false p.1).1)
requirements_are d h = absurd (false≢true h)

abbrev outer_names : List (List ℕ)
outer_names = codes "class" ∷ codes "cwlVersion" ∷ codes "inputs" ∷ codes "outputs" ∷ codes "requirements" ∷ codes "steps" ∷ []

-- the members of the outer workflow, read from its object
record OuterRead (ms : Members) (inputs : List WideIn) (outputs : List FlowOut) (s : BodyStep) : Type 0 where
  pub names : has_names outer_names ms ≡ true
  pub version : is_version true ms ≡ true
  pub class : is_member (codes "class") (is_text (codes "Workflow")) ms ≡ true
  pub requirements : is_member (codes "requirements") are_requirements ms ≡ true
  pub inputs_read : member_of (codes "inputs") (list_of wide_in_of) ms ≡ Some inputs
  pub outputs_read : member_of (codes "outputs") (list_of flow_out_of) ms ≡ Some outputs
  pub step_read : member_of (codes "steps") only_step ms ≡ Some s

outer_members_are : (ms : Members) (inputs : List WideIn) (outputs : List FlowOut) (s : BodyStep) → OuterRead ms inputs outputs s → outputs ≡ map outer_out s.body.outputs
    → Is (object ms) (outer_json (list wide_in_json inputs) s.body.outputs (written s))
outer_members_are ms inputs outputs s read given =
    let a = shape_of outer_names ms read.names in
    let is : ms
    ≡ member (codes "class") a.0 (member (codes "cwlVersion") a.3.0 (member (codes "inputs") a.3.3.0 (member (codes "outputs") a.3.3.3.0 (member (codes "requirements") a.3.3.3.3.0 (member (codes "steps") a.3.3.3.3.3.0 no_members))))) = shape_is outer_names ms a in
    let class = word_is (codes "Workflow") a.0 (sym (ap (is_member (codes "class") (is_text (codes "Workflow"))) is) ∙ read.class) in
    let version = word_is (codes "v1.2") a.3.0 (sym (ap (is_member (codes "cwlVersion") (is_text (codes "v1.2"))) is) ∙ read.version) in
    let ins = list_is wide_in_of wide_in_json wide_in_is a.3.3.0 inputs (sym (ap (member_of (codes "inputs") (list_of wide_in_of)) is) ∙ read.inputs_read) in
    let outs = list_is flow_out_of flow_out_json flow_out_is a.3.3.3.0 outputs (sym (ap (member_of (codes "outputs") (list_of flow_out_of)) is) ∙ read.outputs_read) in
    let wants = requirements_are a.3.3.3.3.0 (sym (ap (is_member (codes "requirements") are_requirements) is) ∙ read.requirements) in
    let step = only_step_is a.3.3.3.3.3.0 s (sym (ap (member_of (codes "steps") only_step) is) ∙ read.step_read) in
    subst (λ m. Is (object m) (outer_json (list wide_in_json inputs) s.body.outputs (written s))) (sym is)
    (object_is _ _
    (member_is (codes "class") a.0 (string (codes "Workflow")) _ _ class
    (member_is (codes "cwlVersion") a.3.0 (string (codes "v1.2")) _ _ version
    (member_is (codes "inputs") a.3.3.0 (list wide_in_json inputs) _ _ ins
    (member_is (codes "outputs") a.3.3.3.0 (list flow_out_json (map outer_out s.body.outputs)) _ _ (subst (λ (xs : List FlowOut). Is a.3.3.3.0 (list flow_out_json xs)) given outs)
    (member_is (codes "requirements") a.3.3.3.3.0 outer_requirements _ _ wants (member_is (codes "steps") a.3.3.3.3.3.0 (only (written s)) _ _ step no_member))))))
    refl)

wide_members_are : (ms : Members) (p : RecordProcess) → wide_in_members ms ≡ Some p → Is (object ms) (wide_json p)
wide_members_are ms p h =
    let inputs = member_of (codes "inputs") (list_of wide_in_of) ms in
    let outputs = member_of (codes "outputs") (list_of flow_out_of) ms in
    let step = member_of (codes "steps") only_step ms in
    let c = chosen_parts (is_outer ms) (option_and_then (λ is. option_and_then (λ os. option_and_then (process_by is os) step) outputs) inputs) p h in
    let names = has_names outer_names ms in
    let version = is_version true ms in
    let class = is_member (codes "class") (is_text (codes "Workflow")) ms in
    let a = and_parts (names && version && class) (is_member (codes "requirements") are_requirements ms) c.0 in
    let b = and_parts (names && version) class a.0 in
    let k = and_parts names version b.0 in
    let i = then_parts (λ is. option_and_then (λ os. option_and_then (process_by is os) step) outputs) inputs p c.1 in
    let o = then_parts (λ os. option_and_then (process_by i.0 os) step) outputs p i.2 in
    let s = then_parts (process_by i.0 o.0) step p o.2 in
    let t = chosen_parts (are_outer o.0 s.0.body.outputs) (Some (record { inputs = i.0; wires = s.0.wires; body = s.0.body })) p s.2 in
    subst (λ (x : RecordProcess). Is (object ms) (wide_json x)) (same_Some (record { inputs = i.0; wires = s.0.wires; body = s.0.body }) p t.1)
    (outer_members_are ms i.0 o.0 s.0
    (record { names = k.0; version = k.1; class = b.1; requirements = a.1; inputs_read = i.1; outputs_read = o.1; step_read = s.1 })
    (outer_are o.0 s.0.body.outputs t.0))

-- what stands for a process is what is written for it
pub wide_is : (d : Data) (p : RecordProcess) → wide_of d ≡ Some p → Is d (wide_json p)
wide_is (object ms) p h = wide_members_are ms p h
wide_is d p h = cc
