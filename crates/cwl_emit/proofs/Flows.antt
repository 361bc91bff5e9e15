-- Workflows and processes.
use Rattle.std.proofs.Common.{◌≡◌, ℕ, Bool, true, false, cond, ◌==◌, ◌&&◌, List, [], ◌∷◌, ◌++◌, map, codes, Option, Some, None, option_map, Result, Ok, Err, IfOk, refl, sym, ap, ◌∙◌, subst}
use Rattle.std.proofs.lemmas.Bool.{false≢true, and_parts, eqb-true}
use Rattle.std.proofs.lemmas.Option.{same_Some}
use Rattle.serde_json.specs.Data.{Data, null, boolean, number, string, array, object, Items, no_items, item, Members, no_members, member}
use Rattle.serde_json.specs.View.{items_of, view}
use Rattle.serde_json.specs.declared.value.Value as json
use Rattle.cwl_model.specs.declared.process.CwlFlow.{CwlFlow}
use Rattle.cwl_model.specs.declared.process.CwlStep.{CwlStep}
use Rattle.cwl_model.specs.declared.process.FlowOut.{FlowOut}
use Rattle.cwl_model.specs.declared.process.Link.{Link}
use Rattle.cwl_model.specs.declared.process.Mode.{Mode}
use Rattle.cwl_model.specs.declared.process.Mode.TheVariants as mode
use Rattle.cwl_model.specs.declared.process.Process.{Process, fold-roll-Process}
use Rattle.cwl_model.specs.declared.process.Process.TheVariants as process
use Rattle.cwl_model.specs.declared.process.Process.TheOpen as layer
use Rattle.cwl_model.specs.declared.process.Wire.{Wire}
use Rattle.cwl_model.specs.declared.tool.CwlIn.{CwlIn}
use Rattle.cwl_model.specs.declared.tool.Tool.{Tool}
use Rattle.cwl_emit.specs.Reading.{text_of, is_text, list_of, has_names, is_member, member_of, with2, with3, type_of, input_of, is_version, cut_at, link_by, link_of, flow_out, flow_out_of, wire, wire_of, step_names, mode_in, step, step_in, is_class, are_requirements, flow_names, flow, is_flow, flow_in, tool_in, tool_or_flow, cwl_of, member_steps, steps_of, all_steps, step_of, member_run}
use Rattle.cwl_emit.specs.Laws.{HasJson}
use Rattle.cwl_emit.specs.Writing.{list, type_json, input_json, tool_json, link_text, link_json, flow_out_json, wire_json, mode_members, step_json, class_json, requirements_json, flow_json, step_written, process_step, process_json, with_json, steps_json}
use Rattle.cwl_emit.proofs.Parts.{of_two, of_three, of_five, Is, ItemsAre, MembersAre, no_item, item_is, array_is, no_member, member_is, object_is, text_is, word_is, list_is, names_ordered, shape_of, shape_is}
use Rattle.cwl_emit.proofs.Values.{type_is, input_is, Found, first_named, found_at, found_is}
use Rattle.cwl_emit.proofs.Tools.{tool_is}
use Rattle.wdl_base.proofs.Options.{map_parts, then_parts, chosen_parts}

-- ---- sources

cut_is : (c : ℕ) (s : List ℕ) (p : List ℕ × List ℕ) → cut_at c s ≡ Some p → s ≡ p.0 ++ c ∷ p.1
cut_is c [] p h = cc
cut_is c (d ∷ ds) p h = by_test (d == c) refl h (cut_is c ds)
  where
    by_test : (b : Bool) → (d == c) ≡ b → cond b (Some ([], ds)) (option_map (λ (q : List ℕ × List ℕ). (d ∷ q.0, q.1)) (cut_at c ds)) ≡ Some p → ((q : List ℕ × List ℕ) → cut_at c ds ≡ Some q → ds ≡ q.0 ++ c ∷ q.1) → d ∷ ds ≡ p.0 ++ c ∷ p.1
    by_test true e k more = subst (λ (q : List ℕ × List ℕ). d ∷ ds ≡ q.0 ++ c ∷ q.1) (same_Some ([], ds) p k) (ap (λ x. x ∷ ds) (eqb-true d c e))
    by_test false e k more =
        let m = map_parts (λ (q : List ℕ × List ℕ). (d ∷ q.0, q.1)) (cut_at c ds) p k in
        subst (λ (q : List ℕ × List ℕ). d ∷ ds ≡ q.0 ++ c ∷ q.1) m.2 (ap (λ x. d ∷ x) (more m.0 m.1))

link_text_is : (s : List ℕ) → link_text (link_by s (cut_at 47 s)) ≡ s
link_text_is s = by_cut (cut_at 47 s) refl
  where
    by_cut : (o : Option (List ℕ × List ℕ)) → cut_at 47 s ≡ o → link_text (link_by s o) ≡ s
    by_cut None e = refl
    by_cut (Some p) e = sym (cut_is 47 s p e)

link_is : (d : Data) (l : Link) → link_of d ≡ Some l → Is d (link_json l)
link_is d l h =
    let m = map_parts (λ s. link_by s (cut_at 47 s)) (text_of d) l h in
    subst (λ x. Is d (link_json x)) m.2 (subst (λ s. Is d (string s)) (sym (link_text_is m.0)) (text_is d m.0 m.1))

-- ---- outputs and wires

abbrev out_names : List (List ℕ)
out_names = codes "id" ∷ codes "outputSource" ∷ codes "type" ∷ []

abbrev reads_out : Members → Option FlowOut
reads_out ms = with3 flow_out (member_of (codes "id") text_of ms) (member_of (codes "outputSource") link_of ms) (member_of (codes "type") type_of ms)

pub flow_out_is : (d : Data) (o : FlowOut) → flow_out_of d ≡ Some o → Is d (flow_out_json o)
flow_out_is (object ms) o h =
    let c = chosen_parts (has_names out_names ms) (reads_out ms) o h in
    let s = shape_of out_names ms c.0 in
    let is : ms ≡ member (codes "id") s.0 (member (codes "outputSource") s.3.0 (member (codes "type") s.3.3.0 no_members)) = shape_is out_names ms s in
    let r = of_three flow_out (text_of s.0) (link_of s.3.0) (type_of s.3.3.0) o (sym (ap reads_out is) ∙ c.1) in
    subst (λ m. Is (object m) (flow_out_json o)) (sym is)
    (subst (λ (x : FlowOut). Is (object (member (codes "id") s.0 (member (codes "outputSource") s.3.0 (member (codes "type") s.3.3.0 no_members)))) (flow_out_json x)) r.rest.made
    (object_is _ _
    (member_is (codes "id") s.0 (string r.x) _ _ (text_is s.0 r.x r.first)
    (member_is (codes "outputSource") s.3.0 (link_json r.rest.x) _ _ (link_is s.3.0 r.rest.x r.rest.first)
    (member_is (codes "type") s.3.3.0 (type_json r.rest.y) _ _ (type_is s.3.3.0 r.rest.y r.rest.second) no_member)))
    refl))
flow_out_is d o h = cc

abbrev wire_names : List (List ℕ)
wire_names = codes "id" ∷ codes "source" ∷ []

abbrev reads_wire : Members → Option Wire
reads_wire ms = with2 wire (member_of (codes "id") text_of ms) (member_of (codes "source") link_of ms)

wire_is : (d : Data) (w : Wire) → wire_of d ≡ Some w → Is d (wire_json w)
wire_is (object ms) w h =
    let c = chosen_parts (has_names wire_names ms) (reads_wire ms) w h in
    let s = shape_of wire_names ms c.0 in
    let is : ms ≡ member (codes "id") s.0 (member (codes "source") s.3.0 no_members) = shape_is wire_names ms s in
    let r = of_two wire (text_of s.0) (link_of s.3.0) w (sym (ap reads_wire is) ∙ c.1) in
    subst (λ m. Is (object m) (wire_json w)) (sym is)
    (subst (λ (x : Wire). Is (object (member (codes "id") s.0 (member (codes "source") s.3.0 no_members))) (wire_json x)) r.made
    (object_is _ _ (member_is (codes "id") s.0 (string r.x) _ _ (text_is s.0 r.x r.first) (member_is (codes "source") s.3.0 (link_json r.y) _ _ (link_is s.3.0 r.y r.second) no_member)) refl))
wire_is d w h = cc

-- ---- steps

ordered_step : (i w o r : Data) (m : Mode) → names_ordered (member (codes "id") i (member (codes "in") w (member (codes "out") o (member (codes "run") r (mode_members m))))) ≡ true
ordered_step i w o r mode.Plain = refl
ordered_step i w o r (mode.Scatter id) = refl
ordered_step i w o r mode.When = refl

-- a step without its mode, read from its object
record StepRead (ms : Members) (id : List ℕ) (wires : List Wire) (outs : List (List ℕ)) (run : Process) : Type 0 where
  pub id_read : member_of (codes "id") text_of ms ≡ Some id
  pub wires_read : member_of (codes "in") (list_of wire_of) ms ≡ Some wires
  pub outs_read : member_of (codes "out") (list_of text_of) ms ≡ Some outs
  pub run_found : Found (codes "run") ms (process_json run false)

step_object : (ms : Members) (i w o r : Data) (tail : Members) (id : List ℕ) (wires : List Wire) (outs : List (List ℕ)) (run : Process) (m : Mode)
    → StepRead ms id wires outs run → ms ≡ member (codes "id") i (member (codes "in") w (member (codes "out") o (member (codes "run") r tail))) → MembersAre tail (mode_members m)
    → Is (object ms) (step_json (step id wires outs run m) (process_json run false))
step_object ms i w o r tail id wires outs run m read is rest =
    let own = text_is i id (sym (ap (member_of (codes "id") text_of) is) ∙ read.id_read) in
    let wired = list_is wire_of wire_json wire_is w wires (sym (ap (member_of (codes "in") (list_of wire_of)) is) ∙ read.wires_read) in
    let given = list_is text_of string text_is o outs (sym (ap (member_of (codes "out") (list_of text_of)) is) ∙ read.outs_read) in
    let inner = found_is (codes "run") ms r (process_json run false) (ap (first_named (codes "run")) is) read.run_found in
    subst (λ x. Is (object x) (step_json (step id wires outs run m) (process_json run false))) (sym is)
    (object_is _ _
    (member_is (codes "id") i (string id) _ _ own
    (member_is (codes "in") w (list wire_json wires) _ _ wired
    (member_is (codes "out") o (list string outs) _ _ given (member_is (codes "run") r (process_json run false) _ _ inner rest))))
    (ordered_step (string id) (list wire_json wires) (list string outs) (process_json run false) m))

abbrev by_scatter : List (List ℕ)
by_scatter = codes "scatter" ∷ []

abbrev by_when : List (List ℕ)
by_when = codes "when" ∷ []

plain_step : (ms : Members) (id : List ℕ) (wires : List Wire) (outs : List (List ℕ)) (run : Process) → StepRead ms id wires outs run → has_names (step_names []) ms ≡ true
    → Is (object ms) (step_json (step id wires outs run mode.Plain) (process_json run false))
plain_step ms id wires outs run read names =
    let s = shape_of (step_names []) ms names in
    step_object ms s.0 s.3.0 s.3.3.0 s.3.3.3.0 no_members id wires outs run mode.Plain read (shape_is (step_names []) ms s) no_member

scatter_step : (ms : Members) (id : List ℕ) (wires : List Wire) (outs : List (List ℕ)) (run : Process) (item_id : List ℕ) → StepRead ms id wires outs run → has_names (step_names by_scatter) ms ≡ true
    → member_of (codes "scatter") text_of ms ≡ Some item_id → Is (object ms) (step_json (step id wires outs run (mode.Scatter item_id)) (process_json run false))
scatter_step ms id wires outs run item_id read names h =
    let s = shape_of (step_names by_scatter) ms names in
    let is = shape_is (step_names by_scatter) ms s in
    let own = text_is s.3.3.3.3.0 item_id (sym (ap (member_of (codes "scatter") text_of) is) ∙ h) in
    step_object ms s.0 s.3.0 s.3.3.0 s.3.3.3.0 _ id wires outs run (mode.Scatter item_id) read is (member_is (codes "scatter") s.3.3.3.3.0 (string item_id) _ _ own no_member)

when_step : (ms : Members) (id : List ℕ) (wires : List Wire) (outs : List (List ℕ)) (run : Process) → StepRead ms id wires outs run
    → has_names (step_names by_when) ms && is_member (codes "when") (is_text (codes "$(inputs._when)")) ms ≡ true
    → Is (object ms) (step_json (step id wires outs run mode.When) (process_json run false))
when_step ms id wires outs run read h =
    let p = and_parts (has_names (step_names by_when) ms) (is_member (codes "when") (is_text (codes "$(inputs._when)")) ms) h in
    let s = shape_of (step_names by_when) ms p.0 in
    let is = shape_is (step_names by_when) ms s in
    let word = word_is (codes "$(inputs._when)") s.3.3.3.3.0 (sym (ap (is_member (codes "when") (is_text (codes "$(inputs._when)"))) is) ∙ p.1) in
    step_object ms s.0 s.3.0 s.3.3.0 s.3.3.3.0 _ id wires outs run mode.When read is (member_is (codes "when") s.3.3.3.3.0 (string (codes "$(inputs._when)")) _ _ word no_member)

abbrev scattered : Members → Option Mode
scattered ms = option_map mode.Scatter (member_of (codes "scatter") text_of ms)

abbrev is_conditional : Members → Bool
is_conditional ms = has_names (step_names by_when) ms && is_member (codes "when") (is_text (codes "$(inputs._when)")) ms

step_by_mode : (ms : Members) (id : List ℕ) (wires : List Wire) (outs : List (List ℕ)) (run : Process) (m : Mode) → StepRead ms id wires outs run → mode_in ms ≡ Some m
    → Is (object ms) (step_json (step id wires outs run m) (process_json run false))
step_by_mode ms id wires outs run m read h = by_names (has_names (step_names []) ms) (has_names (step_names by_scatter) ms) (is_conditional ms) refl refl refl h
  where
    by_names : (a b c : Bool) → has_names (step_names []) ms ≡ a → has_names (step_names by_scatter) ms ≡ b → is_conditional ms ≡ c
        → cond a (Some mode.Plain) (cond b (scattered ms) (cond c (Some mode.When) None)) ≡ Some m → Is (object ms) (step_json (step id wires outs run m) (process_json run false))
    by_names true b c e f g k = subst (λ x. Is (object ms) (step_json (step id wires outs run x) (process_json run false))) (same_Some mode.Plain m k) (plain_step ms id wires outs run read e)
    by_names false true c e f g k =
        let p = map_parts mode.Scatter (member_of (codes "scatter") text_of ms) m k in
        subst (λ x. Is (object ms) (step_json (step id wires outs run x) (process_json run false))) p.2 (scatter_step ms id wires outs run p.0 read f p.1)
    by_names false false true e f g k = subst (λ x. Is (object ms) (step_json (step id wires outs run x) (process_json run false))) (same_Some mode.When m k) (when_step ms id wires outs run read g)
    by_names false false false e f g k = cc

step_members_are : (ms : Members) (s : CwlStep Process) → step_in ms (member_run ms) ≡ Some s → ((p : Process) → member_run ms ≡ Some p → Found (codes "run") ms (process_json p false))
    → Is (object ms) (step_json s (process_json s.run false))
step_members_are ms s h inner =
    let r = of_five step (member_of (codes "id") text_of ms) (member_of (codes "in") (list_of wire_of) ms) (member_of (codes "out") (list_of text_of) ms) (member_run ms) (mode_in ms) s h in
    let q = r.rest.rest.rest in
    subst (λ (x : CwlStep Process). Is (object ms) (step_json x (process_json x.run false))) q.made
    (step_by_mode ms r.x r.rest.x r.rest.rest.x q.x q.y (record { id_read = r.first; wires_read = r.rest.first; outs_read = r.rest.rest.first; run_found = inner q.x q.first }) q.second)

-- ---- workflows

pub class_is : (word : List ℕ) (d : Data) → is_class word d ≡ true → Is d (class_json word)
class_is word (object ms) h =
    let names = codes "class" ∷ [] in
    let p = and_parts (has_names names ms) (is_member (codes "class") (is_text word) ms) h in
    let s = shape_of names ms p.0 in
    let is : ms ≡ member (codes "class") s.0 no_members = shape_is names ms s in
    subst (λ m. Is (object m) (class_json word)) (sym is)
    (object_is _ _ (member_is (codes "class") s.0 (string word) _ _ (word_is word s.0 (sym (ap (is_member (codes "class") (is_text word)) is) ∙ p.1)) no_member) refl)
class_is word d h = absurd (false≢true h)

requirements_are : (d : Data) → are_requirements d ≡ true → Is d requirements_json
requirements_are (array no_items) h = absurd (false≢true h)
requirements_are (array (item d no_items)) h = absurd (false≢true (and_parts (is_class (codes "ScatterFeatureRequirement") d) false h).1)
requirements_are (array (item d (item e no_items))) h =
    let p = and_parts (is_class (codes "ScatterFeatureRequirement") d) (is_class (codes "SubworkflowFeatureRequirement") e && true) h in
    let q = and_parts (is_class (codes "SubworkflowFeatureRequirement") e) true p.1 in
    array_is _ _
    (item_is d (class_json (codes "ScatterFeatureRequirement")) _ _ (class_is (codes "ScatterFeatureRequirement") d p.0)
    (item_is e (class_json (codes "SubworkflowFeatureRequirement")) _ _ (class_is (codes "SubworkflowFeatureRequirement") e q.0) no_item))
requirements_are (array (item d (item e (item f ds)))) h =
    let p = and_parts (is_class (codes "ScatterFeatureRequirement") d) (is_class (codes "SubworkflowFeatureRequirement") e && false) h in
    absurd (false≢true (and_parts (is_class (codes "SubworkflowFeatureRequirement") e) false p.1).1)
requirements_are d h = absurd (false≢true h)

-- the constant members
record Constants (outermost : Bool) (ms : Members) : Type 0 where
  pub names : has_names (flow_names outermost) ms ≡ true
  pub version : is_version outermost ms ≡ true
  pub class : is_member (codes "class") (is_text (codes "Workflow")) ms ≡ true
  pub requirements : is_member (codes "requirements") are_requirements ms ≡ true

record FlowRead (ms : Members) (inputs : List CwlIn) (outputs : List FlowOut) (steps : List (CwlStep Process)) : Type 0 where
  pub inputs_read : member_of (codes "inputs") (list_of input_of) ms ≡ Some inputs
  pub outputs_read : member_of (codes "outputs") (list_of flow_out_of) ms ≡ Some outputs
  pub steps_found : Found (codes "steps") ms (steps_json steps)

flow_members_are : (outermost : Bool) (ms : Members) (inputs : List CwlIn) (outputs : List FlowOut) (steps : List (CwlStep Process)) → Constants outermost ms → FlowRead ms inputs outputs steps
    → Is (object ms) (flow_json outermost inputs outputs (steps_json steps))
flow_members_are false ms inputs outputs steps k read =
    let names = flow_names false in
    let s = shape_of names ms k.names in
    let is : ms ≡ member (codes "class") s.0 (member (codes "inputs") s.3.0 (member (codes "outputs") s.3.3.0 (member (codes "requirements") s.3.3.3.0 (member (codes "steps") s.3.3.3.3.0 no_members)))) = shape_is names ms s in
    let class = word_is (codes "Workflow") s.0 (sym (ap (is_member (codes "class") (is_text (codes "Workflow"))) is) ∙ k.class) in
    let ins = list_is input_of input_json input_is s.3.0 inputs (sym (ap (member_of (codes "inputs") (list_of input_of)) is) ∙ read.inputs_read) in
    let outs = list_is flow_out_of flow_out_json flow_out_is s.3.3.0 outputs (sym (ap (member_of (codes "outputs") (list_of flow_out_of)) is) ∙ read.outputs_read) in
    let wants = requirements_are s.3.3.3.0 (sym (ap (is_member (codes "requirements") are_requirements) is) ∙ k.requirements) in
    let inner = found_is (codes "steps") ms s.3.3.3.3.0 (steps_json steps) (ap (first_named (codes "steps")) is) read.steps_found in
    subst (λ m. Is (object m) (flow_json false inputs outputs (steps_json steps))) (sym is)
    (object_is _ _
    (member_is (codes "class") s.0 (string (codes "Workflow")) _ _ class
    (member_is (codes "inputs") s.3.0 (list input_json inputs) _ _ ins
    (member_is (codes "outputs") s.3.3.0 (list flow_out_json outputs) _ _ outs
    (member_is (codes "requirements") s.3.3.3.0 requirements_json _ _ wants (member_is (codes "steps") s.3.3.3.3.0 (steps_json steps) _ _ inner no_member)))))
    refl)
flow_members_are true ms inputs outputs steps k read =
    let names = flow_names true in
    let s = shape_of names ms k.names in
    let is : ms
    ≡ member (codes "class") s.0 (member (codes "cwlVersion") s.3.0 (member (codes "inputs") s.3.3.0 (member (codes "outputs") s.3.3.3.0 (member (codes "requirements") s.3.3.3.3.0 (member (codes "steps") s.3.3.3.3.3.0 no_members))))) = shape_is names ms s in
    let class = word_is (codes "Workflow") s.0 (sym (ap (is_member (codes "class") (is_text (codes "Workflow"))) is) ∙ k.class) in
    let version = word_is (codes "v1.2") s.3.0 (sym (ap (is_member (codes "cwlVersion") (is_text (codes "v1.2"))) is) ∙ k.version) in
    let ins = list_is input_of input_json input_is s.3.3.0 inputs (sym (ap (member_of (codes "inputs") (list_of input_of)) is) ∙ read.inputs_read) in
    let outs = list_is flow_out_of flow_out_json flow_out_is s.3.3.3.0 outputs (sym (ap (member_of (codes "outputs") (list_of flow_out_of)) is) ∙ read.outputs_read) in
    let wants = requirements_are s.3.3.3.3.0 (sym (ap (is_member (codes "requirements") are_requirements) is) ∙ k.requirements) in
    let inner = found_is (codes "steps") ms s.3.3.3.3.3.0 (steps_json steps) (ap (first_named (codes "steps")) is) read.steps_found in
    subst (λ m. Is (object m) (flow_json true inputs outputs (steps_json steps))) (sym is)
    (object_is _ _
    (member_is (codes "class") s.0 (string (codes "Workflow")) _ _ class
    (member_is (codes "cwlVersion") s.3.0 (string (codes "v1.2")) _ _ version
    (member_is (codes "inputs") s.3.3.0 (list input_json inputs) _ _ ins
    (member_is (codes "outputs") s.3.3.3.0 (list flow_out_json outputs) _ _ outs
    (member_is (codes "requirements") s.3.3.3.3.0 requirements_json _ _ wants (member_is (codes "steps") s.3.3.3.3.3.0 (steps_json steps) _ _ inner no_member))))))
    refl)

flow_is : (outermost : Bool) (ms : Members) (f : CwlFlow Process) → flow_in outermost ms (member_steps ms) ≡ Some f → ((ss : List (CwlStep Process)) → member_steps ms ≡ Some ss → Found (codes "steps") ms (steps_json ss))
    → Is (object ms) (flow_json outermost f.inputs f.outputs (steps_json f.steps))
flow_is outermost ms f h inner =
    let c = chosen_parts (is_flow outermost ms) (with3 flow (member_of (codes "inputs") (list_of input_of) ms) (member_of (codes "outputs") (list_of flow_out_of) ms) (member_steps ms)) f h in
    let names = has_names (flow_names outermost) ms in
    let version = is_version outermost ms in
    let class = is_member (codes "class") (is_text (codes "Workflow")) ms in
    let p = and_parts (names && version && class) (is_member (codes "requirements") are_requirements ms) c.0 in
    let q = and_parts (names && version) class p.0 in
    let s = and_parts names version q.0 in
    let r = of_three flow (member_of (codes "inputs") (list_of input_of) ms) (member_of (codes "outputs") (list_of flow_out_of) ms) (member_steps ms) f c.1 in
    subst (λ (x : CwlFlow Process). Is (object ms) (flow_json outermost x.inputs x.outputs (steps_json x.steps))) r.rest.made
    (flow_members_are outermost ms r.x r.rest.x r.rest.y (record { names = s.0; version = s.1; class = q.1; requirements = p.1 })
    (record { inputs_read = r.first; outputs_read = r.rest.first; steps_found = inner r.rest.y r.rest.second }))

-- ---- processes

pub tool_process : (t : Tool) (outermost : Bool) → process_json (process.Tool t) outermost ≡ tool_json outermost t
tool_process t outermost =
    ap (λ p. process_json p outermost) (sym (process.rolls-Tool t)) ∙ ap (λ (f : Bool → Data). f outermost) (fold-roll-Process (Bool → Data) process_step (layer.Tool t))

pub flow_process : (f : CwlFlow Process) (outermost : Bool) → process_json (process.Flow f) outermost ≡ flow_json outermost f.inputs f.outputs (steps_json f.steps)
flow_process f outermost =
    ap (λ p. process_json p outermost) (sym (process.rolls-Flow f))
    ∙ ap (λ (g : Bool → Data). g outermost) (fold-roll-Process (Bool → Data) process_step (layer.Flow f))

by_kind : (outermost : Bool) (ms : Members) (p : Process) (t : Option Tool) (f : Option (CwlFlow Process)) → tool_in outermost ms ≡ t → flow_in outermost ms (member_steps ms) ≡ f → tool_or_flow t f ≡ Some p
    → ((ss : List (CwlStep Process)) → member_steps ms ≡ Some ss → Found (codes "steps") ms (steps_json ss)) → Is (object ms) (process_json p outermost)
by_kind outermost ms p None None e g h inner = cc
by_kind outermost ms p None (Some f) e g h inner =
    subst (λ x. Is (object ms) (process_json x outermost)) (same_Some (process.Flow f) p h) (subst (Is (object ms)) (sym (flow_process f outermost)) (flow_is outermost ms f g inner))
by_kind outermost ms p (Some t) f e g h inner =
    subst (λ x. Is (object ms) (process_json x outermost)) (same_Some (process.Tool t) p h) (subst (Is (object ms)) (sym (tool_process t outermost)) (tool_is outermost ms t e))

mutual
  -- what stands for a process is what is written for it
  pub process_is : (outermost : Bool) (d : Data) (p : Process) → cwl_of outermost d ≡ Some p → Is d (process_json p outermost)
  process_is outermost null p h = cc
  process_is outermost (boolean b) p h = cc
  process_is outermost (number n) p h = cc
  process_is outermost (string s) p h = cc
  process_is outermost (array ds) p h = cc
  process_is outermost (object ms) p h = by_kind outermost ms p (tool_in outermost ms) (flow_in outermost ms (member_steps ms)) refl refl h (steps_found ms)

  steps_found : (ms : Members) (ss : List (CwlStep Process)) → member_steps ms ≡ Some ss → Found (codes "steps") ms (steps_json ss)
  steps_found no_members ss h = cc
  steps_found (member k d ms) ss h = found_at (codes "steps") k d ms (steps_of d) (member_steps ms) ss steps_json h (steps_are d ss) (steps_found ms ss)

  steps_are : (d : Data) (ss : List (CwlStep Process)) → steps_of d ≡ Some ss → Is d (steps_json ss)
  steps_are null ss h = cc
  steps_are (boolean b) ss h = cc
  steps_are (number n) ss h = cc
  steps_are (string s) ss h = cc
  steps_are (array ds) ss h = array_is ds _ (all_steps_are ds ss h)
  steps_are (object ms) ss h = cc

  all_steps_are : (ds : Items) (ss : List (CwlStep Process)) → all_steps ds ≡ Some ss → ItemsAre ds (items_of (map step_written (map with_json ss)))
  all_steps_are no_items ss h = subst (λ xs. ItemsAre no_items (items_of (map step_written (map with_json xs)))) (same_Some [] ss h) no_item
  all_steps_are (item d ds) ss h =
      let p = then_parts (λ s. option_map (λ ts. s ∷ ts) (all_steps ds)) (step_of d) ss h in
      let q = map_parts (λ ts. p.0 ∷ ts) (all_steps ds) ss p.2 in
      subst (λ xs. ItemsAre (item d ds) (items_of (map step_written (map with_json xs)))) q.2 (item_is d (step_written (with_json p.0)) ds (items_of (map step_written (map with_json q.0))) (step_is d p.0 p.1) (all_steps_are ds q.0 q.1))

  step_is : (d : Data) (s : CwlStep Process) → step_of d ≡ Some s → Is d (step_json s (process_json s.run false))
  step_is null s h = cc
  step_is (boolean b) s h = cc
  step_is (number n) s h = cc
  step_is (string t) s h = cc
  step_is (array ds) s h = cc
  step_is (object ms) s h = step_members_are ms s h (run_found ms)

  run_found : (ms : Members) (p : Process) → member_run ms ≡ Some p → Found (codes "run") ms (process_json p false)
  run_found no_members p h = cc
  run_found (member k d ms) p h = found_at (codes "run") k d ms (cwl_of false d) (member_run ms) p (λ q. process_json q false) h (process_is false d p) (run_found ms p)

-- what is written for a process stands for it, where anything does
pub stands_again : (outermost : Bool) (j : Data) (p : Process) → j ≡ process_json p outermost → HasJson outermost p → cwl_of outermost j ≡ Some p
stands_again outermost j p is h = ap (cwl_of outermost) (is ∙ sym (process_is outermost h.0 p h.1).same) ∙ h.1

pub value_stands : {E : Type 0} (r : Result json.Value E) (outermost : Bool) (p : Process) → IfOk r (λ j. view j ≡ process_json p outermost) → IfOk r (λ j. HasJson outermost p → cwl_of outermost (view j) ≡ Some p)
value_stands (Ok j) outermost p h = stands_again outermost (view j) p h
value_stands (Err e) outermost p h = h
