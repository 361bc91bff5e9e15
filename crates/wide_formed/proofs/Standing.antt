-- What is written for the process of a lowered form stands for it.
use Rattle.std.proofs.Common.{◌≡◌, ℕ, Bool, true, false, cond, ◌&&◌, List, [], ◌∷◌, map, Option, Some, None, option_and_then, Contains, refl, sym, ap, ◌∙◌, subst}
use Rattle.std.specs.List.{list_all}
use Rattle.std.proofs.lemmas.Bool.{and_parts}
use Rattle.serde_json.specs.Data.{string}
use Rattle.wdl_value.specs.Fits.{Structs}
use Rattle.wdl_typed.specs.declared.flow.FlowDef.{FlowDef}
use Rattle.wdl_typed.specs.declared.task.TInput.{TInput}
use Rattle.cwl_model.specs.declared.process.CwlFlow.{CwlFlow}
use Rattle.cwl_model.specs.declared.process.FlowOut.{FlowOut}
use Rattle.cwl_model.specs.declared.process.Process.{Process, fold-roll-Process, out-Process}
use Rattle.cwl_model.specs.declared.process.Process.TheVariants as process
use Rattle.cwl_model.specs.declared.process.Process.TheOpen as layer
use Rattle.cwl_model.specs.declared.tool.CwlIn.{CwlIn}
use Rattle.cwl_image.specs.Image.{cwl_in, image}
use Rattle.cwl_emit.specs.Formed.{flow_out_formed, input_formed, is_formed, is_plain, process_formed_at}
use Rattle.wdl_value.specs.declared.ty.Ty.{out-Ty}
use Rattle.cwl_emit.specs.Reading.{flow_out_of, list_of, text_of, with3}
use Rattle.cwl_emit.specs.Writing.{flow_out_json, list, process_json}
use Rattle.cwl_emit.proofs.Formed.{formed_processes_stand, three_are, all_back, text_back}
use Rattle.cwl_formed.proofs.Whole.{images_are_formed}
use Rattle.leaf_image.specs.declared.leaf.Leaf.{Leaf}
use Rattle.leaf_image.specs.Leaves.{is_record}
use Rattle.leaf_image.specs.Records.{all_inputs}
use Rattle.cwl_records.specs.declared.leaf.RecordLeaf.{RecordLeaf}
use Rattle.cwl_records.specs.declared.wide.RecordProcess.{RecordProcess}
use Rattle.cwl_records.specs.declared.wide.WideIn.{WideIn}
use Rattle.cwl_records.specs.declared.wide.WideIn.TheVariants as wide
use Rattle.cwl_records.specs.declared.wide.WideWire.{WideWire}
use Rattle.cwl_records.specs.Lowered.{record_leaf}
use Rattle.cwl_records.specs.WideReading.{BodyStep, body_of, body_step, flow_in, if_ids, process_by, wide_in_of, wide_of, wide_wire_of}
use Rattle.cwl_records.specs.WideWriting.{flow_out_id, outer_out, wide_in_json, wide_json, wide_wire_json}
use Rattle.cwl_records.specs.Wrapping.{struct_fields, wide_in, wrapped}
use Rattle.wide_formed.specs.Forms.{are_named, document_json, flow_part, input_named, lowering, wide_named, wide_process, wire_named}
use Rattle.wide_formed.specs.Laws.{LoweredStands, StandsFor}
use Rattle.wide_formed.proofs.Backs.{ids_plain, ids_same, input_fine, outer_formed, outer_same, outputs_back, wide_in_back, wire_back}
use Rattle.wide_formed.proofs.Elements.{mapped, of_map}
use Rattle.wide_formed.proofs.Mains.{HasMain, IsLoweredMain, lowered_main, main_there, replaced, unreplaced}
use Rattle.wide_formed.proofs.Meant.{IsFlowImage, IsSubsetMain, flow_is, input_there, subset_main}
use Rattle.wide_formed.proofs.Paths.{all_at}
use Rattle.cwl_laws.proofs.Blocks.{all_from as each}

-- ---- a process with records

-- what is formed of a workflow
pub record IsFormedFlow (b : CwlFlow Process) : Type 0 where
  pub inputs : list_all input_formed b.inputs ≡ true
  pub outputs : list_all flow_out_formed b.outputs ≡ true

formed_flow : (b : CwlFlow Process) → is_formed (process.Flow b) ≡ true → IsFormedFlow b
formed_flow b h =
    let q = sym (ap is_formed (sym (process.rolls-Flow b)) ∙ fold-roll-Process Bool process_formed_at (layer.Flow b)) ∙ h in
    let p = and_parts (list_all input_formed b.inputs && list_all flow_out_formed b.outputs) _ q in
    let r = and_parts (list_all input_formed b.inputs) (list_all flow_out_formed b.outputs) p.0 in
    record { inputs = r.0; outputs = r.1 }

module _ (inputs : List WideIn) (wires : List WideWire) (b : CwlFlow Process) (fine : list_all input_fine inputs ≡ true) (named : list_all wire_named wires ≡ true) (formed : is_formed (process.Flow b) ≡ true) where
  abbrev whole : RecordProcess
  whole = record { inputs = inputs; wires = wires; body = b }

  of_flow : IsFormedFlow b
  of_flow = formed_flow b formed

  body_back : body_of (process_json (process.Flow b) false) ≡ Some b
  body_back = ap (option_and_then (λ p. flow_in (out-Process p))) (formed_processes_stand false (process.Flow b) formed) ∙ ap flow_in (process.outs-Flow b)

  abbrev ids : List (List ℕ)
  ids = map flow_out_id b.outputs

  step_back : option_and_then if_ids
      (with3 body_step (list_of wide_wire_of (list wide_wire_json wires)) (list_of text_of (list string ids)) (body_of (process_json (process.Flow b) false))) ≡ Some (body_step wires ids b)
  step_back =
      ap (option_and_then if_ids)
      (three_are body_step (list_of wide_wire_of (list wide_wire_json wires)) (list_of text_of (list string ids)) (body_of (process_json (process.Flow b) false)) wires ids b
      (all_back wide_wire_of wide_wire_json wire_named wire_back wires named) (all_back text_of string is_plain text_back ids (ids_plain b.outputs of_flow.outputs)) body_back)
      ∙ ap (λ w. cond w (Some (body_step wires ids b)) None) (ids_same b.outputs)

  abbrev outer : List FlowOut
  outer = map outer_out b.outputs

  abbrev read_step : Option BodyStep
  read_step =
      option_and_then if_ids
      (with3 body_step (list_of wide_wire_of (list wide_wire_json wires)) (list_of text_of (list string ids)) (body_of (process_json (process.Flow b) false)))

  -- What is written for it stands for it.
  wide_back : wide_of (wide_json whole) ≡ Some whole
  wide_back =
      ap (option_and_then (λ (is : List WideIn). option_and_then (λ (os : List FlowOut). option_and_then (process_by is os) read_step) (list_of flow_out_of (list flow_out_json outer))))
      (all_back wide_in_of wide_in_json input_fine wide_in_back inputs fine)
      ∙ ap (option_and_then (λ (os : List FlowOut). option_and_then (process_by inputs os) read_step)) (outputs_back outer (outer_formed b.outputs of_flow.outputs))
      ∙ ap (option_and_then (process_by inputs outer)) step_back ∙ ap (λ w. cond w (Some whole) None) (outer_same b.outputs)

-- ---- inputs as they were

-- The inputs are fine where the plain ones among them are inputs of the body, and the names of the others are NAMEs.
inputs_fine : (structs : Structs) (ins : List CwlIn) (is : List TInput) → list_all input_formed ins ≡ true → ((j : TInput) → Contains is j → is_record j ≡ false → Contains ins (cwl_in j))
    → list_all input_named (map (wide_in structs) is) ≡ true → list_all input_fine (map (wide_in structs) is) ≡ true
inputs_fine structs ins is formed there named = each input_fine (map (wide_in structs) is) own
  where
    by_kind : (j : TInput) → Contains is j → (w : Bool) → is_record j ≡ w → input_named (cond w (wide.Record j.name (struct_fields structs (out-Ty j.ty))) (wide.Plain (cwl_in j))) ≡ true
        → input_fine (cond w (wide.Record j.name (struct_fields structs (out-Ty j.ty))) (wide.Plain (cwl_in j))) ≡ true
    by_kind j c true r h = h
    by_kind j c false r h = all_at input_formed ins formed (cwl_in j) (there j c r)

    own : (i : WideIn) → Contains (map (wide_in structs) is) i → input_fine i ≡ true
    own i c =
        let r = of_map (wide_in structs) is i c in
        subst (λ z. input_fine z ≡ true) r.2
        (by_kind r.0 r.1 (is_record r.0) refl (subst (λ z. input_named z ≡ true) (sym r.2) (all_at input_named (map (wide_in structs) is) named i c)))

-- ---- the whole

record_stands : (structs : Structs) (source : List TInput) (ls : List Leaf) (kept : IsSubsetMain structs (all_inputs ls source)) (p : Process) → IsFlowImage p (all_inputs ls source)
    → is_formed p ≡ true → wide_named (wide_process (map record_leaf ls) source structs p) ≡ true
    → wide_of (wide_json (wide_process (map record_leaf ls) source structs p)) ≡ Some (wide_process (map record_leaf ls) source structs p)
record_stands structs source ls kept p m formed named =
    let body : flow_part (out-Process p) ≡ m.body = ap (λ q. flow_part (out-Process q)) m.made ∙ ap flow_part (process.outs-Flow m.body) in
    subst (λ b. wide_of (wide_json (wrapped (map record_leaf ls) source structs b)) ≡ Some (wrapped (map record_leaf ls) source structs b)) (sym body)
    (at_body (subst (λ b. wide_named (wrapped (map record_leaf ls) source structs b) ≡ true) body named))
  where
    formed_body : is_formed (process.Flow m.body) ≡ true
    formed_body = sym (ap is_formed m.made) ∙ formed

    there : (j : TInput) → Contains source j → is_record j ≡ false → Contains m.body.inputs (cwl_in j)
    there j c r = subst (λ is. Contains is (cwl_in j)) (sym m.inputs) (mapped cwl_in (all_inputs ls source) j (input_there structs source ls kept j c r))

    at_body : wide_named (wrapped (map record_leaf ls) source structs m.body) ≡ true
        → wide_of (wide_json (wrapped (map record_leaf ls) source structs m.body)) ≡ Some (wrapped (map record_leaf ls) source structs m.body)
    at_body n =
        let w = wrapped (map record_leaf ls) source structs m.body in
        let q = and_parts (list_all input_named w.inputs) (list_all wire_named w.wires) n in
        wide_back w.inputs w.wires m.body (inputs_fine structs m.body.inputs source (formed_flow m.body formed_body).inputs there q.0) q.1 formed_body

document_stands : (structs : Structs) (source : List TInput) (ls : List Leaf) (kept : IsSubsetMain structs (all_inputs ls source)) (p : Process) → IsFlowImage p (all_inputs ls source)
    → is_formed p ≡ true → are_named (map record_leaf ls) source structs p ≡ true → StandsFor (map record_leaf ls) source structs p (document_json (map record_leaf ls) source structs p)
document_stands structs source [] kept p m formed named = formed_processes_stand true p formed
document_stands structs source (l ∷ ls) kept p m formed named = record_stands structs source (l ∷ ls) kept p m formed named

pub lowered_stands : LoweredStands
lowered_stands lib main checked subset words plain named =
    let f = main_there lib main checked in
    let h = lowered_main lib main f.0 checked f.1 in
    by_how f.0 h (lowering lib main).records h.how (lowering lib main).source h.source named (images_are_formed (lowering lib main).lib main h.checked subset words plain)
  where
    by_how : (f : FlowDef) (h : HasMain lib main f) (rs : List RecordLeaf) → IsLoweredMain lib.structs f h.flow rs → (source : List TInput) → source ≡ f.inputs
        → are_named rs source lib.structs (image (lowering lib main).lib main) ≡ true → is_formed (image (lowering lib main).lib main) ≡ true
        → StandsFor rs source lib.structs (image (lowering lib main).lib main) (document_json rs source lib.structs (image (lowering lib main).lib main))
    by_how f h rs (unreplaced q e) source s n formed =
        let p = image (lowering lib main).lib main in
        subst (λ (k : List RecordLeaf). StandsFor k source lib.structs p (document_json k source lib.structs p)) (sym e) (formed_processes_stand true p formed)
    by_how f h rs (replaced ls between b o q e) source s n formed =
        let p = image (lowering lib main).lib main in
        let from : h.flow.inputs ≡ all_inputs ls source = q ∙ ap (all_inputs ls) (sym s) in
        subst (λ (k : List RecordLeaf). StandsFor k source lib.structs p (document_json k source lib.structs p)) (sym e)
        (document_stands lib.structs source ls (subst (IsSubsetMain lib.structs) from (subset_main (lowering lib main).lib main h.flow h.checked subset h.there)) p
        (subst (IsFlowImage p) from (flow_is (lowering lib main).lib 24 main h.flow h.there)) formed
        (subst (λ (k : List RecordLeaf). are_named k source lib.structs p ≡ true) e n))
