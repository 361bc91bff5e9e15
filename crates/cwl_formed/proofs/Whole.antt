-- The process of a checked form of the subset is formed, where its texts are plain.
use Rattle.std.proofs.Common.{◌≡◌, ℕ, zero, suc, true, ◌&&◌, [], ◌++◌, map, Option, Some, None, subst, refl}
use Rattle.std.proofs.lemmas.Bool.{and_parts}
use Rattle.std.specs.List.{list_all, slice_get}
use Rattle.wdl_base.specs.Names.{is_name}
use Rattle.wdl_typed.specs.declared.flow.FlowDef.{FlowDef}
use Rattle.wdl_typed.specs.declared.flow.Target.{Target}
use Rattle.wdl_typed.specs.declared.flow.Target.TheVariants as target
use Rattle.wdl_typed.specs.declared.task.TDecl.{TDecl}
use Rattle.wdl_typed.specs.declared.task.TaskDef.{TaskDef}
use Rattle.wdl_typed.specs.Bodies.{Library, Signature, flow_signature, signature, task_signature}
use Rattle.wdl_typed.specs.Declarations.{decl_names, input_names, inputs_bound, task_typed}
use Rattle.wdl_typed.specs.Kept.{flow_typed, inputs_seen}
use Rattle.flow_soundness.proofs.FlowSound.{is_typed}
use Rattle.flow_laws.proofs.Checked.{IsKept, kept as kept_by}
use Rattle.cwl_model.specs.declared.process.FlowOut.{FlowOut}
use Rattle.cwl_image.specs.Image.{Linkage, body_links, body_steps, cwl_in, draft, flow_at as flow_process_at, flow_image, flow_of, flow_out, input_linkage, reference, target_by, task_process}
use Rattle.cwl_image.specs.Named.{are_names, body_named, flow_named, task_named}
use Rattle.cwl_image.specs.Subset.{broken_in, called_broken, declared_by, flow_at, flow_broken, reached, target_broken, task_at}
use Rattle.cwl_laws.proofs.Elements.{map_has}
use Rattle.cwl_laws.proofs.Flows.{flow_rules}
use Rattle.cwl_laws.proofs.Tools.{both_empty, inputs_are}
use Rattle.cwl_formed.specs.Images.{ImagesAreFormed}
use Rattle.cwl_formed.proofs.Lists.{all_behind, either_side}
use Rattle.cwl_formed.proofs.Processes.{Forms, IsClear, empty_kept, flow_kept, output_clear}
use Rattle.cwl_formed.proofs.Sources.{body_is_fine}
use Rattle.cwl_formed.proofs.Tools.{inputs_clear, inputs_kept, inputs_slashless, task_kept}
use Rattle.wdl_base.proofs.Options.{all_at, then_parts}
use Rattle.cwl_laws.proofs.Whole.{nothing_broken}

module _ (lib : Library) (kept : IsKept lib) (tasks : list_all task_named lib.tasks ≡ true) (flows : list_all flow_named lib.flows ≡ true) where
  -- the outputs of what is called have names
  outputs_named : (t : Target) (s : Signature) → signature lib t ≡ Some s → are_names (decl_names s.outputs) ≡ true
  outputs_named (target.Task k) s h =
      let p = then_parts (λ (t : TaskDef). Some (task_signature t)) (slice_get lib.tasks k) s h in
      subst (λ (z : Signature). are_names (decl_names z.outputs) ≡ true) (same (task_signature p.0) s p.2)
      (all_behind is_name (input_names p.0.inputs ++ decl_names p.0.privates) (decl_names p.0.outputs) (all_at task_named lib.tasks k p.0 tasks p.1))
    where
      same : (a b : Signature) → Some a ≡ Some b → a ≡ b
      same a b e = cc
  outputs_named (target.Flow k) s h =
      let p = then_parts (λ (f : FlowDef). Some (flow_signature f)) (slice_get lib.flows k) s h in
      subst (λ (z : Signature). are_names (decl_names z.outputs) ≡ true) (same (flow_signature p.0) s p.2)
      (and_parts (are_names (input_names p.0.inputs) && body_named p.0.body) (are_names (decl_names p.0.outputs)) (all_at flow_named lib.flows k p.0 flows p.1)).1
    where
      same : (a b : Signature) → Some a ≡ Some b → a ≡ b
      same a b e = cc

  abbrev Mades : ℕ → Type 0
  Mades depth = (t : Target) → target_broken lib (reached lib depth) t ≡ [] → Forms (target_by lib (flow_image lib depth) t)

  flow_made : (depth k : ℕ) (f : FlowDef) → slice_get lib.flows k ≡ Some f → flow_broken lib f ≡ [] → called_broken (target_broken lib (reached lib depth)) f.body ≡ [] → Mades depth
      → Forms (flow_of lib (target_by lib (flow_image lib depth)) f)
  flow_made depth k f there broken called made =
      let processes = target_by lib (flow_image lib depth) in
      let t = is_typed lib f (all_at (flow_typed lib) lib.flows k f kept.flows there) in
      let rules = flow_rules lib f broken in
      let named = all_at flow_named lib.flows k f flows there in
      let words = and_parts (are_names (input_names f.inputs)) (body_named f.body) (and_parts (are_names (input_names f.inputs) && body_named f.body) (are_names (decl_names f.outputs)) named).0 in
      let start = map input_linkage f.inputs in
      let ds = map (draft lib processes) f.body in
      let body = body_is_fine lib processes (declared_by f.body) (target_broken lib (reached lib depth)) made outputs_named f.body (inputs_seen f) t.given t.typed rules.body called words.1 (inputs_slashless f.inputs words.0)
      start (inputs_clear f.inputs words.0) in
      let scope = start ++ body_links ds in
      let clear = either_side (λ (l : Linkage). IsClear l.link) start (body_links ds) (inputs_clear f.inputs words.0) (λ l c. (body.links l c).0) in
      flow_kept (map cwl_in f.inputs) (map (flow_out scope) f.outputs) (body_steps ds start)
      (inputs_kept lib.structs (inputs_bound f.inputs) f.inputs (inputs_are lib.structs [] (inputs_bound f.inputs) f.inputs t.inputs_are rules.inputs) rules.inputs)
      (λ o c. let r = map_has TDecl FlowOut (flow_out scope) f.outputs o c in subst (λ (z : FlowOut). IsClear z.source) r.2 (output_clear scope clear (reference r.0.value)))
      body.steps

  task_made : (k : ℕ) (o : Option TaskDef) → slice_get lib.tasks k ≡ o → task_at lib.structs o ≡ [] → Forms (task_process o)
  task_made k None there broken = empty_kept
  task_made k (Some t) there broken = task_kept lib.structs t (all_at (task_typed lib.structs) lib.tasks k t kept.tasks there) broken (all_at task_named lib.tasks k t tasks there)

  -- workflows that call each other to a depth
  abbrev FlowsAt : ℕ → Type 0
  FlowsAt depth = (k : ℕ) → reached lib depth k ≡ [] → Forms (flow_image lib depth k)

  made_at : (depth : ℕ) → FlowsAt depth → Mades depth
  made_at depth at (target.Task k) broken = task_made k (slice_get lib.tasks k) refl broken
  made_at depth at (target.Flow k) broken = at k broken

  flows_at : (depth : ℕ) → FlowsAt depth
  unfolding reached
  flows_at zero k broken = empty_kept
  flows_at (suc depth) k broken = by_flow (slice_get lib.flows k) refl broken (made_at depth (flows_at depth))
    where
      by_flow : (o : Option FlowDef) → slice_get lib.flows k ≡ o → flow_at lib (reached lib depth) o ≡ [] → Mades depth → Forms (flow_process_at lib (target_by lib (flow_image lib depth)) o)
      by_flow None there broken made = empty_kept
      by_flow (Some f) there broken made =
          let p = both_empty (flow_broken lib f) (called_broken (target_broken lib (reached lib depth)) f.body) broken in
          flow_made depth k f there p.0 p.1 made

  image_forms : (depth main : ℕ) → reached lib depth main ≡ [] → Forms (flow_image lib depth main)
  image_forms depth main broken = flows_at depth main broken

pub images_are_formed : ImagesAreFormed
images_are_formed lib main checked subset named plain =
    let words = and_parts (list_all task_named lib.tasks) (list_all flow_named lib.flows) named in
    image_forms lib (kept_by lib (Some main) checked) words.0 words.1 25 main (nothing_broken (broken_in lib main) subset) plain
