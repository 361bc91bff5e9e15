-- The inputs of processes, and the tools of tasks.
use Rattle.std.proofs.Common.{◌≡◌, Bool, true, false, cond, not, ◌&&◌, List, [], ◌∷◌, ◌++◌, map, Option, Some, None, Contains, subst, refl}
use Rattle.std.proofs.lemmas.Bool.{and_from, and_parts}
use Rattle.std.specs.List.{list_all, list_any}
use Rattle.std.proofs.lemmas.Option.{none-some}
use Rattle.wdl_base.specs.declared.name.Key.{Key}
use Rattle.wdl_base.specs.Names.{is_name}
use Rattle.wdl_value.specs.declared.ty.Ty.{Ty}
use Rattle.wdl_value.specs.Fits.{Structs}
use Rattle.wdl_typed.specs.declared.expr.TExpr.{TExpr}
use Rattle.wdl_typed.specs.declared.scope.Bound.{Bound}
use Rattle.wdl_typed.specs.declared.task.TInput.{TInput}
use Rattle.wdl_typed.specs.declared.task.TaskDef.{TaskDef}
use Rattle.wdl_typed.specs.Declarations.{decl_names, input_names, inputs_bound, plain_key, task_typed}
use Rattle.wdl_typed.specs.KnownTypes.{is_some}
use Rattle.wdl_typed.specs.Scope.{same_key, type_in}
use Rattle.cwl_model.specs.declared.tool.CwlIn.{CwlIn}
use Rattle.cwl_model.specs.Fields.{are_pieces}
use Rattle.cwl_model.proofs.Rounds.{first_is, later_is, none_is}
use Rattle.cwl_image.specs.Expressions.{default_allowed, is_simple, literal_of, takes_default}
use Rattle.cwl_image.specs.Image.{Linkage, argument, codes_of, cwl_in, id_of, input_linkage, literal, preset_of, tool_of, tool_out}
use Rattle.cwl_image.specs.Named.{are_names, task_named}
use Rattle.cwl_image.specs.Subset.{are_codes, are_input_holes, command_marks, each_broken, input_broken, is_command, is_dark, is_default, is_verbatim, run_allowed, task_broken, task_scope, unless}
use Rattle.cwl_laws.specs.Premises.{AreInputs, IsPreset}
use Rattle.cwl_laws.proofs.Elements.{map_has}
use Rattle.cwl_laws.proofs.Tools.{both_empty, rule_holds, rules_of, task_inputs}
use Rattle.cwl_emit.specs.Formed.{codes_formed, input_formed, is_plain, lacks, preset_formed, tool_out_formed}
use Rattle.cwl_formed.specs.Plain.{input_plain, piece_plain, preset_plain}
use Rattle.cwl_formed.proofs.Ascending.{codes_kept}
use Rattle.cwl_formed.proofs.Lists.{all_at, all_before, all_kept, first_or_rest, map_takes}
use Rattle.cwl_formed.proofs.Pieces.{argument_joined}
use Rattle.cwl_formed.proofs.Presets.{fits_formed}
use Rattle.cwl_formed.proofs.Processes.{AreClear, Forms, IsClear, tool_kept}
use Rattle.cwl_formed.proofs.Slashes.{name_lacks}
use Rattle.cwl_formed.proofs.Sources.{Slashless}
use Rattle.cwl_model.specs.declared.process.Process.TheVariants as process
use Rattle.wdl_flow.proofs.MarkLemmas.{same_key-true as key_same}

-- ---- names of inputs

-- what is seen among inputs is one of them
input_seen : (is : List TInput) (k : Key) (t : Ty) → type_in (inputs_bound is) k ≡ Some t → (i : TInput) × Contains is i × (plain_key i.name ≡ k)
input_seen [] k t h = absurd (none-some _ h)
input_seen (i ∷ is) k t h = by_test (same_key (plain_key i.name) k) refl h (λ e. input_seen is k t e)
  where
    by_test : (b : Bool) → same_key (plain_key i.name) k ≡ b → cond b (Some i.ty) (type_in (inputs_bound is) k) ≡ Some t → (type_in (inputs_bound is) k ≡ Some t → (j : TInput) × Contains is j × (plain_key j.name ≡ k))
        → (j : TInput) × Contains (i ∷ is) j × (plain_key j.name ≡ k)
    by_test true e q rest = (i, first_is i is, key_same (plain_key i.name) k e)
    by_test false e q rest = let r = rest q in (r.0, later_is i is r.0 r.1, r.2)

name_of : (is : List TInput) → are_names (input_names is) ≡ true → (i : TInput) → Contains is i → is_name i.name ≡ true
name_of is h i c = all_at is_name (input_names is) h i.name (map_takes (λ (j : TInput). j.name) is i c)

pub inputs_words : (is : List TInput) → are_names (input_names is) ≡ true → (k : Key) (t : Ty) → type_in (inputs_bound is) k ≡ Some t → is_name k.first ≡ true
inputs_words is h k t e = let r = input_seen is k t e in subst (λ (z : Key). is_name z.first ≡ true) r.2 (name_of is h r.0 r.1)

pub inputs_slashless : (is : List TInput) → are_names (input_names is) ≡ true → Slashless (inputs_bound is)
inputs_slashless is h k t = let r = input_seen is k t.0 t.1 in subst (λ (z : Key). lacks 47 (id_of z) ≡ true) r.2 (name_lacks r.0.name (name_of is h r.0 r.1))

pub inputs_clear : (is : List TInput) → are_names (input_names is) ≡ true → AreClear (map input_linkage is)
inputs_clear is h l c =
    let r = map_has TInput Linkage input_linkage is l c in
    subst (λ (z : Linkage). IsClear z.link) r.2 (name_lacks r.0.name (name_of is h r.0 r.1))

-- ---- defaults

module _ (structs : Structs) where
  preset_kept : (i : TInput) (o : Option TExpr) → IsPreset structs i o → is_default i.ty o ≡ true → preset_plain (preset_of o) ≡ true → preset_formed (preset_of o) ≡ true
  preset_kept i None p d h = refl
  preset_kept i (Some e) p d h = fits_formed structs i.ty (and_parts (takes_default i.ty) (literal_of e).is_literal d).0 (literal e) p.2 h

  pub inputs_kept : (seen : List Bound) (is : List TInput) → AreInputs structs is → each_broken (input_broken structs seen) is ≡ [] → (z : CwlIn) → Contains (map cwl_in is) z → input_plain z ≡ true → input_formed z ≡ true
  inputs_kept seen [] are broken = λ z c. absurd (none_is z c)
  inputs_kept seen (i ∷ is) are broken =
      let b = both_empty (input_broken structs seen i) (each_broken (input_broken structs seen) is) broken in
      let d = both_empty (unless (is_simple i.ty) 605 i.span ++ unless (default_allowed structs seen i.value) 606 i.span) (unless (is_default i.ty i.value) 607 i.span) b.0 in
      first_or_rest (λ (z : CwlIn). input_plain z ≡ true → input_formed z ≡ true) (cwl_in i) (map cwl_in is)
      (λ h.
      let p = and_parts (is_plain i.name) (preset_plain (preset_of i.value)) h in
      and_from (is_plain i.name) (preset_formed (preset_of i.value)) p.0 (preset_kept i i.value are.0.preset (rule_holds (is_default i.ty i.value) 607 i.span d.1) p.1))
      (inputs_kept seen is are.1 b.1)

  -- ---- tools

  -- The tool of a task that is well typed and keeps the rules.
  pub task_kept : (t : TaskDef) → task_typed structs t ≡ true → task_broken structs t ≡ [] → task_named t ≡ true → Forms (process.Tool (tool_of t))
  task_kept t typed broken named = tool_kept (tool_of t) (λ h.
      let ins = map cwl_in t.inputs in
      let outs = map tool_out t.outputs in
      let arg = argument ins t.command in
      let p = and_parts (list_all piece_plain arg && list_all input_plain ins) (list_all tool_out_formed outs) h in
      let q = and_parts (list_all piece_plain arg) (list_all input_plain ins) p.0 in
      let rules = rules_of structs t broken in
      let r = both_empty
      (unless (run_allowed structs (task_scope t) t) 606 t.span ++ unless (are_input_holes structs (task_scope t) (inputs_bound t.inputs) t.command) 609 t.span ++ unless (is_command t.command) 610 t.span)
      (unless (not (is_some t.retries) && are_codes t.codes) 613 t.span) rules.run in
      let s = both_empty
      (unless (run_allowed structs (task_scope t) t) 606 t.span ++ unless (are_input_holes structs (task_scope t) (inputs_bound t.inputs) t.command) 609 t.span)
      (unless (is_command t.command) 610 t.span) r.0 in
      let u = both_empty (unless (run_allowed structs (task_scope t) t) 606 t.span) (unless (are_input_holes structs (task_scope t) (inputs_bound t.inputs) t.command) 609 t.span) s.0 in
      let command = and_parts (list_any is_dark (command_marks t.command)) (is_verbatim (command_marks t.command)) (rule_holds (is_command t.command) 610 t.span s.1) in
      let holes = rule_holds (are_input_holes structs (task_scope t) (inputs_bound t.inputs) t.command) 609 t.span u.1 in
      let words = all_before is_name (input_names t.inputs) (decl_names t.privates) (all_before is_name (input_names t.inputs ++ decl_names t.privates) (decl_names t.outputs) named) in
      and_from (are_pieces arg && list_all input_formed ins && list_all tool_out_formed outs) (codes_formed (codes_of t.codes))
      (and_from (are_pieces arg && list_all input_formed ins) (list_all tool_out_formed outs)
      (and_from (are_pieces arg) (list_all input_formed ins) (argument_joined structs (task_scope t) (inputs_bound t.inputs) ins (inputs_words t.inputs words) t.command command.1 holes q.0)
      (all_kept input_plain input_formed ins (inputs_kept (task_scope t) t.inputs (task_inputs structs t typed broken).0 rules.inputs) q.1)) p.1) (codes_kept t.codes))
