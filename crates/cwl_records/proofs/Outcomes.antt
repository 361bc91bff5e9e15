-- What the steps of lowering answer.
use Rattle.std.proofs.Common.{◌≡◌, ℕ, Bool, true, false, cond, List, [], Option, Some, None, option_and_then, option_map, map, slice_get, refl, ap, sym, ◌∙◌}
use Rattle.std.proofs.lemmas.Option.{same_Some}
use Rattle.wdl_typed.specs.declared.checked.Checked.{Checked}
use Rattle.wdl_typed.specs.declared.flow.FlowDef.{FlowDef}
use Rattle.wdl_typed.specs.declared.task.TInput.{TInput}
use Rattle.wdl_typed.specs.Bodies.{Library, library}
use Rattle.wdl_typed.specs.Kept.{is_checked}
use Rattle.leaf_image.specs.declared.leaf.Leaf.{Leaf}
use Rattle.cwl_records.specs.declared.leaf.RecordLeaf.{RecordLeaf}
use Rattle.cwl_records.specs.declared.lowering.Lowered.{Lowered as Form}
use Rattle.cwl_records.specs.declared.lowering.Replacing.{Replacing}
use Rattle.cwl_records.specs.Lowered.{Lowered, checked_or, lowered_by, record_leaf, without_aliases}
use Rattle.leaf_image.specs.Replaced.{are_checked, expanded_where, leaves_where, replaced_by, with_flows, with_leaves}
use Rattle.cwl_records.specs.Outcomes.{IsLowered, IsLoweredBy, IsTried, KeepsParts, WithLeaves, flows_without_aliases, library_of, lowered_form, replacing, replacing_by}
use Rattle.leaf_image.specs.Reached.{reached}
use Rattle.leaf_image.specs.Records.{inputs_at, leaves_at}

-- ---- struct inputs

abbrev form : List FlowDef → List RecordLeaf → List TInput → Lowered
form flows records source = record { flows = flows; records = records; source = source }

lacking : (o : Option (List (List Leaf))) (lib : Library) (main : ℕ) (marks : List Bool) (source : List TInput)
    → option_map (replacing_by lib main marks) o ≡ None → form lib.flows [] source ≡ lowered_by lib.flows main source (option_and_then (replaced_by lib main marks) o)
lacking None lib main marks source e = refl
lacking (Some ls) lib main marks source e = cc

made : (b : Bool) (flows : List FlowDef) (ls : List (List Leaf)) (lib : Library) (main : ℕ) (source : List TInput)
    → form (cond b flows lib.flows) (cond b (map record_leaf (leaves_at (slice_get ls main))) []) source
    ≡ lowered_by lib.flows main source (cond b (Some (record { flows = flows; leaves = ls })) None)
made true flows ls lib main source = refl
made false flows ls lib main source = refl

having : (o : Option (List (List Leaf))) (lib : Library) (main : ℕ) (marks : List Bool) (source : List TInput) (flows : List FlowDef) (records : List RecordLeaf) (b : Bool)
    → option_map (replacing_by lib main marks) o ≡ Some (record { flows = flows; records = records }) → b ≡ are_checked lib main flows
    → form (cond b flows lib.flows) (cond b records []) source ≡ lowered_by lib.flows main source (option_and_then (replaced_by lib main marks) o)
having None lib main marks source flows records b e is = cc
having (Some ls) lib main marks source flows records b e is =
    let r = same_Some (replacing_by lib main marks ls) (record { flows = flows; records = records }) e in
    let fs : expanded_where lib.flows ls lib.flows marks ls ≡ flows = ap (λ (x : Replacing). x.flows) r in
    let rs : map record_leaf (leaves_at (slice_get ls main)) ≡ records = ap (λ (x : Replacing). x.records) r in
    sym (ap (λ (x : List FlowDef). form (cond b x lib.flows) (cond b records []) source) fs)
    ∙ sym (ap (λ (x : List RecordLeaf). form (cond b (expanded_where lib.flows ls lib.flows marks ls) lib.flows) (cond b x []) source) rs)
    ∙ made b (expanded_where lib.flows ls lib.flows marks ls) ls lib main source
    ∙ ap (λ (c : Bool). lowered_by lib.flows main source (cond c (Some (record { flows = expanded_where lib.flows ls lib.flows marks ls; leaves = ls })) None))
    (is ∙ sym (ap (λ (x : List FlowDef). are_checked lib main x) fs))

abbrev with_leaves_is : (lib : Library) (main : ℕ) → with_leaves lib main ≡ option_and_then (replaced_by lib main (reached lib.flows main)) (leaves_where lib.structs lib.flows (reached lib.flows main))
unfolding with_leaves
with_leaves_is lib main = refl

itself : (c : Checked) → KeepsParts c c
itself c = record { structs = refl; tasks = refl; main = refl }

pub none_replaced : (before : Checked) (main : ℕ) (source : List TInput) → replacing (library_of before) main ≡ None
    → WithLeaves before main source (record { checked = before; records = []; source = source })
none_replaced before main source e =
    let lib = library_of before in
    record {
      kept = itself before;
      is = lacking (leaves_where lib.structs lib.flows (reached lib.flows main)) lib main (reached lib.flows main) source e
          ∙ sym (ap (lowered_by before.flows main source) (with_leaves_is lib main));
    }

pub some_replaced : (before tried : Checked) (main : ℕ) (source : List TInput) (flows : List FlowDef) (records : List RecordLeaf) (is_new : Bool) (after : Form)
    → before.main ≡ Some main → replacing (library_of before) main ≡ Some (record { flows = flows; records = records })
    → IsTried before flows tried is_new → IsLoweredBy tried is_new records source after → WithLeaves before main source after
some_replaced before tried main source flows records is_new after there e t l =
    let lib = library_of before in
    let marks = reached lib.flows main in
    let same : (c : Checked) → after.checked ≡ c → KeepsParts before c → KeepsParts before after.checked = λ c is k. record {
      structs = ap (λ (x : Checked). x.structs) is ∙ k.structs;
      tasks = ap (λ (x : Checked). x.tasks) is ∙ k.tasks;
      main = ap (λ (x : Checked). x.main) is ∙ k.main;
    } in
    record {
      kept = same tried l.checked (record { structs = t.structs; tasks = t.tasks; main = t.main });
      is =
          ap (λ (c : Checked). form c.flows after.records after.source) l.checked
          ∙ ap (λ (fs : List FlowDef). form fs after.records after.source) t.flows_are
          ∙ ap (λ (rs : List RecordLeaf). form (cond is_new flows before.flows) rs after.source) l.records_are
          ∙ ap (λ (is : List TInput). form (cond is_new flows before.flows) (cond is_new records []) is) l.source_is
          ∙ having (leaves_where lib.structs lib.flows marks) lib main marks source flows records is_new e
          (t.new ∙ ap (λ (m : Option ℕ). is_checked (library before.structs before.tasks flows) m) there)
          ∙ sym (ap (lowered_by before.flows main source) (with_leaves_is lib main));
    }

-- ---- both

abbrev without_is : (lib : Library) (main : ℕ) → without_aliases lib main ≡ checked_or lib main (flows_without_aliases lib main)
unfolding without_aliases
without_is lib main = refl

abbrev library_with : Checked → List FlowDef → Library
library_with c flows = with_flows (library_of c) flows

pub lowers : (before middle : Checked) (main : ℕ) (flows : List FlowDef) (source : List TInput) (is_new : Bool) (after : Form)
    → before.main ≡ Some main → flows ≡ flows_without_aliases (library_of before) main → source ≡ inputs_at (slice_get before.flows main)
    → IsTried before flows middle is_new → WithLeaves middle main source after → IsLowered before after
lowers before middle main flows source is_new after there fs ss t w =
    let lib = library_of before in
    let k : KeepsParts middle after.checked = w.kept in
    let mid : middle.flows ≡ without_aliases lib main =
    t.flows_are
    ∙ ap (λ (b : Bool). cond b flows before.flows) (t.new ∙ ap (λ (m : Option ℕ). is_checked (library before.structs before.tasks flows) m) there)
    ∙ ap (checked_or lib main) fs
    ∙ sym (without_is lib main) in
    record {
      kept = record { structs = k.structs ∙ t.structs; tasks = k.tasks ∙ t.tasks; main = k.main ∙ t.main };
      is =
          w.is
          ∙ ap (λ (s : List TInput). lowered_by middle.flows main s (with_leaves (library_of middle) main)) ss
          ∙ ap (λ x. lowered_by middle.flows main (inputs_at (slice_get before.flows main)) (with_leaves (library x middle.tasks middle.flows) main)) t.structs
          ∙ ap (λ x. lowered_by middle.flows main (inputs_at (slice_get before.flows main)) (with_leaves (library before.structs x middle.flows) main)) t.tasks
          ∙ ap (λ (x : List FlowDef). lowered_by x main (inputs_at (slice_get before.flows main)) (with_leaves (with_flows lib x) main)) mid
          ∙ sym (ap (lowered_form lib) there);
    }
