-- Processes that are formed where their texts are plain.
use Rattle.std.proofs.Common.{◌≡◌, Bool, true, ◌&&◌, List, [], ◌∷◌, map, Option, Some, None, Contains, sym, ap, ◌∙◌, subst, refl}
use Rattle.std.proofs.lemmas.Bool.{and_from, and_parts}
use Rattle.std.specs.List.{list_all}
use Rattle.wdl_base.specs.declared.name.Key.{Key}
use Rattle.cwl_model.specs.declared.process.CwlStep.{CwlStep}
use Rattle.cwl_model.specs.declared.process.FlowOut.{FlowOut}
use Rattle.cwl_model.specs.declared.process.Link.{Link}
use Rattle.cwl_model.specs.declared.process.Link.TheVariants as link
use Rattle.cwl_model.specs.declared.process.Process.{Process, fold-roll-Process}
use Rattle.cwl_model.specs.declared.process.Process.TheOpen as layer
use Rattle.cwl_model.specs.declared.process.Process.TheVariants as process
use Rattle.cwl_model.specs.declared.process.Wire.{Wire}
use Rattle.cwl_model.specs.declared.tool.CwlIn.{CwlIn}
use Rattle.cwl_model.specs.declared.tool.Tool.{Tool}
use Rattle.cwl_model.proofs.Rounds.{first_is, later_is, none_is}
use Rattle.cwl_image.specs.Image.{Draft, Linkage, Scope, empty, flow_process, link_of, link_or, linkage_at, step_of}
use Rattle.cwl_laws.specs.Premises.{WiresBy}
use Rattle.cwl_emit.specs.Formed.{flow_out_formed, input_formed, is_formed, is_plain, lacks, link_formed, mode_formed, process_formed_at, step_formed, tool_formed, wire_formed}
use Rattle.cwl_emit.specs.Reading.{flow}
use Rattle.cwl_formed.specs.Plain.{flow_out_plain, input_plain, link_plain, plain_step, process_plain_at, step_plain, texts_are_plain, tool_plain, wire_plain}
use Rattle.cwl_formed.proofs.Lists.{all_kept, map_takes}
use Rattle.cwl_laws.proofs.Blocks.{linkage_in as linked_in}

-- formed, where its texts are plain
abbrev pub Forms : Process → Type 0
Forms p = texts_are_plain p ≡ true → is_formed p ≡ true

-- what the source begins with has no slash
abbrev pub IsClear : Link → Type 0
IsClear (link.Input id) = lacks 47 id ≡ true
IsClear (link.Out step out) = lacks 47 step ≡ true

pub link_kept : (l : Link) → IsClear l → link_plain l ≡ true → link_formed l ≡ true
link_kept (link.Input id) h p = and_from (is_plain id) (lacks 47 id) p h
link_kept (link.Out step out) h p =
    let q = and_parts (is_plain step) (is_plain out) p in and_from (is_plain step && lacks 47 step) (is_plain out) (and_from (is_plain step) (lacks 47 step) q.0 h) q.1

-- ---- scopes

abbrev pub AreClear : Scope → Type 0
AreClear scope = (l : Linkage) → Contains scope l → IsClear l.link

pub source_clear : (scope : Scope) → AreClear scope → (key : Key) → IsClear (link_or (linkage_at scope key))
source_clear scope h key = by_link (linkage_at scope key) refl
  where
    by_link : (o : Option Linkage) → linkage_at scope key ≡ o → IsClear (link_or o)
    by_link None e = refl
    by_link (Some l) e = h l (linked_in scope key l e)

pub output_clear : (scope : Scope) → AreClear scope → (o : Option Key) → IsClear (link_of scope o)
output_clear scope h None = refl
output_clear scope h (Some key) = source_clear scope h key

-- ---- steps

abbrev pub formed_step : CwlStep Process → CwlStep Bool
formed_step s = record { id = s.id; wires = s.wires; outs = s.outs; run = is_formed s.run; mode = s.mode }

abbrev pub StepForms : CwlStep Process → Type 0
StepForms s = step_plain (plain_step s) ≡ true → step_formed (formed_step s) ≡ true

pub step_kept : (d : Draft) (scope : Scope) → WiresBy d → AreClear scope → Forms (d.run scope) → StepForms (step_of d scope)
step_kept d scope wires clear run h =
    let s = step_of d scope in
    let p = and_parts (is_plain s.id && list_all wire_plain s.wires && list_all is_plain s.outs && mode_formed s.mode) (texts_are_plain s.run) h in
    let q = and_parts (is_plain s.id && list_all wire_plain s.wires && list_all is_plain s.outs) (mode_formed s.mode) p.0 in
    let r = and_parts (is_plain s.id && list_all wire_plain s.wires) (list_all is_plain s.outs) q.0 in
    let t = and_parts (is_plain s.id) (list_all wire_plain s.wires) r.0 in
    and_from (is_plain s.id && list_all wire_formed s.wires && list_all is_plain s.outs && mode_formed s.mode) (is_formed s.run)
    (and_from (is_plain s.id && list_all wire_formed s.wires && list_all is_plain s.outs) (mode_formed s.mode)
    (and_from (is_plain s.id && list_all wire_formed s.wires) (list_all is_plain s.outs)
    (and_from (is_plain s.id) (list_all wire_formed s.wires) t.0 (all_kept wire_plain wire_formed s.wires wire_kept t.1)) r.1) q.1) (run p.1)
  where
    wire_kept : (w : Wire) → Contains (d.wires scope) w → wire_plain w ≡ true → wire_formed w ≡ true
    wire_kept w c h =
        let p = and_parts (is_plain w.id) (link_plain w.source) h in
        let b = wires scope w.source (map_takes (λ (z : Wire). z.source) (d.wires scope) w c) in
        and_from (is_plain w.id) (link_formed w.source) p.0 (link_kept w.source (subst IsClear (sym b.1) (source_clear scope clear b.0)) p.1)

steps_kept : (ss : List (CwlStep Process)) → ((s : CwlStep Process) → Contains ss s → StepForms s) → list_all step_plain (map plain_step ss) ≡ true → list_all step_formed (map formed_step ss) ≡ true
steps_kept [] k h = refl
steps_kept (s ∷ ss) k h =
    let p = and_parts (step_plain (plain_step s)) (list_all step_plain (map plain_step ss)) h in
    and_from (step_formed (formed_step s)) (list_all step_formed (map formed_step ss)) (k s (first_is s ss) p.0) (steps_kept ss (λ t c. k t (later_is s ss t c)) p.1)

-- ---- processes

pub flow_kept : (ins : List CwlIn) (outs : List FlowOut) (steps : List (CwlStep Process)) → ((i : CwlIn) → Contains ins i → input_plain i ≡ true → input_formed i ≡ true)
    → ((o : FlowOut) → Contains outs o → IsClear o.source) → ((s : CwlStep Process) → Contains steps s → StepForms s) → Forms (flow_process ins outs steps)
flow_kept ins outs steps a b c h =
    let f = flow ins outs steps in
    let plain : (list_all input_plain ins && list_all flow_out_plain outs && list_all step_plain (map plain_step steps)) ≡ true =
    sym (ap texts_are_plain (sym (process.rolls-Flow f)) ∙ fold-roll-Process Bool process_plain_at (layer.Flow f)) ∙ h in
    let p = and_parts (list_all input_plain ins && list_all flow_out_plain outs) (list_all step_plain (map plain_step steps)) plain in
    let q = and_parts (list_all input_plain ins) (list_all flow_out_plain outs) p.0 in
    ap is_formed (sym (process.rolls-Flow f)) ∙ fold-roll-Process Bool process_formed_at (layer.Flow f)
    ∙ and_from (list_all input_formed ins && list_all flow_out_formed outs) (list_all step_formed (map formed_step steps))
    (and_from (list_all input_formed ins) (list_all flow_out_formed outs) (all_kept input_plain input_formed ins a q.0) (all_kept flow_out_plain flow_out_formed outs out_kept q.1)) (steps_kept steps c p.1)
  where
    out_kept : (o : FlowOut) → Contains outs o → flow_out_plain o ≡ true → flow_out_formed o ≡ true
    out_kept o d h = let p = and_parts (is_plain o.id) (link_plain o.source) h in and_from (is_plain o.id) (link_formed o.source) p.0 (link_kept o.source (b o d) p.1)

pub empty_kept : Forms empty
empty_kept = flow_kept [] [] [] (λ i c h. absurd (none_is i c)) (λ o c. absurd (none_is o c)) (λ s c. absurd (none_is s c))

pub tool_kept : (t : Tool) → (tool_plain t ≡ true → tool_formed t ≡ true) → Forms (process.Tool t)
tool_kept t k h =
    ap is_formed (sym (process.rolls-Tool t)) ∙ fold-roll-Process Bool process_formed_at (layer.Tool t)
    ∙ k (sym (ap texts_are_plain (sym (process.rolls-Tool t)) ∙ fold-roll-Process Bool process_plain_at (layer.Tool t)) ∙ h)
