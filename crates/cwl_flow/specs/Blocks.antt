-- A block before its body is walked: its step's id and wires, the inputs of its flow, and what its body sees.
use Rattle.std.specs.Prelude.{ℕ, List, [], ◌∷◌, ◌++◌, map, codes, decimal}
use Rattle.wdl_typed.specs.declared.expr.TExpr.{TExpr}
use Rattle.wdl_typed.specs.Declarations.{plain_key}
use Rattle.cwl_model.specs.declared.process.CwlStep.{CwlStep}
use Rattle.cwl_model.specs.declared.process.Mode.TheVariants as mode
use Rattle.cwl_model.specs.declared.process.Process.{Process}
use Rattle.cwl_model.specs.declared.ty.CwlTy.{CwlTy}
use Rattle.cwl_image.specs.Image.{Draft, Linkage, Scope, block_out, body_links, body_steps, flow_process, id_of, inner_scope, input_of, item_linkage, list_type, null_type, outer_uses, outer_wire, reference, when_input, wire_to}
use Rattle.cwl_flow.specs.declared.blocks.Block.{Block}
use Rattle.cwl_flow.specs.declared.links.Kind.{Kind}
use Rattle.cwl_flow.specs.declared.links.Kind.TheVariants as kind

-- the id of the step of a block
abbrev pub block_id : Kind → ℕ → List ℕ
block_id kind.Scatter k = codes "scatter-" ++ decimal k
block_id kind.If k = codes "if-" ++ decimal k

-- the type outside of what has this type inside
abbrev pub outer_type : Kind → CwlTy → CwlTy
outer_type kind.Scatter t = list_type t
outer_type kind.If t = null_type t

abbrev pub scatter_block : ℕ → List ℕ → TExpr → List Draft → Scope → Block
scatter_block k item over ds scope =
    let uses = outer_uses (plain_key item ∷ []) ds in
    let inner = item_linkage scope item over ∷ inner_scope scope uses in
    record {
      id = block_id kind.Scatter k;
      wires = wire_to scope item (reference over) ++ map (outer_wire scope) uses;
      inputs = map input_of inner;
      scope = inner;
      mode = mode.Scatter item;
    }

abbrev pub if_block : ℕ → TExpr → List Draft → Scope → Block
if_block k cond ds scope =
    let uses = outer_uses [] ds in
    let inner = inner_scope scope uses in
    record {
      id = block_id kind.If k;
      wires = wire_to scope (codes "_when") (reference cond) ++ map (outer_wire scope) uses;
      inputs = when_input ∷ map input_of inner;
      scope = inner;
      mode = mode.When;
    }

abbrev pub link_id : Linkage → List ℕ
link_id l = id_of l.key

-- the step of a block whose body has these drafts
abbrev pub block_step : Block → List Draft → CwlStep Process
block_step b ds =
    record {
      id = b.id;
      wires = b.wires;
      outs = map link_id (body_links ds);
      run = flow_process b.inputs (map block_out (body_links ds)) (body_steps ds b.scope);
      mode = b.mode;
    }
