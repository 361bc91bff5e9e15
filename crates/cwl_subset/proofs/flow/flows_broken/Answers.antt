use Rattle.std.proofs.Common.{◌++◌, ◌∷◌, [], Option, take, ap, sym, ◌∙◌}
use Rattle.std.proofs.lemmas.List.{map_more}
use Rattle.wdl_typed.specs.declared.flow.FlowDef.{FlowDef}
use Rattle.wdl_typed.specs.Bodies.{library}
use Rattle.cwl_image.specs.declared.broken.Broken.{Broken}
use Rattle.cwl_image.specs.Subset.{flow_broken}
use Rattle.cwl_rules.specs.Lowest.{lowest}
use Rattle.cwl_subset.specs.Tables.{own_table}
use Rattle.cwl_subset.proofs.flow.flows_broken.Goals as goal

pub loop-flow-preserved : goal.loop-flow-preserved
loop-flow-preserved c =
    let flows = c.args.flows.now in
    let lib = library c.args.structs.now c.args.tasks.now flows in
    let entry : FlowDef → Option Broken = λ f. lowest (flow_broken lib f) in
    let i = c.loop-flow.flow-index in
    c.in_ok-push.ensures.ok
    ∙ ap (λ t. t ++ c.in_ok-flow_broken.field-0 ∷ []) c.loop-flow.invariant
    ∙ ap (λ b. own_table lib (take i flows) ++ b ∷ []) (c.in_ok-flow_broken.ensures ∙ ap entry c.flow-item.is)
    ∙ sym (map_more entry flows i c.flow-item.result c.loop-flow-test.true)
