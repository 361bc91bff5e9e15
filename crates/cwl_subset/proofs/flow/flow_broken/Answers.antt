use Rattle.std.proofs.Common.{◌++◌, ap, ◌∙◌}
use Rattle.wdl_typed.specs.Bodies.{library}
use Rattle.wdl_typed.specs.Declarations.{inputs_bound}
use Rattle.cwl_image.specs.Subset.{declared_by, each_broken, input_broken, walk_body}
use Rattle.cwl_rules.specs.Lowest.{lower, lowest}
use Rattle.cwl_subset.specs.Walks.{flow_outputs_broken, summed}
use Rattle.cwl_subset.proofs.PartLemmas.{flow_lowest}
use Rattle.cwl_subset.proofs.flow.flow_broken.Goals as goal

pub returns : goal.returns
returns c =
    let structs = c.args.structs.now in
    let lib = library structs c.args.tasks.now c.args.flows.now in
    let declared = c.in_ok-declared.declared in
    let names = c.in_ok-names.names in
    let walked = c.in_ok-walked.walked in
    c.lower-2.ensures
    ∙ ap (λ o. lower o c.in_ok-last.last) c.lower.ensures
    ∙ flow_lowest lib c.args.flow.now declared names walked c.in_ok-first.first c.in_ok-last.last (c.in_ok-names.ensures ∙ ap inputs_bound c.as_slice-inputs.ensures) (c.in_ok-declared.ensures ∙ ap declared_by c.as_slice-body.ensures)
    (c.in_ok-walked.ensures.walked ∙ ap (λ ss. summed (walk_body lib declared ss names)) c.as_slice-body.ensures)
    (c.in_ok-first.ensures ∙ ap (λ is. lowest (each_broken (input_broken structs names) is)) c.as_slice-inputs.ensures)
    (c.in_ok-last.ensures
    ∙ ap (λ ns. lowest (flow_outputs_broken structs (ns ++ c.as_slice-given.result.now) c.as_slice-outputs.result.now)) c.in_ok-walked.ensures.kept
    ∙ ap (λ bs. lowest (flow_outputs_broken structs (names ++ bs) c.as_slice-outputs.result.now)) c.as_slice-given.ensures
    ∙ ap (λ ds. lowest (flow_outputs_broken structs (names ++ walked.given) ds)) c.as_slice-outputs.ensures)
