use Rattle.std.proofs.Common.{◌++◌, map, ap, ◌∙◌}
use Rattle.cwl_image.specs.Image.{body_links, body_steps, cwl_in, flow_out, input_linkage}
use Rattle.cwl_flow.specs.Drafts.{drafts_of, library_of, targets_of}
use Rattle.cwl_flow.proofs.BlockSteps.{flow_made}
use Rattle.cwl_flow.proofs.flow.process_of.Goals as goal

pub returns : goal.returns
returns g c =
    flow_made (library_of c.args.context.now.checked.now) (targets_of c.args.context.now) c.args.flow.now
    c.in_ok-inputs.inputs c.in_ok-scope.scope c.body_steps.new.scope c.in_ok-steps.steps c.in_ok-outputs.outputs c.flow_process.result
    (c.in_ok-inputs.ensures ∙ ap (map cwl_in) c.as_slice.ensures)
    (c.in_ok-scope.ensures ∙ ap (map input_linkage) c.as_slice-2.ensures)
    (c.in_ok-steps.ensures.steps ∙ ap (λ ss. body_steps (drafts_of c.args.context.now ss) c.in_ok-scope.scope) c.as_slice-3.ensures)
    (c.in_ok-steps.ensures.scope ∙ ap (λ ss. c.in_ok-scope.scope ++ body_links (drafts_of c.args.context.now ss)) c.as_slice-3.ensures)
    (c.in_ok-outputs.ensures ∙ ap (map (flow_out c.body_steps.new.scope)) c.as_slice-4.ensures)
    c.flow_process.ensures
