use Rattle.std.proofs.Common.{map, ap, ◌∙◌}
use Rattle.wdl_typed.specs.declared.task.TDecl.{TDecl}
use Rattle.cwl_image.specs.Image.{args_wired}
use Rattle.cwl_flow.specs.Drafts.{library_of, targets_of}
use Rattle.cwl_flow.proofs.BlockSteps.{call_made}
use Rattle.cwl_flow.proofs.calls.call_step.Goals as goal

pub returns : goal.returns
returns g c =
    call_made (library_of c.args.context.now.checked.now) (targets_of c.args.context.now) c.args.call.now c.args.scope.now
    c.in_ok-id.id c.in_ok-wires.wires c.in_ok-outs.outs c.in_ok-run.run'
    c.in_ok-id.ensures
    (c.in_ok-wires.ensures ∙ ap (λ as_. args_wired as_ c.args.scope.now) c.as_slice.ensures)
    (c.in_ok-outs.ensures ∙ ap (map (λ (d : TDecl). d.name)) c.declared_by.ensures)
    c.in_ok-run.ensures
