use Rattle.std.proofs.Common.{◌++◌, refl}
use Rattle.cwl_image.specs.Image.{body_links, body_steps, links_of}
use Rattle.cwl_flow.specs.Drafts.{draft_of, drafts_of}
use Rattle.cwl_flow.proofs.BlockSteps.{of_condition, of_scatter, step_made}
use Rattle.cwl_flow.proofs.Walks.{one_more, step_more}
use Rattle.cwl_flow.proofs.walk.+walk.Goals as goal

pub block_step-returns : goal.block_step-returns
block_step-returns g t c =
    step_made c.args.block (drafts_of c.args.context.now c.args.body.now) c.in_ok-steps.steps c.body_steps.new.scope c.as_slice.result.now c.len-seen.result
    c.in_ok-outs.outs c.in_ok-outputs.outputs c.flow_process-run.result
    c.in_ok-steps.ensures.steps c.in_ok-steps.ensures.scope c.as_slice.ensures c.len-seen.ensures c.in_ok-outs.ensures c.in_ok-outputs.ensures c.flow_process-run.ensures

pub step-returns-in_ok-block-in-Scatter : goal.step-returns-in_ok-block-in-Scatter
step-returns-in_ok-block-in-Scatter g t c =
    of_scatter c.args.context.now c.args.statement.now c.in-Scatter.scatter c.block_step.result c.in_ok-block-in-Scatter.block c.as_slice.result.now c.args.scope.now
    c.in-Scatter.is c.as_slice.ensures c.in_ok-block-in-Scatter.ensures c.block_step.ensures

pub step-returns-in_ok-block-in-If : goal.step-returns-in_ok-block-in-If
step-returns-in_ok-block-in-If g t c =
    of_condition c.args.context.now c.args.statement.now c.in-If.condition c.block_step-in-If.result c.in_ok-block-in-If.block c.as_slice-in-If.result.now c.args.scope.now
    c.in-If.is c.as_slice-in-If.ensures c.in_ok-block-in-If.ensures c.block_step-in-If.ensures

pub body_steps-loop-statement-preserved : goal.body_steps-loop-statement-preserved
body_steps-loop-statement-preserved g t c =
    let d = c.args.context.now in
    let body = c.args.body.now in
    let i = c.loop-statement.statement-index in
    let s = c.statement-item.result in (
      step_more d body i s c.in_ok-step.field-0 c.loop-statement.steps c.push.new.self (body_steps (drafts_of d body) c.args.scope.now) c.loop-statement.scope c.add_links.new.links
          c.loop-statement-test.true c.statement-item.is c.in_ok-step.ensures c.in_ok-push.ensures.ok c.in_ok-add_links.ensures c.loop-statement.invariant.0,
      one_more (λ ss. body_links (drafts_of d ss)) (λ u. links_of (draft_of d u)) (λ u us. refl) body i s c.loop-statement.scope c.add_links.new.links (c.args.scope.now ++ body_links (drafts_of d body))
          c.loop-statement-test.true c.statement-item.is c.in_ok-add_links.ensures c.loop-statement.invariant.1,
    )
