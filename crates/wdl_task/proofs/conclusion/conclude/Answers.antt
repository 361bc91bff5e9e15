use Rattle.std.proofs.Common.{◌∙◌}
use Rattle.wdl_task.proofs.Preparing.{told_outputs}
use Rattle.wdl_task.proofs.conclusion.conclude.Goals as goal

pub outputs-requires : goal.outputs-requires
outputs-requires g c = record {
  ready = told_outputs c.args.structs.now c.as_slice-2.result.now c.args.task.now c.args.prepared.now c.requires.told c.args.prepared.now.request.dir c.args.answer.now c.as_slice-3.result.now c.in_ok-env.env
      c.as_slice-2.ensures c.as_slice-3.ensures (c.in_ok-env.ensures ∙ c.as_slice.ensures);
}
