use Rattle.std.proofs.Common.{◌^◌, arith}
use Rattle.plan_bodies.proofs.Reach.{reached_as}
use Rattle.plan_steps.proofs.call.args_of.Goals as goal

pub env_of-requires : goal.env_of-requires
env_of-requires g c = reached_as (2 ^ 64) (2 ^ 64) c.args.bases.now c.args.line.now.needs c.as_slice.result.now (omega arith) c.as_slice.ensures c.requires.reached
