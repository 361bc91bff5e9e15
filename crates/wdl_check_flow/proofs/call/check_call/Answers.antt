use Rattle.std.proofs.Common.{sym}
use Rattle.wdl_check_flow.specs.Given.{call_gives, seen_of}
use Rattle.wdl_check_flow.specs.Targets.{offer_of, place_of}
use Rattle.wdl_check_flow.proofs.CallLaws.{call_found}
use Rattle.wdl_check_flow.proofs.call.check_call.Goals as goal

pub returns : goal.returns
returns c = (
  call_gives c.in_ok-typed.typed.name c.in-Some.callable.now.outputs.now,
  call_found (place_of c.args.context.now) (seen_of c.args.visible.now) (offer_of c.in-Some.callable.now) c.args.call.now c.in_ok-typed.typed (sym c.in-Some.ensures) c.in_ok-typed.ensures,
  c.in_ok-enter_call.ensures,
)
