use Rattle.std.proofs.Common.{ap, ◌∙◌}
use Rattle.std.specs.Option.{is_some}
use Rattle.cwl_flow.proofs.Found.{is_found}
use Rattle.cwl_flow.proofs.uses.has.Goals as goal

pub returns-in-Some : goal.returns-in-Some
returns-in-Some c = ap is_some c.in-Some.ensures ∙ is_found c.args.keys.now c.args.key.now

pub returns-in-None : goal.returns-in-None
returns-in-None c = ap is_some c.in-None.ensures ∙ is_found c.args.keys.now c.args.key.now
