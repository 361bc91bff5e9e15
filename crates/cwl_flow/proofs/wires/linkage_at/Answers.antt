use Rattle.std.proofs.Common.{◌∙◌}
use Rattle.cwl_flow.proofs.Found.{linkage_found}
use Rattle.cwl_flow.proofs.wires.linkage_at.Goals as goal

pub returns : goal.returns
returns c = c.find.ensures ∙ linkage_found c.args.scope.now c.args.key.now
