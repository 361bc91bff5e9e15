use Rattle.workflow_cli.proofs.Agreeing.{bundles_agree}
use Rattle.workflow_cli.proofs.laws.bundles_agree.Goals as goal

pub returns : goal.returns
returns c = record { law = bundles_agree }
