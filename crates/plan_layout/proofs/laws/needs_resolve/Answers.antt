use Rattle.plan_layout.proofs.Needed.{needs_all, needs_resolved, needs_used}
use Rattle.plan_layout.proofs.laws.needs_resolve.Goals as goal

pub returns : goal.returns
returns c bases seen keys h marks place = (record { resolved = needs_resolved bases seen keys; all = needs_all bases seen keys h }, needs_used bases seen keys)
