use Rattle.flow_laws.proofs.Checked.{kept}
use Rattle.plan_layout.proofs.Around.{around_sees}
use Rattle.plan_layout.proofs.laws.flows_see.Goals as goal

pub returns : goal.returns
returns c lib main h k f there = around_sees lib (kept lib main h) k f there
