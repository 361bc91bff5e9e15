use Rattle.flow_laws.proofs.Checked.{kept}
use Rattle.plan_layout.proofs.Typed.{layout_sees}
use Rattle.plan_layout.proofs.laws.layouts_see.Goals as goal

pub returns : goal.returns
returns c lib main l h p = layout_sees lib l (kept lib main h) p
