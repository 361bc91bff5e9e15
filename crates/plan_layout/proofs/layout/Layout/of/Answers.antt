use Rattle.std.proofs.lemmas.Result.{IfOk-weaker}
use Rattle.wdl_typed.specs.Bodies.{library}
use Rattle.flow_laws.proofs.Checked.{kept}
use Rattle.plan_layout.specs.Laid.{IsLayout, anything}
use Rattle.plan_layout.specs.Sees.{Sees}
use Rattle.plan_layout.proofs.Typed.{layout_sees}
use Rattle.plan_layout.proofs.layout.Layout.of.Goals as goal

pub returns : goal.returns
returns c =
    let lib = library c.args.checked.now.structs c.args.checked.now.tasks c.args.checked.now.flows in
    IfOk-weaker c.lay_flows.result (IsLayout anything lib) (IsLayout (Sees lib) lib) (λ l p. layout_sees lib l (kept lib c.args.checked.now.main c.args.checked.now.kept) p) c.lay_flows.ensures
