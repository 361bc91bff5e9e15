use Rattle.std.proofs.Common.{◌≤◌, Option, subst, sym}
use Rattle.wdl_typed.specs.declared.flow.FlowDef.{FlowDef}
use Rattle.wdl_typed.specs.Flow.{flow}
use Rattle.flow_laws.specs.Laws.{run_with}
use Rattle.net_laws.specs.Cost.{flow_cost, flow_cost_at}
use Rattle.net_laws.specs.Works.{evaluated}
use Rattle.net_laws.specs.Laws.{ruled}
use Rattle.net_laws.proofs.Spent.{within}
use Rattle.net_laws.proofs.laws.nets_spend.Goals as goal

pub returns : goal.returns
returns c lib site table rules st stuck depth k f found given place g ds p task =
    subst
    (λ (o : Option FlowDef). evaluated lib site table (ruled rules) st task p ≤ flow_cost_at (run_with lib site table) task (flow (run_with lib site table) depth) (flow_cost (run_with lib site table) task depth) o given place)
    (sym found) (within lib site table (ruled rules) st task stuck p)
