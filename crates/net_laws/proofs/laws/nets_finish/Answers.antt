use Rattle.std.proofs.Common.{Option, ap, sym, ◌∙◌}
use Rattle.wdl_typed.specs.declared.flow.FlowDef.{FlowDef}
use Rattle.wdl_typed.specs.Flow.{flow, flow_at, is_clean}
use Rattle.flow_laws.specs.Laws.{run_with}
use Rattle.net_laws.specs.Laws.{ruled}
use Rattle.net_laws.proofs.Finished.{finished}
use Rattle.net_laws.proofs.laws.nets_finish.Goals as goal

pub returns : goal.returns
returns c lib site table rules st stuck depth k f found given place g ds p =
    let w = finished lib site table (ruled rules) st stuck p in
    let shows = ap (λ (o : Option FlowDef). flow_at (run_with lib site table) (flow (run_with lib site table) depth) o given place) found ∙ w.shows in
    (shows, w.settles ∙ sym (ap is_clean shows))
