use Rattle.std.proofs.Common.{◌≡◌, true, take}
use Rattle.std.specs.List.{list_all}
use Rattle.cwl_image.specs.Named.{flow_named}
use Rattle.cwl_rules.proofs.named.see_flows.Given as goal

abbrev pub invariant-loop-flow : goal.invariant-loop-flow
invariant-loop-flow l = list_all flow_named (take l.flow-index l.flows) ≡ true
