use Rattle.std.proofs.Common.{◌≡◌, map, take}
use Rattle.wdl_typed.specs.declared.flow.FlowDef.{FlowDef}
use Rattle.wdl_typed.specs.Bodies.{body_nests}
use Rattle.wdl_depths.proofs.nesting.Levels.next_table.Given as goal

abbrev pub invariant-loop-flow : goal.invariant-loop-flow
invariant-loop-flow l = l.table ≡ map (λ (f : FlowDef). body_nests l.self.0 l.self.1 f.body) (take l.flow-index l.self.0)
