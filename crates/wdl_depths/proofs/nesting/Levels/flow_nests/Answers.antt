use Rattle.std.proofs.Common.{None, Some}
use Rattle.wdl_typed.specs.Bodies.{body_nests, flow_nests}
use Rattle.std.specs.List.{slice_get}
use Rattle.wdl_depths.specs.Levels.{nesting_level}
use Rattle.wdl_depths.proofs.LevelLemmas.{flow_from_table, level_table, no_table}
use Rattle.wdl_depths.proofs.nesting.Levels.flow_nests.Goals as goal

pub returns-in-Some : goal.returns-in-Some
returns-in-Some c =
    flow_from_table c.args.self.now.0 c.args.level c.args.number c.in-Some.table.now c.as_slice-in-Some.result.now c.holds_at.result
    (level_table c.self.inside.flows.now c.self.inside.tables c.as_slice.result.now c.args.self.now c.args.level (Some c.in-Some.table.now)
    c.in-Some.ensures c.as_slice.ensures c.self.invariant c.self.view_is c.requires)
    c.as_slice-in-Some.ensures c.holds_at.ensures

pub returns-in-None : goal.returns-in-None
returns-in-None c =
    no_table (nesting_level c.args.self.now.0 c.args.level) (flow_nests (body_nests c.args.self.now.0 c.args.level) (slice_get c.args.self.now.0 c.args.number))
    (level_table c.self.inside.flows.now c.self.inside.tables c.as_slice.result.now c.args.self.now c.args.level None
    c.in-None.ensures c.as_slice.ensures c.self.invariant c.self.view_is c.requires)
