use Rattle.wdl_depths.proofs.LevelLemmas.{levels_pushed}
use Rattle.wdl_depths.proofs.nesting.Levels.deepen.Goals as goal

pub invariant_of-self-2 : goal.invariant_of-self-2
invariant_of-self-2 c =
    levels_pushed c.self.inside.flows.now c.self.inside.tables c.push.new.self c.in_ok-table.table c.args.self.now
    c.in_ok-push.ensures.ok c.self.invariant c.in_ok-table.ensures c.self.view_is
