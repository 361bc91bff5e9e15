use Rattle.std.proofs.Common.{length, ap, sym, ◌∙◌}
use Rattle.wdl_depths.specs.Levels.{nesting_levels}
use Rattle.wdl_depths.proofs.LevelLemmas.{levels-none}
use Rattle.wdl_depths.proofs.nesting.Levels.empty.Goals as goal

pub invariant_of-result : goal.invariant_of-result
invariant_of-result c =
    c.new.ensures ∙ sym (ap (λ ts. nesting_levels c.args.flows.now (length ts)) c.new.ensures ∙ levels-none c.args.flows.now)
