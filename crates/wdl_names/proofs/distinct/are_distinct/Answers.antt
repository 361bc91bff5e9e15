use Rattle.wdl_names.proofs.FreshLemmas.{fresh-distinct}
use Rattle.wdl_names.proofs.distinct.are_distinct.Goals as goal

pub returns : goal.returns
returns g c = rw (← fresh-distinct) (rw c.empty-names.ensures at c.add_all.ensures.fresh)
