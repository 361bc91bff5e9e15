use Rattle.wdl_structs.proofs.TableLaws.{placed_some, placed_none}
use Rattle.wdl_structs.proofs.table.place.Goals as goal

pub returns-clause-some : goal.returns-clause-some
returns-clause-some c = placed_some c.args.index.now c.args.name.now c.place.result c.place.ensures.found c.place.ensures.within

pub returns-clause-none : goal.returns-clause-none
returns-clause-none c = placed_none c.args.index.now c.args.name.now c.place.result c.place.ensures.found
