use Rattle.wdl_links.proofs.WantLemmas.{stem-other}
use Rattle.wdl_links.proofs.want.stem.Goals as goal

pub returns-in-None : goal.returns-in-None
returns-in-None c = record { value = stem-other c.args.name.now c.in-None.ensures.cases }
