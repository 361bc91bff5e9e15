use Rattle.flow_laws.proofs.laws.journals_grow.Goals as goal
use Rattle.flow_laws.proofs.Done.{clean_are_done}
use Rattle.flow_laws.proofs.Fed as fed

pub returns : goal.returns
returns c = record { grow = fed.journals_grow; one = fed.fed_by_one; many = fed.fed_by_many; jobs = fed.fed_are_jobs; differ = fed.fed_are_journals; done = clean_are_done }
