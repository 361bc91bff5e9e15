use Rattle.std.proofs.Common.{arith}
use Rattle.wdl_sources.specs.Walks.{most_documents}
use Rattle.wdl_imports.proofs.link.link_of.Goals as goal

pub overflow_cast-result : goal.overflow_cast-result
unfolding most_documents
overflow_cast-result c =
    let within = c.in-Some.ensures.within in
    let few = c.requires.few in
    omega (arith, within, few)
