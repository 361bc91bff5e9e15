use Rattle.wdl_imports.proofs.WalkPaths.{whole_named}
use Rattle.wdl_imports.proofs.ReadLaws.{whole_docs}
use Rattle.wdl_imports.proofs.CollectLaws.{collected}
use Rattle.wdl_imports.proofs.collect.linked.Goals as goal

pub docs_of-requires-clause-named : goal.docs_of-requires-clause-named
docs_of-requires-clause-named c = whole_named c.requires.0.0 c.requires.0.1 c.args.sources c.requires.0.2

pub library_of-requires : goal.library_of-requires
library_of-requires c = whole_docs c.args.sources c.in_ok-docs.docs c.requires c.in_ok-docs.ensures

pub returns : goal.returns
returns c = collected c.args.sources c.in_ok-docs.docs c.library_of.result c.requires c.in_ok-docs.ensures c.library_of.ensures
