use Rattle.wdl_imports.proofs.CollectLaws.{only_one}
use Rattle.wdl_imports.proofs.law.one_library.Goals as goal

pub returns : goal.returns
returns c = only_one
