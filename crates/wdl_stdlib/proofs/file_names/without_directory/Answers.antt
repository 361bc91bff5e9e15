use Rattle.std.proofs.Common.{sym}
use Rattle.wdl_stdlib.proofs.FileNames.{stripped_plain}
use Rattle.wdl_stdlib.proofs.file_names.without_directory.Goals as goal

pub returns-in-Some-clause-plain : goal.returns-in-Some-clause-plain
returns-in-Some-clause-plain c = stripped_plain _ c.args.path.now c.requires c.in-Some.rest.now (sym c.in-Some.ensures.value)
