use Rattle.std.proofs.Common.{map, rules}
use Rattle.struct_names.specs.Known.{known_of}
use Rattle.wdl_check_doc.specs.Parts.{part_of}
use Rattle.wdl_check_doc.proofs.Documents.{answers_typed}
use Rattle.wdl_check_doc.proofs.library.check_library.Goals as goal

pub returns : goal.returns
returns c =
    answers_typed c.args.library.now.docs c.args.library.now.structs c.in_ok-structs.structs (map known_of c.in_ok-knowns.knowns.items) (map part_of c.in_ok-parts.parts.items) c.check_parts.result
    (search rules) (search rules) (search rules) (search rules)
