use Rattle.std.proofs.Common.{◌≡◌, ◌++◌, drop, map}
use Rattle.struct_names.specs.Known.{known_of}
use Rattle.wdl_check_doc.specs.Known.{parts_from}
use Rattle.wdl_check_doc.specs.Parts.{part_of}
use Rattle.wdl_check_doc.proofs.numbered_doc.parts_of.Given as goal

abbrev pub invariant-loop-known : goal.invariant-loop-known
invariant-loop-known l = map part_of l.parts.items ++ parts_from l.number (map known_of (drop l.known-index l.docs)) ≡ parts_from 0 (map known_of l.docs)
