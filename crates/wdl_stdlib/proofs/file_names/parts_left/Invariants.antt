use Rattle.std.proofs.Common.{◌≡◌, [], drop}
use Rattle.wdl_value.specs.Files.{with_parts}
use Rattle.wdl_stdlib.specs.PathParts.{texts}
use Rattle.wdl_stdlib.proofs.file_names.parts_left.Given as goal

abbrev pub invariant-loop-part : goal.invariant-loop-part
invariant-loop-part l = with_parts (texts l.name.items) (texts (drop l.part-index l.parts)) ≡ with_parts [] (texts l.parts)
