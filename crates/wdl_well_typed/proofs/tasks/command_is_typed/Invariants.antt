use Rattle.std.proofs.Common.{◌≡◌, drop}
use Rattle.wdl_typed.specs.Declarations.{command_typed}
use Rattle.wdl_well_typed.proofs.tasks.command_is_typed.Given as goal

abbrev pub invariant-loop-part : goal.invariant-loop-part
invariant-loop-part l = command_typed l.structs l.names (drop l.part-index l.parts) ≡ command_typed l.structs l.names l.parts
