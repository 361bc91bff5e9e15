-- The lists of a workflow.
use Rattle.std.specs.Prelude.{Bool, ◌&&◌, []}
use Rattle.wdl_typed.specs.declared.flow.FlowDef.{FlowDef}
use Rattle.wdl_typed.specs.Bodies.{Library, body_gives}
use Rattle.wdl_typed.specs.Declarations.{inputs_typed}
use Rattle.wdl_typed.specs.Kept.{inputs_seen, outputs_typed}

-- a workflow is well typed, whatever its names, numbers and depth
abbrev pub lists_typed : Library → FlowDef → Bool
lists_typed lib f =
    inputs_typed lib.structs [] f.inputs && outputs_typed lib.structs f (body_gives lib f.body (inputs_seen f))
