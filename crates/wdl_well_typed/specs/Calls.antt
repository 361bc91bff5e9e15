-- What calls name, as the code keeps it, and which calls are well typed.
use Rattle.std.specs.Prelude.{Bool, ◌&&◌, List}
use Rattle.wdl_value.specs.Fits.{Structs}
use Rattle.wdl_typed.specs.declared.expr.TExpr.{TExpr}
use Rattle.wdl_typed.specs.declared.expr.TField.{TField}
use Rattle.wdl_typed.specs.declared.flow.TCall.{TCall}
use Rattle.wdl_typed.specs.declared.scope.Bound.{Bound}
use Rattle.wdl_typed.specs.declared.task.TInput.{TInput}
use Rattle.wdl_typed.specs.Bodies.{Library, Seen, Signature, all_given, all_seen, arg_names, arg_typed, args_typed, input_type, library}
use Rattle.wdl_typed.specs.Declarations.{in_body}
use Rattle.wdl_typed.specs.Lists.{are_distinct}
use Rattle.wdl_well_typed.specs.declared.calls.Library.{Library as Kept}
use Rattle.wdl_well_typed.specs.declared.calls.Signature.{Signature as Read}

abbrev pub library_of : Kept → Library
library_of l = library l.structs l.tasks.now l.flows.now

abbrev pub signature_of : Read → Signature
signature_of s = record { inputs = s.inputs.now; outputs = s.outputs.now }

abbrev pub arg_fits : Structs → List Bound → List TInput → TField TExpr → Bool
arg_fits structs names inputs a = arg_typed (input_type inputs a.name) (in_body structs names a.value)

abbrev pub call_fits : Structs → TCall → Seen → List TInput → Bool
call_fits structs c seen inputs =
    args_typed structs seen.names inputs c.args
    && are_distinct (arg_names c.args)
    && all_given inputs (arg_names c.args)
    && all_seen seen.calls c.after
