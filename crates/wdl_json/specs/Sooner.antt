-- The first input in the text, of those of two lists.
use Rattle.std.specs.Prelude.{Option, Some, None}
use Rattle.wdl_typed.specs.declared.task.TInput.{TInput}
use Rattle.wdl_json.specs.Inputs.{sooner}

abbrev pub joined : Option TInput → Option TInput → Option TInput
joined None found = found
joined (Some i) found = Some (sooner i found)
