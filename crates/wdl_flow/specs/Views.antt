-- What the code holds, as the definitions have it.
use Rattle.wdl_typed.specs.Flow as flow
use Rattle.wdl_flow.specs.declared.yielded.Yielded.{Yielded}

abbrev pub given_of : Yielded → flow.Names
given_of g = record { keys = g.keys; calls = g.calls }
