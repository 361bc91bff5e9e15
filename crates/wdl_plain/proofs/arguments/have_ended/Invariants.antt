use Rattle.std.proofs.Common.{◌≡◌, drop}
use Rattle.std.specs.List.{list_all}
use Rattle.wdl_typed.specs.Flow.{has_ended}
use Rattle.wdl_plain.specs.Views.{endeds_of}
use Rattle.wdl_plain.proofs.arguments.have_ended.Given as goal

abbrev pub invariant-loop-call : goal.invariant-loop-call
invariant-loop-call l =
    list_all (has_ended (endeds_of l.sight.calls)) (drop l.call-index l.after) ≡ list_all (has_ended (endeds_of l.sight.calls)) l.after
