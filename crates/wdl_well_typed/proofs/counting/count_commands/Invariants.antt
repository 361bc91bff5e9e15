use Rattle.std.proofs.Common.{◌≡◌, ◌+◌, ◌<◌, ◌^◌, min, drop}
use Rattle.wdl_well_typed.specs.Counts.{commands_count}
use Rattle.wdl_well_typed.proofs.counting.count_commands.Given as goal

abbrev pub invariant-loop-task : goal.invariant-loop-task
invariant-loop-task l =
    (l.total < 2 ^ 64)
    × (min (l.total + commands_count (drop l.task-index l.tasks)) 18446744073709551615 ≡ min (commands_count l.tasks) 18446744073709551615)
