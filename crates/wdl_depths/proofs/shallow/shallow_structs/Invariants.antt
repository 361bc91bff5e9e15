use Rattle.std.proofs.Common.{◌≡◌}
use Rattle.wdl_depths.specs.Depths.{shallow_level}
use Rattle.wdl_depths.proofs.shallow.shallow_structs.Given as goal

abbrev pub invariant-loop-level : goal.invariant-loop-level
invariant-loop-level l = l.table ≡ shallow_level l.level l.structs
