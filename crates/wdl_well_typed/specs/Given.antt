-- What statements see and give out, as the code keeps it.
use Rattle.std.specs.Prelude.{ℕ, [], take}
use Rattle.wdl_typed.specs.Bodies.{Seen}
use Rattle.wdl_well_typed.specs.declared.given.YieldedTypes.{YieldedTypes}
use Rattle.wdl_well_typed.specs.declared.given.BodyScope.{BodyScope}

abbrev pub seen : BodyScope → Seen
seen s = record { names = s.names; calls = s.calls }

abbrev pub given : YieldedTypes → Seen
given g = record { names = g.names; calls = g.calls }

abbrev pub nothing : Seen
nothing = record { names = []; calls = [] }

abbrev pub first : ℕ → ℕ → Seen → Seen
first names calls s = record { names = take names s.names; calls = take calls s.calls }
