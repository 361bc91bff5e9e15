use Rattle.std.proofs.Common.{◌≡◌, ◌++◌, drop, map}
use Rattle.wdl_typed.specs.Flow as flow
use Rattle.value_net.specs.Nets.{value_at, view}
use Rattle.net_laws.specs.Net.{known_in}
use Rattle.plan_layout.specs.Cells as cells
use Rattle.plan_bodies.proofs.address.env_of.Given as goal

abbrev pub invariant-loop-need : goal.invariant-loop-need
invariant-loop-need l =
    l.env ++ flow.env_of (map (known_in (value_at (view l.net).values)) (cells.slots_at l.bases (drop l.need-index l.needs)))
    ≡ flow.env_of (map (known_in (value_at (view l.net).values)) (cells.slots_at l.bases l.needs))
