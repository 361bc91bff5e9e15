-- What was entered, as the laws see it.
use Rattle.std.specs.Prelude.{ℕ, length}
use Rattle.value_net.specs.Nets.{view}
use Rattle.plan_growth.specs.Entering.{Plot, Sown}
use Rattle.plan_bodies.specs.declared.entered.Entered.{Entered}

abbrev pub cell_count : Sown → ℕ
cell_count net = length net.values

abbrev pub plot : Entered → Plot
plot e = record { net = view e.net; instances = e.instances }
