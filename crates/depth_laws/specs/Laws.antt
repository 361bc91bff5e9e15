-- The depth of flows, the promise of the function in `laws`.
use Rattle.std.specs.Prelude.{◌≡◌, ℕ, ◌≤◌, List, []}
use Rattle.wdl_base.specs.declared.place.Segment.{Segment}
use Rattle.wdl_value.specs.declared.env.Bind.{Bind}
use Rattle.wdl_value.specs.Tables.{Row}
use Rattle.wdl_typed.specs.Flow.{flow, whole}
use Rattle.flow_laws.specs.Laws.{OfChecked, run_with}

-- At every two depths from 25 on a workflow has one flow, at each place and for all inputs.
abbrev pub DepthsAgree : Type 0
DepthsAgree =
    OfChecked (λ lib. (site : List ℕ) (table : List Row) (m n k : ℕ) (given : List Bind) (place : List Segment) → 25 ≤ m → 25 ≤ n
    → flow (run_with lib site table) m k given place ≡ flow (run_with lib site table) n k given place)

-- The whole flow is the flow at every depth from 25 on.
abbrev pub WholeIsDeepest : Type 0
WholeIsDeepest =
    OfChecked (λ lib. (site : List ℕ) (table : List Row) (n main : ℕ) (given : List Bind) → 25 ≤ n
    → whole (run_with lib site table) main given ≡ flow (run_with lib site table) n main given [])
