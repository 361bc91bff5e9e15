-- What a step sees of the net, and what an expression makes of the net and the faults.
use Rattle.std.specs.Prelude.{ℕ, List, [], ◌∷◌, ◌++◌, Ok, Err, map}
use Rattle.wdl_base.specs.declared.fault.Fault.{Fault}
use Rattle.wdl_base.specs.declared.place.Segment.{Segment}
use Rattle.wdl_value.specs.declared.env.Bind.{Bind}
use Rattle.wdl_value.specs.declared.value.Value.{Value}
use Rattle.wdl_value.specs.Outcome.{Outcome}
use Rattle.wdl_typed.specs.declared.expr.TExpr.{TExpr}
use Rattle.wdl_typed.specs.Evaluation.{value_of}
use Rattle.wdl_typed.specs.Flow.{env_of, fault_at}
use Rattle.wdl_typed.specs.Requests.{before}
use Rattle.value_net.specs.Nets.{value_at, with_value}
use Rattle.net_laws.specs.Net.{known_in}
use Rattle.plan_layout.specs.declared.layout.Need.{Need}
use Rattle.plan_layout.specs.Cells.{slots_at}
use Rattle.plan_growth.specs.Entering.{Sown}
use Rattle.plan_steps.specs.declared.declaration.End.{End}
use Rattle.plan_steps.specs.declared.declaration.End.TheVariants.{Told, Failed}

-- the names that a step needs, with their values
abbrev pub own_env : Sown → List ℕ → List Need → List Bind
own_env net bases needs = env_of (map (known_in (value_at net.values)) (slots_at bases needs))

-- what an expression comes to over what its step needs
abbrev pub own_value : Sown → List ℕ → List Need → TExpr → Outcome Value
own_value net bases needs e = value_of (before (own_env net bases needs)) e

abbrev pub outcome_of : End → Outcome Value
outcome_of (Told x) = Ok x
outcome_of (Failed c) = Err c

-- the net with the value of a declaration
abbrev pub told_net : Sown → ℕ → Outcome Value → Sown
told_net net cell (Ok x) = with_value net cell x
told_net net cell (Err c) = net

-- the faults with that of a declaration
abbrev pub told_faults : List Fault → List Segment → List ℕ → Outcome Value → List Fault
told_faults faults place name (Ok x) = faults
told_faults faults place name (Err c) = faults ++ fault_at place name c ∷ []
