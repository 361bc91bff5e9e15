-- The flow of a body and of each form of statement, with callees to a depth.
use Rattle.std.specs.Prelude.{ℕ, List, [], ◌∷◌, map}
use Rattle.wdl_value.specs.declared.value.Value.{Value}
use Rattle.wdl_typed.specs.declared.flow.Statement.{Statement}
use Rattle.wdl_typed.specs.declared.flow.TCall.{TCall}
use Rattle.wdl_typed.specs.declared.flow.TIf.{TIf}
use Rattle.wdl_typed.specs.declared.flow.TScatter.{TScatter}
use Rattle.wdl_typed.specs.Bodies.{signature}
use Rattle.wdl_typed.specs.Flow.{Names, Part, Run, Runner, Sight, body_names, body_run, call_of, each_item, flow, gathered, if_run, item_sight as entering, scatter_run, signature_keys}
use Rattle.flow_soundness.specs.StatementFlow.{part_of}

abbrev pub parts_of : Run → ℕ → List Statement → List Part
parts_of r depth ss = map (part_of r depth) ss

abbrev pub body_flow : Run → ℕ → List Statement → Runner
body_flow r depth ss = body_run (parts_of r depth ss)

abbrev pub call_names : Run → TCall → Names
call_names r c = record { keys = signature_keys c.name (signature r.library c.target); calls = c.name ∷ [] }

abbrev pub call_flow : Run → ℕ → TCall → Runner
call_flow r depth c = call_of r (flow r depth) (call_names r c) c

abbrev pub scatter_flow : Run → ℕ → TScatter Statement → Runner
scatter_flow r depth s = scatter_run (body_names (parts_of r depth s.body)) (body_flow r depth s.body) s.number s.item s.over

abbrev pub if_flow : Run → ℕ → TIf Statement → Runner
if_flow r depth i = if_run (body_names (parts_of r depth i.body)) (body_flow r depth i.body) i.number i.cond

abbrev pub item_sight : TScatter Statement → ℕ → Value → Sight → Sight
item_sight c i x s = entering s c.number c.item i x

-- the flow of a scatter over these items
abbrev pub scattered : Run → ℕ → TScatter Statement → List Value → Runner
scattered r depth c items s =
    gathered (body_names (parts_of r depth c.body)) (each_item (body_flow r depth c.body) s c.number c.item 0 items)
