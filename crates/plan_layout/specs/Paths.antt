-- The bodies to which the numbers of statements lead.
use Rattle.std.specs.Prelude.{ℕ, List, [], ◌∷◌, Option, Some, None, slice_get}
use Rattle.wdl_typed.specs.declared.flow.FlowDef.{FlowDef}
use Rattle.wdl_typed.specs.declared.flow.Statement.{Statement, Statement-F, out-Statement}
use Rattle.wdl_typed.specs.declared.flow.Statement.TheOpen as layer

abbrev pub block_body : Statement-F Statement → List Statement
block_body (layer.Scatter b) = b.body
block_body (layer.If b) = b.body
block_body y = []

abbrev pub inner_of : Option Statement → List Statement
inner_of None = []
inner_of (Some st) = block_body (out-Statement st)

-- the body to which the numbers lead from this one
abbrev pub body_at : List Statement → List ℕ → List Statement
body_at ss [] = ss
body_at ss (k ∷ ks) = body_at (inner_of (slice_get ss k)) ks

abbrev pub flow_body : Option FlowDef → List Statement
flow_body None = []
flow_body (Some f) = f.body
