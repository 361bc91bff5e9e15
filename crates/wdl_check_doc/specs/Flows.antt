-- The workflows of a library (OpenWDL 1.1, "Workflow Definition").
use Rattle.std.specs.Prelude.{List, [], ◌∷◌, slice_get, if◌then◌else◌}
use Rattle.wdl_base.specs.declared.span.Span.{Span}
use Rattle.wdl_value.specs.Fits.{Structs}
use Rattle.wdl_typed.specs.declared.flow.FlowDef.{FlowDef}
use Rattle.wdl_typed.specs.declared.flow.Statement.{Statement, Statement-F, out-Statement}
use Rattle.wdl_typed.specs.declared.flow.Statement.TheOpen as layer
use Rattle.wdl_typed.specs.declared.task.TaskDef.{TaskDef}
use Rattle.wdl_typed.specs.Bodies.{nests}
use Rattle.wdl_check_rules.specs.Spans.{joined}
use Rattle.wdl_check_types.specs.Outcome.{Outcome, done, refused, then_}
use Rattle.wdl_check_flow.specs.declared.flow.FlowRest.{FlowRest}
use Rattle.wdl_check_flow.specs.Flows.{rest_typed}
use Rattle.wdl_check_flow.specs.Targets.{Offer, Place, Space}
use Rattle.wdl_check_doc.specs.Offers.{Table, flow_offers, own_at, spaces, tables, task_offers}
use Rattle.wdl_check_doc.specs.Outcomes.{all, each, in_document, placed}
use Rattle.wdl_check_doc.specs.Parts.{Part, world}
use Rattle.wdl_check_doc.specs.Runnables.{FlowPart, Headed, flows_of, head_in}

-- ---- statements and outputs, by what the documents offer

abbrev pub place : Structs → List Offer → List Space → Part → Place
place structs own spaces p = record { world = world structs p; reach = record { own = own; spaces = spaces } }

abbrev pub rest_with : Structs → List Offer → List Space → Headed → Outcome FlowRest
rest_with structs own spaces h = rest_typed (place structs own spaces h.flow.part) h.head.inputs h.flow.workflow

abbrev pub rest_in : Structs → List Table → Headed → Outcome FlowRest
rest_in structs ts h =
    placed h.flow.part.number (rest_with structs (own_at (slice_get ts h.flow.part.number)) (spaces ts h.flow.part.imports) h)

abbrev pub rests_of : Structs → List Part → List Offer → List Offer → List Headed → Outcome (List FlowRest)
rests_of structs ps tasks flows hs = each (rest_in structs (tables ps tasks flows)) [] hs

abbrev pub rests_typed : Structs → List Part → List TaskDef → List Headed → Outcome (List FlowRest)
rests_typed structs ps tasks hs = rests_of structs ps (task_offers 0 tasks) (flow_offers 0 hs) hs

-- ---- whole workflows

abbrev pub flow_span : FlowPart → Span
flow_span f = in_document f.part.number (joined f.workflow.keyword f.workflow.closing)

abbrev pub flow_def : Headed → FlowRest → FlowDef
flow_def h r = record {
  name = h.flow.workflow.name.name;
  inputs = h.head.inputs;
  body = r.body;
  outputs = r.outputs;
  span = flow_span h.flow;
}

abbrev pub flow_defs : List Headed → List FlowRest → List FlowDef
flow_defs [] rs = []
flow_defs (h ∷ hs) [] = []
flow_defs (h ∷ hs) (r ∷ rs) = flow_def h r ∷ flow_defs hs rs

abbrev pub flows_typed : Structs → List Part → List TaskDef → Outcome (List FlowDef)
flows_typed structs ps tasks =
    then_ (each (head_in structs) [] (flows_of ps)) (λ hs. then_ (rests_typed structs ps tasks hs) (λ rs. done (flow_defs hs rs)))

-- ---- depths

abbrev pub span_at : {A : Type 0} → Statement-F A → Span
span_at (layer.Decl d) = d.span
span_at (layer.Call c) = c.span
span_at (layer.Scatter s) = s.span
span_at (layer.If i) = i.span

-- 328: more than 24 blocks and calls on a path through it, those of called workflows counted
abbrev pub statement_nests : List FlowDef → Statement → Outcome (Unit {0})
statement_nests flows s = if nests flows 24 (out-Statement s) then done tt else refused 328 (span_at (out-Statement s))

abbrev pub flow_nests : List FlowDef → FlowDef → Outcome (Unit {0})
flow_nests flows f = placed f.span.doc (all (statement_nests flows) f.body)

abbrev pub flows_nest : List FlowDef → Outcome (Unit {0})
flows_nest flows = all (flow_nests flows) flows
