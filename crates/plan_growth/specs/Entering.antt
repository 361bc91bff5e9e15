-- What entering a body makes of a net and of the instances: cells, and a step for each statement.
use Rattle.std.specs.Prelude.{ℕ, zero, suc, ◌+◌, List, [], ◌∷◌, ◌++◌, Option, Some, None, length, map}
use Rattle.wdl_base.specs.declared.place.Segment.{Segment}
use Rattle.wdl_base.specs.declared.place.Segment.TheVariants as segment
use Rattle.wdl_value.specs.declared.env.Bind.{Bind}
use Rattle.wdl_value.specs.declared.value.Value.{Value}
use Rattle.wdl_value.specs.declared.value.Value.TheVariants as v
use Rattle.wdl_typed.specs.declared.flow.FlowDef.{FlowDef}
use Rattle.wdl_typed.specs.declared.expr.TExpr.{TExpr}
use Rattle.wdl_typed.specs.declared.task.TInput.{TInput}
use Rattle.wdl_typed.specs.Declarations.{plain_key}
use Rattle.wdl_typed.specs.Scope.{lookup}
use Rattle.value_net.specs.Nets.{View, with_cells, with_step, with_value}
use Rattle.plan_layout.specs.declared.layout.BodyLayout.{BodyLayout}
use Rattle.plan_layout.specs.declared.layout.FlowLayout.{FlowLayout}
use Rattle.plan_layout.specs.declared.layout.Need.{Need}
use Rattle.plan_layout.specs.declared.layout.StatementLayout.{StatementLayout}
use Rattle.plan_layout.specs.Cells.{cell_at}
use Rattle.plan_growth.specs.declared.instance.Instance.{Instance}
use Rattle.plan_growth.specs.declared.rule.Rule.{Rule}
use Rattle.plan_growth.specs.declared.rule.Rule.TheVariants as rule

abbrev pub Sown : Type 0
Sown = View Value Rule

-- the net, and the instances of bodies that were entered
pub record Plot : Type 0 where
  pub net : Sown
  pub instances : List Instance

abbrev pub with_net : Plot → Sown → Plot
with_net p net = record { net = net; instances = p.instances }

-- the cells that a step needs: those of names, and those of calls
abbrev pub cells_of : List ℕ → List Need → List Need → List ℕ
cells_of bases needs after = map (cell_at bases) needs ++ map (cell_at bases) after

-- ---- instances of bodies

-- a step for each statement, from this number on, of the instance
abbrev pub with_statements : ℕ → List ℕ → ℕ → List StatementLayout → Sown → Sown
with_statements instance bases k [] net = net
with_statements instance bases k (l ∷ ls) net =
    with_statements instance bases (k + 1) ls (with_step net (rule.Statement instance k) (cells_of bases l.needs l.after))

-- an instance of a body inside those whose cells begin at these
abbrev pub with_instance : ℕ → List ℕ → List Segment → BodyLayout → Plot → Plot
with_instance body outer place layout p =
    record {
      net = with_statements (length p.instances) (outer ++ length p.net.values ∷ []) 0 layout.statements (with_cells p.net layout.cells);
      instances = p.instances ++ record { body = body; bases = outer ++ length p.net.values ∷ []; place = place } ∷ [];
    }

-- the cells that say that the statements of an instance are done
abbrev pub dones_at : ℕ → List StatementLayout → List ℕ
dones_at first ls = map (λ (l : StatementLayout). first + l.done) ls

-- ---- scatters and conditions

abbrev pub with_item : ℕ → List ℕ → List Segment → BodyLayout → Value → Plot → Plot
with_item body outer place layout item p =
    with_net (with_instance body outer place layout p) (with_value (with_instance body outer place layout p).net (length p.net.values) item)

-- an instance for each item, from this index on, in their order
abbrev pub with_items : ℕ → List ℕ → List Segment → BodyLayout → ℕ → List Value → Plot → Plot
with_items body outer place layout i [] p = p
with_items body outer place layout i (x ∷ xs) p =
    with_items body outer place layout (i + 1) xs (with_item body outer (place ++ segment.Index i ∷ []) layout x p)

-- the first cell of each
abbrev pub firsts_of : ℕ → List ℕ → List Segment → BodyLayout → ℕ → List Value → Plot → List ℕ
firsts_of body outer place layout i [] p = []
firsts_of body outer place layout i (x ∷ xs) p =
    length p.net.values ∷ firsts_of body outer place layout (i + 1) xs (with_item body outer (place ++ segment.Index i ∷ []) layout x p)

-- the cells that say that their statements are done, in the order of the items
abbrev pub all_dones : List StatementLayout → List ℕ → List ℕ
all_dones ls [] = []
all_dones ls (first ∷ firsts) = dones_at first ls ++ all_dones ls firsts

-- ---- joints

abbrev pub beyond_each : List ℕ → ℕ → List ℕ
beyond_each firsts distance = map (λ (first : ℕ). first + distance) firsts

-- so many steps that gather names of these instances, end calls of them, or copy cells
abbrev pub with_gathers : List ℕ → ℕ → ℕ → ℕ → Sown → Sown
with_gathers firsts inner outer zero net = net
with_gathers firsts inner outer (suc n) net =
    with_step (with_gathers firsts inner outer n net) (rule.Gathers (outer + n)) (beyond_each firsts (inner + n))

abbrev pub with_ends : List ℕ → ℕ → ℕ → ℕ → Sown → Sown
with_ends firsts inner outer zero net = net
with_ends firsts inner outer (suc n) net =
    with_step (with_ends firsts inner outer n net) (rule.Ends (outer + n)) (beyond_each firsts (inner + n))

abbrev pub with_copies : ℕ → ℕ → ℕ → Sown → Sown
with_copies inner outer zero net = net
with_copies inner outer (suc n) net = with_step (with_copies inner outer n net) (rule.Copies (outer + n)) ((inner + n) ∷ [])

-- so many cells that are set to nothing
abbrev pub with_absent : ℕ → ℕ → Sown → Sown
with_absent first zero net = net
with_absent first (suc n) net = with_value (with_absent first n net) (first + n) v.Absent

-- ---- workflows

-- the input: its value is given, it is undefined, or the step of its default is left
abbrev pub with_default : Rule → ℕ → ℕ → List Need → Option TExpr → Sown → Sown
with_default r cell first needs None net = with_value net cell v.Absent
with_default r cell first needs (Some e) net = with_step net r (cells_of (first ∷ []) needs [])

abbrev pub with_given : Rule → ℕ → ℕ → List Need → Option TExpr → Option Value → Sown → Sown
with_given r cell first needs default None net = with_default r cell first needs default net
with_given r cell first needs default (Some x) net = with_value net cell x

-- the inputs from this number on, of the instance whose cells begin there
abbrev pub with_inputs : List Bind → ℕ → ℕ → ℕ → List TInput → List (List Need) → Sown → Sown
with_inputs given instance first k [] needs net = net
with_inputs given instance first k (i ∷ is) [] net = net
with_inputs given instance first k (i ∷ is) (n ∷ ns) net =
    with_inputs given instance first (k + 1) is ns
    (with_given (rule.Input instance k) (first + k) first n i.value (lookup given (plain_key i.name)) net)

-- a step for each output from this number on
abbrev pub with_outputs : ℕ → ℕ → ℕ → List (List Need) → Sown → Sown
with_outputs instance first k [] net = net
with_outputs instance first k (n ∷ ns) net =
    with_outputs instance first (k + 1) ns (with_step net (rule.Output instance k) (cells_of (first ∷ []) n []))

-- so many cells from one on
abbrev pub cells_from : ℕ → ℕ → List ℕ
cells_from first zero = []
cells_from first (suc n) = cells_from first n ++ (first + n) ∷ []

-- a workflow at a place, with these inputs, by its layout and that of its own body
abbrev pub with_flow : FlowDef → List Bind → List Segment → FlowLayout → BodyLayout → Plot → Plot
with_flow f given place layout body p =
    with_net (with_instance layout.body [] place body p)
    (with_outputs (length p.instances) (length p.net.values) 0 layout.outputs
    (with_inputs given (length p.instances) (length p.net.values) 0 f.inputs layout.inputs
    (with_instance layout.body [] place body p).net))

-- the cells that say that all of it is done
abbrev pub flow_dones : FlowDef → FlowLayout → BodyLayout → ℕ → List ℕ
flow_dones f layout body first =
    cells_from first (length f.inputs) ++ (dones_at first body.statements ++ cells_from (first + layout.first_output) (length f.outputs))
