-- What a layout has of each workflow: the slots of its bodies, and what each statement needs, statement by statement.
use Rattle.std.specs.Prelude.{◌≡◌, ℕ, ◌+◌, List, [], ◌∷◌, ◌++◌, Option, Some, None, length, slice_get}
use Rattle.wdl_base.specs.declared.name.Key.{Key}
use Rattle.wdl_typed.specs.declared.expr.TExpr.{TExpr}
use Rattle.wdl_typed.specs.declared.flow.FlowDef.{FlowDef}
use Rattle.wdl_typed.specs.declared.flow.Statement.{Statement, Statement-F, out-Statement}
use Rattle.wdl_typed.specs.declared.flow.Statement.TheOpen as layer
use Rattle.wdl_typed.specs.declared.flow.Statement.TheVariants as stmt
use Rattle.wdl_typed.specs.declared.flow.TCall.{TCall}
use Rattle.wdl_typed.specs.declared.flow.TIf.{TIf}
use Rattle.wdl_typed.specs.declared.flow.TScatter.{TScatter}
use Rattle.wdl_typed.specs.declared.task.TDecl.{TDecl}
use Rattle.wdl_typed.specs.declared.task.TInput.{TInput}
use Rattle.wdl_typed.specs.Bodies.{Library}
use Rattle.wdl_typed.specs.Declarations.{plain_key}
use Rattle.wdl_typed.specs.Flow.{Names}
use Rattle.wdl_typed.specs.Scope.{names_of}
use Rattle.net_laws.specs.Growing.{body_given}
use Rattle.net_laws.specs.Planned.{call_names}
use Rattle.net_laws.specs.Rules.{arg_keys}
use Rattle.plan_layout.specs.declared.layout.BodyLayout.{BodyLayout}
use Rattle.plan_layout.specs.declared.layout.FlowLayout.{FlowLayout}
use Rattle.plan_layout.specs.declared.layout.Layout.{Layout}
use Rattle.plan_layout.specs.declared.layout.Need.{Need}
use Rattle.plan_layout.specs.declared.layout.StatementLayout.{StatementLayout}
use Rattle.plan_layout.specs.Paths.{body_at}
use Rattle.plan_layout.specs.Spots.{needs_of, plain_keys, spots_from}

-- ---- where a statement stands

-- the names and calls that it sees, the numbers of the statements that lead to its body, its own number there, and the slots that
-- are free: of a name, of a call, of a block
pub record Stand : Type 0 where
  pub names : List Need
  pub calls : List Need
  pub path : List ℕ
  pub index : ℕ
  pub next_name : ℕ
  pub next_call : ℕ
  pub next_done : ℕ

abbrev pub one_name : List ℕ → Names
one_name name = record { keys = plain_key name ∷ []; calls = [] }

-- the names that a statement gives out
abbrev pub given_at : Library → Statement-F Statement → Names
given_at lib (layer.Decl d) = one_name d.name
given_at lib (layer.Call c) = call_names lib c
given_at lib (layer.Scatter b) = body_given lib b.body
given_at lib (layer.If b) = body_given lib b.body

abbrev pub blocks_at : Statement-F Statement → ℕ
blocks_at (layer.Scatter b) = 1
blocks_at (layer.If b) = 1
blocks_at y = 0

-- the stand behind a statement that gives out these names
abbrev pub behind_names : Names → ℕ → Stand → Stand
behind_names n blocks a =
    record {
      names = a.names ++ spots_from (length a.path) a.next_name n.keys;
      calls = a.calls ++ spots_from (length a.path) a.next_call (plain_keys n.calls);
      path = a.path;
      index = a.index + 1;
      next_name = a.next_name + length n.keys;
      next_call = a.next_call + length n.calls;
      next_done = a.next_done + blocks;
    }

abbrev pub behind_one : Library → Statement → Stand → Stand
behind_one lib st = behind_names (given_at lib (out-Statement st)) (blocks_at (out-Statement st))

abbrev pub behind_all : Library → List Statement → Stand → Stand
behind_all lib [] a = a
behind_all lib (st ∷ ss) a = behind_all lib ss (behind_one lib st a)

-- the stand of the first statement of a body that gives out these names, with so many names before them and behind them
abbrev pub beginning : List Need → List Need → List ℕ → Names → ℕ → ℕ → Stand
beginning names calls path n before after =
    record {
      names = names;
      calls = calls;
      path = path;
      index = 0;
      next_name = before;
      next_call = before + length n.keys + after;
      next_done = before + length n.keys + after + length n.calls;
    }

-- what the body of a scatter sees beside
abbrev pub item_spot : List ℕ → List ℕ → Need
item_spot path item = record { key = plain_key item; level = length path; slot = 0 }

-- ---- statements

-- the slots of a statement that gives out these names
pub record HasSlots (n : Names) (a : Stand) (done : ℕ) (l : StatementLayout) : Type 0 where
  pub first_name : l.first_name ≡ a.next_name
  pub names : l.names ≡ length n.keys
  pub first_call : l.first_call ≡ a.next_call
  pub calls : l.calls ≡ length n.calls
  pub done_is : l.done ≡ done

-- the needs of a statement: names, each once, as they are seen, and calls
pub record HasNeeds (a : Stand) (keys : List Key) (calls : List (List ℕ)) (l : StatementLayout) : Type 0 where
  pub needs : l.needs ≡ needs_of a.names keys
  pub after : l.after ≡ needs_of a.calls (plain_keys calls)

-- what is laid out: a statement, statements one after the other, or a body that sees these names and calls, with so many names
-- before those of its statements and behind them
pub data Form : Type 0 where
  one : Statement → Stand → StatementLayout → Form
  all : List Statement → Stand → List StatementLayout → Form
  whole : List Statement → List Need → List Need → List ℕ → ℕ → ℕ → BodyLayout → Form

-- nothing is said of a statement
abbrev pub anything : Statement → Stand → Type 0
anything st a = Unit {0}

module _ (lib : Library) (flow : ℕ) (root : List Statement) where
  -- a body of the workflow, by its path, and the runs of its slots
  pub record HasRuns (ss : List Statement) (names calls : List Need) (path : List ℕ) (before after : ℕ) (b : BodyLayout) : Type 0 where
    pub flow_is : b.flow ≡ flow
    pub path_is : b.path ≡ path
    pub level : b.level ≡ length path
    pub there : body_at root path ≡ ss
    pub first_name : b.first_name ≡ before
    pub names_count : b.names ≡ length (body_given lib ss).keys
    pub first_call : b.first_call ≡ before + length (body_given lib ss).keys + after
    pub calls_count : b.calls ≡ length (body_given lib ss).calls
    pub cells : b.cells ≡ (behind_all lib ss (beginning names calls path (body_given lib ss) before after)).next_done

-- What is laid out of a workflow of that number and with that body, where this holds of each statement where it stands.
module _ (Fact : Statement → Stand → Type 0) (lib : Library) (flow : ℕ) (root : List Statement) where
  pub data Laid (bodies : List BodyLayout) : Form → Type 0 where
    laid_decl : (x : TDecl) (a : Stand) (l : StatementLayout) → HasSlots (one_name x.name) a a.next_name l → HasNeeds a (names_of x.value) [] l → Laid bodies (one (stmt.Decl x) a l)
    laid_call : (x : TCall) (a : Stand) (l : StatementLayout) → HasSlots (call_names lib x) a a.next_call l → HasNeeds a (arg_keys x.args) x.after l → Laid bodies (one (stmt.Call x) a l)
    laid_scatter : (x : TScatter Statement) (a : Stand) (l : StatementLayout) (b : BodyLayout) → HasSlots (body_given lib x.body) a a.next_done l → HasNeeds a (names_of x.over) [] l → slice_get bodies l.inner ≡ Some b
        → Laid bodies (whole x.body (a.names ++ item_spot (a.path ++ a.index ∷ []) x.item ∷ []) a.calls (a.path ++ a.index ∷ []) 1 0 b) → Laid bodies (one (stmt.Scatter x) a l)
    laid_if : (x : TIf Statement) (a : Stand) (l : StatementLayout) (b : BodyLayout) → HasSlots (body_given lib x.body) a a.next_done l → HasNeeds a (names_of x.cond) [] l → slice_get bodies l.inner ≡ Some b
        → Laid bodies (whole x.body a.names a.calls (a.path ++ a.index ∷ []) 0 0 b) → Laid bodies (one (stmt.If x) a l)
    laid_none : (a : Stand) → Laid bodies (all [] a [])
    laid_next : (x : Statement) (xs : List Statement) (a : Stand) (l : StatementLayout) (ls : List StatementLayout) → Fact x a → Laid bodies (one x a l) → Laid bodies (all xs (behind_one lib x a) ls)
        → Laid bodies (all (x ∷ xs) a (l ∷ ls))
    laid_whole : (ss : List Statement) (names calls : List Need) (path : List ℕ) (before after : ℕ) (b : BodyLayout) → HasRuns lib flow root ss names calls path before after b
        → Laid bodies (all ss (beginning names calls path (body_given lib ss) before after) b.statements) → Laid bodies (whole ss names calls path before after b)

-- ---- workflows

-- a name of a workflow's own body, behind those that are seen there
abbrev pub with_plain : List Need → List ℕ → List Need
with_plain seen name = seen ++ record { key = plain_key name; level = 0; slot = length seen } ∷ []

abbrev pub default_needs : List Need → Option TExpr → List Need
default_needs seen None = []
default_needs seen (Some e) = needs_of seen (names_of e)

-- Each input sees those before it.
abbrev pub input_needs : List Need → List TInput → List (List Need)
input_needs seen [] = []
input_needs seen (i ∷ is) = default_needs seen i.value ∷ input_needs (with_plain seen i.name) is

abbrev pub with_inputs : List Need → List TInput → List Need
with_inputs seen [] = seen
with_inputs seen (i ∷ is) = with_inputs (with_plain seen i.name) is

abbrev pub output_needs : List Need → List TDecl → List (List Need)
output_needs seen [] = []
output_needs seen (d ∷ ds) = needs_of seen (names_of d.value) ∷ output_needs (with_plain seen d.name) ds

-- the names that are seen behind the statements of a workflow
abbrev pub body_seen : Library → FlowDef → List Need
body_seen lib f = (behind_all lib f.body (beginning (with_inputs [] f.inputs) [] [] (body_given lib f.body) (length f.inputs) (length f.outputs))).names

-- a workflow, by what is said of it and of its own body
pub record IsLaidAs (Fact : Statement → Stand → Type 0) (lib : Library) (bodies : List BodyLayout) (k : ℕ) (f : FlowDef) (l : FlowLayout) : Type 0 where
  pub body : BodyLayout
  pub there : slice_get bodies l.body ≡ Some body
  pub inputs : l.inputs ≡ input_needs [] f.inputs
  pub laid : Laid Fact lib k f.body bodies (whole f.body (with_inputs [] f.inputs) [] [] (length f.inputs) (length f.outputs) body)
  pub outputs : l.outputs ≡ output_needs (body_seen lib f) f.outputs
  pub first_output : l.first_output ≡ length (body_seen lib f)

pub record IsLaidFlow (Fact : Statement → Stand → Type 0) (lib : Library) (flows : List FlowLayout) (bodies : List BodyLayout) (k : ℕ) (f : FlowDef) : Type 0 where
  pub layout : FlowLayout
  pub there : slice_get flows k ≡ Some layout
  pub laid : IsLaidAs Fact lib bodies k f layout

-- Each workflow is laid out.
pub record IsLayout (Fact : Statement → Stand → Type 0) (lib : Library) (l : Layout) : Type 0 where
  pub count : length l.flows ≡ length lib.flows
  pub flows : (k : ℕ) (f : FlowDef) → slice_get lib.flows k ≡ Some f → IsLaidFlow Fact lib l.flows l.bodies k f
