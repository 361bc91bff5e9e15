-- What the statements of workflows give over a table of answers (OpenWDL 1.1, "Workflow Definition"): everything is
-- evaluated from scratch, statement by statement, in dependency order.
use Rattle.std.specs.Prelude.{ℕ, zero, suc, ◌+◌, nat_lt, Bool, true, false, ◌&&◌, ◌||◌, List, [], ◌∷◌, ◌++◌, Option, Some, None, option_and_then, Ok, Err, if◌then◌else◌, length, map, slice_get, codes}
use Rattle.std.specs.List.{list_all}
use Rattle.std.specs.Str.{bytes_eq}
use Rattle.wdl_base.specs.declared.answer.Answer.{Answer}
use Rattle.wdl_base.specs.declared.fault.EvalCode.{EvalCode}
use Rattle.wdl_base.specs.declared.fault.Fault.{Fault}
use Rattle.wdl_base.specs.declared.fault.Why.TheVariants.{Code}
use Rattle.wdl_base.specs.declared.name.Key.{Key}
use Rattle.wdl_base.specs.declared.place.Segment.{Segment}
use Rattle.wdl_base.specs.declared.place.Segment.TheVariants as segment
use Rattle.wdl_base.specs.declared.request.Request.{Request}
use Rattle.wdl_value.specs.declared.env.Bind.{Bind}
use Rattle.wdl_value.specs.declared.value.Value.{Value}
use Rattle.wdl_value.specs.declared.value.Value.TheVariants as v
use Rattle.wdl_value.specs.Outcome.{Outcome}
use Rattle.wdl_value.specs.Parts.{bool_in, items_in}
use Rattle.wdl_value.specs.Tables.{Row, answer_at}
use Rattle.wdl_typed.specs.declared.expr.TExpr.{TExpr}
use Rattle.wdl_typed.specs.declared.expr.TField.{TField}
use Rattle.wdl_typed.specs.declared.flow.FlowDef.{FlowDef}
use Rattle.wdl_typed.specs.declared.flow.Statement.{Statement, Statement-F, fold-Statement}
use Rattle.wdl_typed.specs.declared.flow.Statement.TheOpen as layer
use Rattle.wdl_typed.specs.declared.flow.TCall.{TCall}
use Rattle.wdl_typed.specs.declared.flow.Target.{Target}
use Rattle.wdl_typed.specs.declared.flow.Target.TheVariants as target
use Rattle.wdl_typed.specs.declared.task.TDecl.{TDecl}
use Rattle.wdl_typed.specs.declared.task.TInput.{TInput}
use Rattle.wdl_typed.specs.declared.task.TaskDef.{TaskDef}
use Rattle.wdl_typed.specs.Bodies.{Library, Signature, signature}
use Rattle.wdl_typed.specs.Declarations.{plain_key}
use Rattle.wdl_typed.specs.Evaluation.{value_of}
use Rattle.wdl_typed.specs.KnownTypes.{is_some}
use Rattle.wdl_typed.specs.Requests.{Asked, Failing, Successes, Tried, asks, bad_status, before, is_success, job_dir, request, tells, tried}
use Rattle.wdl_typed.specs.Scope.{lookup, names_of}

-- ---- what is known

-- a name with its value, or missing
pub record Known : Type 0 where
  pub key : Key
  pub value : Option Value

-- a call, for `after`: whether it has ended
pub record Ended : Type 0 where
  pub call : List ℕ
  pub ended : Bool

abbrev pub bound_by : Key → Option Value → List Bind
bound_by key None = []
bound_by key (Some x) = record { key = key; value = x } ∷ []

-- the names with a value
abbrev pub env_of : List Known → List Bind
env_of [] = []
env_of (k ∷ ks) = bound_by k.key k.value ++ env_of ks

abbrev pub is_known : List Known → Key → Bool
is_known ks key = is_some (lookup (env_of ks) key)

-- The names of an expression are all known.
abbrev pub all_known : List Known → TExpr → Bool
all_known ks e = list_all (is_known ks) (names_of e)

abbrev pub has_ended : List Ended → List ℕ → Bool
has_ended [] name = false
has_ended (c ∷ cs) name = if bytes_eq c.call name then c.ended else has_ended cs name

-- what the statements of a body give: names, calls, requests, the statuses of success of each request, faults, the places that wait
-- for an answer, and how many instances of statements were entered
pub record Flowing : Type 0 where
  pub names : List Known
  pub calls : List Ended
  pub jobs : List Request
  pub codes : List Successes
  pub faults : List Fault
  pub waits : List (List Segment)
  pub count : ℕ

abbrev pub nothing : Flowing
nothing = record { names = []; calls = []; jobs = []; codes = []; faults = []; waits = []; count = 0 }

abbrev pub together : Flowing → Flowing → Flowing
together f g =
    record {
      names = f.names ++ g.names;
      calls = f.calls ++ g.calls;
      jobs = f.jobs ++ g.jobs;
      codes = f.codes ++ g.codes;
      faults = f.faults ++ g.faults;
      waits = f.waits ++ g.waits;
      count = f.count + g.count;
    }

-- what a statement sees: names, calls, and the place of its body's instance
pub record Sight : Type 0 where
  pub names : List Known
  pub calls : List Ended
  pub place : List Segment

abbrev pub seeing : Sight → Flowing → Sight
seeing s f = record { names = s.names ++ f.names; calls = s.calls ++ f.calls; place = s.place }

abbrev pub inside : Sight → Segment → Sight
inside s g = record { names = s.names; calls = s.calls; place = s.place ++ g ∷ [] }

abbrev pub with_name : Sight → List ℕ → Value → Sight
with_name s name x = record { names = s.names ++ record { key = plain_key name; value = Some x } ∷ []; calls = s.calls; place = s.place }

-- ---- names without a value

-- the names and calls that a statement gives out
pub record Names : Type 0 where
  pub keys : List Key
  pub calls : List (List ℕ)

abbrev pub output_keys : List ℕ → List TDecl → List Key
output_keys call [] = []
output_keys call (d ∷ ds) = record { first = call; second = Some d.name } ∷ output_keys call ds

abbrev pub signature_keys : List ℕ → Option Signature → List Key
signature_keys call None = []
signature_keys call (Some s) = output_keys call s.outputs

abbrev pub all_given : List Names → Names
all_given [] = record { keys = []; calls = [] }
all_given (n ∷ ns) = record { keys = n.keys ++ (all_given ns).keys; calls = n.calls ++ (all_given ns).calls }

abbrev pub each_key : Option Value → List Key → List Known
each_key x [] = []
each_key x (k ∷ ks) = record { key = k; value = x } ∷ each_key x ks

abbrev pub each_call : Bool → List (List ℕ) → List Ended
each_call b [] = []
each_call b (c ∷ cs) = record { call = c; ended = b } ∷ each_call b cs

abbrev pub giving : Option Value → Bool → Names → Flowing
giving x b n = record { names = each_key x n.keys; calls = each_call b n.calls; jobs = []; codes = []; faults = []; waits = []; count = 0 }

abbrev pub missing : Names → Flowing
missing = giving None false

-- ---- faults

abbrev pub fault_at : List Segment → List ℕ → EvalCode → Fault
fault_at place name c = record { place = place; name = name; why = Code c }

abbrev pub failing_at : List Segment → Failing → Fault
failing_at place f = record { place = place; name = f.name; why = f.why }

abbrev pub with_fault : Fault → Flowing → Flowing
with_fault fault f =
    record { names = f.names; calls = f.calls; jobs = f.jobs; codes = f.codes; faults = fault ∷ f.faults; waits = f.waits; count = f.count }

abbrev pub with_count : ℕ → Flowing → Flowing
with_count n f =
    record { names = f.names; calls = f.calls; jobs = f.jobs; codes = f.codes; faults = f.faults; waits = f.waits; count = n + f.count }

-- ---- declarations

abbrev pub known : List ℕ → Option Value → Known
known name x = record { key = plain_key name; value = x }

abbrev pub named : Known → Flowing
named k = record { names = k ∷ []; calls = []; jobs = []; codes = []; faults = []; waits = []; count = 0 }

abbrev pub declared_as : List Segment → List ℕ → Outcome Value → Flowing
declared_as place name (Ok x) = named (known name (Some x))
declared_as place name (Err c) = with_fault (fault_at place name c) (named (known name None))

-- With a missing name the declaration is missing.
abbrev pub declaration : Sight → List ℕ → TExpr → Flowing
declaration s name e =
    if all_known s.names e then declared_as s.place name (value_of (before (env_of s.names)) e) else named (known name None)

abbrev pub default_of : Sight → List ℕ → Option TExpr → Flowing
default_of s name None = named (known name (Some v.Absent))
default_of s name (Some e) = declaration s name e

abbrev pub input_of : Sight → TInput → Option Value → Flowing
input_of s i (Some x) = named (known i.name (Some x))
input_of s i None = default_of s i.name i.value

-- what statements give one after the other, each seeing those before it
abbrev pub Runner : Type 0
Runner = Sight → Flowing

abbrev pub in_turn : List Runner → Runner
in_turn [] s = nothing
in_turn (f ∷ fs) s = together (f s) (in_turn fs (seeing s (f s)))

-- Inputs that were left out take their default, or are undefined.
abbrev pub inputs : List Bind → List TInput → Runner
inputs given is = in_turn (map (λ (i : TInput) (s : Sight). input_of s i (lookup given (plain_key i.name))) is)

abbrev pub outputs : List TDecl → Runner
outputs ds = in_turn (map (λ (d : TDecl) (s : Sight). declaration s d.name d.value) ds)

-- ---- task calls

-- the table of answers, the directory below which each job has its own, and the library
pub record Run : Type 0 where
  pub library : Library
  pub site : List ℕ
  pub table : List Row

abbrev pub call_place : Sight → List ℕ → List Segment
call_place s name = s.place ++ segment.Call name ∷ []

abbrev pub bound_output : List ℕ → Bind → Known
bound_output call b = record { key = record { first = call; second = Some b.key.first }; value = Some b.value }

abbrev pub ended_call : List ℕ → List Bind → Flowing
ended_call call outs =
    record { names = map (bound_output call) outs; calls = record { call = call; ended = true } ∷ []; jobs = []; codes = []; faults = []; waits = []; count = 0 }

abbrev pub with_jobs : List Request → List Successes → Flowing → Flowing
with_jobs jobs successes f =
    record { names = f.names; calls = f.calls; jobs = jobs ++ f.jobs; codes = successes ++ f.codes; faults = f.faults; waits = f.waits; count = f.count }

abbrev pub waiting : List Segment → Flowing → Flowing
waiting place f = record { names = f.names; calls = f.calls; jobs = f.jobs; codes = f.codes; faults = f.faults; waits = place ∷ f.waits; count = f.count }

abbrev pub concluded : Names → List Segment → List ℕ → Tried (List Bind) → Flowing
concluded n place call (Ok outs) = ended_call call outs
concluded n place call (Err e) = with_fault (failing_at place e) (missing n)

-- what an attempt gives, by its answer, and by what the later attempts give
abbrev pub attempted : Run → Names → List Segment → TaskDef → List ℕ → Asked → ℕ → Bool → Flowing → Option Answer → Flowing
attempted r n place t call a attempt last later None = waiting place (missing n)
attempted r n place t call a attempt last later (Some answer) =
    if is_success a.codes answer.status then concluded n place call (tells r.library.structs t a (job_dir r.site place attempt) answer)
    else (if last then with_fault (failing_at place (bad_status answer.status)) (missing n) else later)

-- Attempts are taken one after the other; so many are left after this one.
abbrev pub attempts : Run → Names → List Segment → TaskDef → List ℕ → Asked → ℕ → ℕ → Flowing
attempts r n place t call a zero attempt =
    with_jobs (request r.site place attempt a ∷ []) (a.codes ∷ []) (attempted r n place t call a attempt true (missing n) (answer_at r.table place attempt))
attempts r n place t call a (suc left) attempt =
    with_jobs (request r.site place attempt a ∷ []) (a.codes ∷ [])
    (attempted r n place t call a attempt false (attempts r n place t call a left (attempt + 1)) (answer_at r.table place attempt))

abbrev pub asked : Run → Names → List Segment → TaskDef → List ℕ → Tried Asked → Flowing
asked r n place t call (Ok a) = attempts r n place t call a a.retries 0
asked r n place t call (Err e) = with_fault (failing_at place e) (missing n)

-- ---- calls

-- what a workflow gives for the inputs that are given, at a place
abbrev pub Callee : Type 0
Callee = ℕ → List Bind → List Segment → Flowing

-- the call's outputs of what the callee's flow gives
abbrev pub output_of : List Known → List ℕ → TDecl → Known
output_of names call d = record { key = record { first = call; second = Some d.name }; value = lookup (env_of names) (plain_key d.name) }

abbrev pub is_empty : {A : Type 0} → List A → Bool
is_empty [] = true
is_empty (a ∷ as_) = false

abbrev pub is_clean : Flowing → Bool
is_clean f = is_empty f.faults && is_empty f.waits

abbrev pub flow_ended : List ℕ → List TDecl → Flowing → Flowing
flow_ended call outs f =
    record {
      names = map (output_of f.names call) outs;
      calls = record { call = call; ended = is_clean f } ∷ [];
      jobs = f.jobs;
      codes = f.codes;
      faults = f.faults;
      waits = f.waits;
      count = f.count;
    }

abbrev pub task_called : Run → Names → List Segment → List ℕ → List Bind → Option TaskDef → Flowing
task_called r n place call args None = missing n
task_called r n place call args (Some t) = asked r n place t call (asks t args)

abbrev pub flow_called : Callee → Names → List Segment → List ℕ → List Bind → ℕ → Option FlowDef → Flowing
flow_called callee n place call args k None = missing n
flow_called callee n place call args k (Some f) = flow_ended call f.outputs (callee k args place)

abbrev pub called : Run → Callee → Names → List Segment → TCall → List Bind → Target → Flowing
called r callee n place c args (target.Task k) = task_called r n place c.name args (slice_get r.library.tasks k)
called r callee n place c args (target.Flow k) = flow_called callee n place c.name args k (slice_get r.library.flows k)

abbrev pub arg_bind : List ℕ → Value → Bind
arg_bind name x = record { key = plain_key name; value = x }

abbrev pub named_arg : {A : Type 0} → List ℕ → Outcome A → Tried A
named_arg name (Ok a) = Ok a
named_arg name (Err c) = Err (record { name = name; why = Code c })

-- the arguments in order; the first fault is the result
abbrev pub args_met : List Bind → List (TField TExpr) → Tried (List Bind)
args_met env [] = Ok []
args_met env (a ∷ as_) =
    tried (named_arg a.name (value_of (before env) a.value)) (λ x. tried (args_met env as_) (λ more. Ok (arg_bind a.name x ∷ more)))

abbrev pub with_args : Run → Callee → Names → List Segment → TCall → Tried (List Bind) → Flowing
with_args r callee n place c (Ok args) = called r callee n place c args c.target
with_args r callee n place c (Err e) = with_fault (failing_at place e) (missing n)

abbrev pub args_known : List Known → List (TField TExpr) → Bool
args_known names = list_all (λ (a : TField TExpr). all_known names a.value)

abbrev pub call_of : Run → Callee → Names → TCall → Runner
call_of r callee n c s =
    if args_known s.names c.args && list_all (has_ended s.calls) c.after
    then with_args r callee n (call_place s c.name) c (args_met (env_of s.names) c.args) else missing n

-- ---- blocks

abbrev pub all_values : List (Option Value) → Option (List Value)
all_values [] = Some []
all_values (o ∷ os) = option_and_then (λ x. option_and_then (λ xs. Some (x ∷ xs)) (all_values os)) o

abbrev pub value_in : Key → Flowing → Option Value
value_in key f = lookup (env_of f.names) key

-- A name is the list of its values, or missing if it is missing at one item.
abbrev pub gathered_name : List Flowing → Key → Known
gathered_name fs key = record { key = key; value = option_and_then (λ xs. Some (v.List xs)) (all_values (map (value_in key) fs)) }

abbrev pub gathered_call : List Flowing → List ℕ → Ended
gathered_call fs call = record { call = call; ended = list_all (λ (f : Flowing). has_ended f.calls call) fs }

abbrev pub all_together : List Flowing → Flowing
all_together [] = nothing
all_together (f ∷ fs) = together f (all_together fs)

abbrev pub with_names : Flowing → List Known → List Ended → Flowing
with_names f names calls = record { names = names; calls = calls; jobs = f.jobs; codes = f.codes; faults = f.faults; waits = f.waits; count = f.count }

abbrev pub gathered : Names → List Flowing → Flowing
gathered n fs = with_names (all_together fs) (map (gathered_name fs) n.keys) (map (gathered_call fs) n.calls)

abbrev pub item_sight : Sight → ℕ → List ℕ → ℕ → Value → Sight
item_sight s k item i x = with_name (inside (inside s (segment.Scatter k)) (segment.Index i)) item x

abbrev pub each_item : Runner → Sight → ℕ → List ℕ → ℕ → List Value → List Flowing
each_item body s k item i [] = []
each_item body s k item i (x ∷ xs) = body (item_sight s k item i x) ∷ each_item body s k item (i + 1) xs

abbrev pub scattered : Names → Runner → Sight → ℕ → List ℕ → Outcome Value → Flowing
scattered n body s k item (Ok x) = gathered n (each_item body s k item 0 (items_in x))
scattered n body s k item (Err c) = with_fault (fault_at (s.place ++ segment.Scatter k ∷ []) item c) (missing n)

abbrev pub chosen : Names → Runner → Sight → ℕ → Bool → Flowing
chosen n body s k true = body (inside s (segment.If k))
chosen n body s k false = giving (Some v.Absent) true n

abbrev pub conditional : Names → Runner → Sight → ℕ → Outcome Value → Flowing
conditional n body s k (Ok x) = chosen n body s k (bool_in x)
conditional n body s k (Err c) = with_fault (fault_at (s.place ++ segment.If k ∷ []) (codes "if") c) (missing n)

-- a statement: the names that it gives out, and what it gives
pub record Part : Type 0 where
  pub names : Names
  pub run : Runner

abbrev pub names_of_part : Part → Names
names_of_part p = p.names

abbrev pub run_of_part : Part → Runner
run_of_part p = p.run

abbrev pub body_names : List Part → Names
body_names ps = all_given (map names_of_part ps)

-- Each statement of a body that is entered counts once.
abbrev pub body_run : List Part → Runner
body_run ps s = with_count (length ps) (in_turn (map run_of_part ps) s)

abbrev pub scatter_run : Names → Runner → ℕ → List ℕ → TExpr → Runner
scatter_run n body k item over s =
    if all_known s.names over then scattered n body s k item (value_of (before (env_of s.names)) over) else missing n

abbrev pub if_run : Names → Runner → ℕ → TExpr → Runner
if_run n body k cond s = if all_known s.names cond then conditional n body s k (value_of (before (env_of s.names)) cond) else missing n

abbrev pub part : Names → Runner → Part
part n f = record { names = n; run = f }

abbrev pub call_part : Run → Callee → TCall → Names → Part
call_part r callee c n = part n (call_of r callee n c)

abbrev pub statement_step : Run → Callee → Statement-F Part → Part
statement_step r callee (layer.Decl d) = part (record { keys = plain_key d.name ∷ []; calls = [] }) (λ s. declaration s d.name d.value)
statement_step r callee (layer.Call c) = call_part r callee c (record { keys = signature_keys c.name (signature r.library c.target); calls = c.name ∷ [] })
statement_step r callee (layer.Scatter s) = part (body_names s.body) (scatter_run (body_names s.body) (body_run s.body) s.number s.item s.over)
statement_step r callee (layer.If i) = part (body_names i.body) (if_run (body_names i.body) (body_run i.body) i.number i.cond)

abbrev pub statements : Run → Callee → List Statement → Runner
statements r callee ss = body_run (map (fold-Statement Part (statement_step r callee)) ss)

-- ---- workflows

abbrev pub beginning : List Segment → Sight
beginning place = record { names = []; calls = []; place = place }

-- left-out inputs, then the body, then each output as a declaration
abbrev pub flow_run : Run → Callee → FlowDef → List Bind → Runner
flow_run r callee f given = in_turn (inputs given f.inputs ∷ statements r callee f.body ∷ outputs f.outputs ∷ [])

abbrev pub flow_at : Run → Callee → Option FlowDef → List Bind → List Segment → Flowing
flow_at r callee None given place = nothing
flow_at r callee (Some f) given place = flow_run r callee f given (beginning place)

-- A workflow may call workflows, to a depth.
abbrev pub flow : Run → ℕ → Callee
flow r zero k given place = nothing
flow r (suc depth) k given place = flow_at r (flow r depth) (slice_get r.library.flows k) given place

-- the flow of the main workflow; at most 24 blocks and calls stand on one path, so no depth is passed
abbrev pub whole : Run → ℕ → List Bind → Flowing
whole r main given = flow r 25 main given []

-- more than 20,000 jobs or more than 1,000,000 instances of statements
abbrev pub too_many : Flowing → Bool
too_many f = nat_lt 20000 (length f.jobs) || nat_lt 1000000 f.count

abbrev pub outputs_of : Flowing → FlowDef → List Bind
outputs_of f main = env_of (map (λ (d : TDecl). known d.name (value_in (plain_key d.name) f)) main.outputs)
