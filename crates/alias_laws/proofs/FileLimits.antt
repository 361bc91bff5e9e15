-- In every flow the files that are known keep the limits of values, where those do that answers tell of.
use Rattle.std.proofs.Common.{◌≡◌, ℕ, zero, suc, ◌+◌, Bool, true, false, cond, ◌&&◌, List, [], ◌∷◌, ◌++◌, map, Option, Some, None, option_and_then, Ok, Err, slice_get, sym, ap, ◌∙◌, subst, refl}
use Rattle.std.specs.List.{list_all}
use Rattle.std.proofs.lemmas.Bool.{and_from, and_parts}
use Rattle.std.proofs.lemmas.List.Folds.{list_all-append}
use Rattle.wdl_base.specs.declared.answer.Answer.{Answer}
use Rattle.wdl_base.specs.declared.name.Key.{Key}
use Rattle.wdl_base.specs.declared.place.Segment.{Segment}
use Rattle.wdl_base.specs.declared.place.Segment.TheVariants as segment
use Rattle.wdl_value.specs.declared.env.Bind.{Bind}
use Rattle.wdl_value.specs.declared.value.Value.{Value, Value-F, out-Value}
use Rattle.wdl_value.specs.declared.value.Value.TheOpen as value
use Rattle.wdl_value.specs.declared.value.Value.TheVariants as v
use Rattle.wdl_value.specs.Limits.{is_within}
use Rattle.wdl_value.specs.Outcome.{Outcome}
use Rattle.wdl_value.specs.Parts.{bool_in, items_in}
use Rattle.wdl_value.specs.Tables.{answer_at}
use Rattle.wdl_typed.specs.declared.expr.TExpr.{TExpr}
use Rattle.wdl_typed.specs.declared.flow.FlowDef.{FlowDef}
use Rattle.wdl_typed.specs.declared.flow.Statement.{Statement, Statement-F, fold-roll-Statement, fold-Statement, ind-Statement, map-Statement, roll-Statement}
use Rattle.wdl_typed.specs.declared.flow.Statement.TheOpen as layer
use Rattle.wdl_typed.specs.declared.flow.TCall.{TCall}
use Rattle.wdl_typed.specs.declared.flow.Target.{Target}
use Rattle.wdl_typed.specs.declared.flow.Target.TheVariants as target
use Rattle.wdl_typed.specs.declared.task.TDecl.{TDecl}
use Rattle.wdl_typed.specs.declared.task.TaskDef.{TaskDef}
use Rattle.wdl_typed.specs.Evaluation.{value_of}
use Rattle.wdl_typed.specs.Flow as flow
use Rattle.wdl_typed.specs.Flow.{Callee, Flowing, Known, Names, Part, Run, Runner, Sight, all_known, all_values, args_known, args_met, asked, attempted, attempts, body_names, body_run, bound_output, call_of, called, concluded, declaration, each_item, each_key, env_of, flow_run, gathered_name, has_ended, in_turn, missing, output_of, run_of_part, scatter_run, scattered, seeing, statement_step, statements, value_in, with_args}
use Rattle.wdl_typed.specs.Bodies.{signature}
use Rattle.wdl_typed.specs.Declarations.{plain_key}
use Rattle.wdl_typed.specs.Requests.{Asked, Tried, asks, bad_status, before, is_success, job_dir, tells}
use Rattle.wdl_typed.specs.Scope.{lookup, same_key}
use Rattle.alias_laws.specs.Laws.{FilesKeepLimits, file_keeps, file_within}
use Rattle.alias_laws.proofs.Small.{AllSmall, declaration_small, inputs_small, is_small}
use Rattle.alias_laws.proofs.Within.{all_within, args_within}

-- ---- known names

abbrev pub value_keeps : Option Value → Bool
value_keeps None = true
value_keeps (Some x) = file_keeps x

abbrev pub known_keeps : Known → Bool
known_keeps k = value_keeps k.value

abbrev pub AllKeep : List Known → Type 0
AllKeep ks = list_all known_keeps ks ≡ true

-- what keeps the limits keeps them as a file
pub within_keeps : (x : Value) → is_within x ≡ true → file_keeps x ≡ true
within_keeps x h = by_layer (out-Value x)
  where
    by_layer : (l : Value-F Value) → file_within x l ≡ true
    by_layer (value.File s) = h
    by_layer value.Absent = refl
    by_layer (value.Bool b) = refl
    by_layer (value.Int n) = refl
    by_layer (value.Str s) = refl
    by_layer (value.List xs) = refl
    by_layer (value.Pair a b) = refl
    by_layer (value.Map rows) = refl
    by_layer (value.Struct n fields) = refl

absent_keeps : file_keeps v.Absent ≡ true
absent_keeps = ap (file_within v.Absent) v.outs-Absent

list_keeps : (xs : List Value) → file_keeps (v.List xs) ≡ true
list_keeps xs = ap (file_within (v.List xs)) (v.outs-List xs)

pub keep_both : (ks ls : List Known) → AllKeep ks → AllKeep ls → AllKeep (ks ++ ls)
keep_both ks ls h j = list_all-append known_keeps ks ls ∙ and_from (list_all known_keeps ks) (list_all known_keeps ls) h j

pub found_keeps : (ks : List Known) (key : Key) → AllKeep ks → value_keeps (lookup (env_of ks) key) ≡ true
found_keeps [] key h = refl
found_keeps (k ∷ ks) key h =
    let p = and_parts (known_keeps k) (list_all known_keeps ks) h in
    by_value k.value p.0 (found_keeps ks key p.1)
  where
    by_key : (x : Value) → file_keeps x ≡ true → value_keeps (lookup (env_of ks) key) ≡ true → (b : Bool) → value_keeps (cond b (Some x) (lookup (env_of ks) key)) ≡ true
    by_key x own rest true = own
    by_key x own rest false = rest

    by_value : (o : Option Value) → value_keeps o ≡ true → value_keeps (lookup (env_of ks) key) ≡ true → value_keeps (lookup (flow.bound_by k.key o ++ env_of ks) key) ≡ true
    by_value None own rest = rest
    by_value (Some x) own rest = by_key x own rest (same_key k.key key)

keys_keep : (o : Option Value) → value_keeps o ≡ true → (keys : List Key) → AllKeep (each_key o keys)
keys_keep o h [] = refl
keys_keep o h (k ∷ keys) = and_from (value_keeps o) (list_all known_keeps (each_key o keys)) h (keys_keep o h keys)

-- names whose values keep the limits
pub small_keep : (ks : List Known) → AllSmall ks → AllKeep ks
small_keep [] h = refl
small_keep (k ∷ ks) h =
    let p = and_parts (is_small k.value) (list_all (λ (k : Known). is_small k.value) ks) h in
    and_from (known_keeps k) (list_all known_keeps ks) (by_value k.value p.0) (small_keep ks p.1)
  where
    by_value : (o : Option Value) → is_small o ≡ true → value_keeps o ≡ true
    by_value None h = refl
    by_value (Some x) h = within_keeps x h

pub declaration_keeps : (s : Sight) (name : List ℕ) (e : TExpr) → AllKeep (declaration s name e).names
declaration_keeps s name e = small_keep (declaration s name e).names (declaration_small s name e)

-- ---- runners

abbrev pub RunnerKeeps : Runner → Type 0
RunnerKeeps f = (s : Sight) → AllKeep (f s).names

abbrev AllRunners : List Runner → Type 0
AllRunners [] = Unit {0}
AllRunners (f ∷ fs) = RunnerKeeps f × AllRunners fs

turns_keep : (fs : List Runner) → AllRunners fs → RunnerKeeps (in_turn fs)
turns_keep [] h s = refl
turns_keep (f ∷ fs) h s = keep_both (f s).names (in_turn fs (seeing s (f s))).names (h.0 s) (turns_keep fs h.1 (seeing s (f s)))

decls_keep : (ds : List TDecl) → AllRunners (map (λ (d : TDecl) (s : Sight). declaration s d.name d.value) ds)
decls_keep [] = tt
decls_keep (d ∷ ds) = (λ s. declaration_keeps s d.name d.value, decls_keep ds)

-- ---- statements

module _ (r : Run) (limits : FilesKeepLimits r.library r.site r.table) (callee : Callee) (callees : (k : ℕ) (given : List Bind) (place : List Segment) → all_within given → AllKeep (callee k given place).names) where
  missing_keeps : (n : Names) → AllKeep (missing n).names
  missing_keeps n = keys_keep None refl n.keys

  outputs_keep : (call : List ℕ) (outs : List Bind) → list_all (λ (b : Bind). file_keeps b.value) outs ≡ true → AllKeep (map (bound_output call) outs)
  outputs_keep call [] h = refl
  outputs_keep call (b ∷ outs) h =
      let p = and_parts (file_keeps b.value) (list_all (λ (b : Bind). file_keeps b.value) outs) h in
      and_from (file_keeps b.value) (list_all known_keeps (map (bound_output call) outs)) p.0 (outputs_keep call outs p.1)

  ended_keeps : (call : List ℕ) (ks : List Known) (ds : List TDecl) → AllKeep ks → AllKeep (map (output_of ks call) ds)
  ended_keeps call ks [] h = refl
  ended_keeps call ks (d ∷ ds) h =
      and_from (value_keeps (lookup (env_of ks) (plain_key d.name))) (list_all known_keeps (map (output_of ks call) ds)) (found_keeps ks (plain_key d.name) h) (ended_keeps call ks ds h)

  -- ---- calls of tasks

  module _ (n : Names) (place : List Segment) (k : ℕ) (t : TaskDef) (there : slice_get r.library.tasks k ≡ Some t) (call : List ℕ) (args : List Bind) (a : Asked) (asks_is : asks t args ≡ Ok a) where
    concluded_keeps : (attempt : ℕ) (answer : Answer) → answer_at r.table place attempt ≡ Some answer → (o : Tried (List Bind)) → tells r.library.structs t a (job_dir r.site place attempt) answer ≡ o
        → AllKeep (concluded n place call o).names
    concluded_keeps attempt answer at (Ok outs) e = outputs_keep call outs (limits k t args a place attempt answer outs there asks_is at e)
    concluded_keeps attempt answer at (Err f) e = missing_keeps n

    attempted_keeps : (attempt : ℕ) (last : Bool) (later : Flowing) → AllKeep later.names → (o : Option Answer) → answer_at r.table place attempt ≡ o → AllKeep (attempted r n place t call a attempt last later o).names
    attempted_keeps attempt last later h None e = missing_keeps n
    attempted_keeps attempt last later h (Some answer) e = by_success (is_success a.codes answer.status)
      where
        by_last : (b : Bool) → AllKeep (cond b (flow.with_fault (flow.failing_at place (bad_status answer.status)) (missing n)) later).names
        by_last true = missing_keeps n
        by_last false = h

        by_success : (b : Bool) → AllKeep (cond b (concluded n place call (tells r.library.structs t a (job_dir r.site place attempt) answer))
            (cond last (flow.with_fault (flow.failing_at place (bad_status answer.status)) (missing n)) later)).names
        by_success true = concluded_keeps attempt answer e (tells r.library.structs t a (job_dir r.site place attempt) answer) refl
        by_success false = by_last last

    attempts_keep : (left attempt : ℕ) → AllKeep (attempts r n place t call a left attempt).names
    attempts_keep zero attempt = attempted_keeps attempt true (missing n) (missing_keeps n) (answer_at r.table place attempt) refl
    attempts_keep (suc left) attempt = attempted_keeps attempt false (attempts r n place t call a left (attempt + 1)) (attempts_keep left (attempt + 1)) (answer_at r.table place attempt) refl

  asked_keeps : (n : Names) (place : List Segment) (k : ℕ) (t : TaskDef) → slice_get r.library.tasks k ≡ Some t → (call : List ℕ) (args : List Bind) (o : Tried Asked) → asks t args ≡ o → AllKeep (asked r n place t call o).names
  asked_keeps n place k t there call args (Ok a) e = attempts_keep n place k t there call args a e a.retries 0
  asked_keeps n place k t there call args (Err f) e = missing_keeps n

  -- ---- calls

  called_keeps : (n : Names) (place : List Segment) (c : TCall) (args : List Bind) → all_within args → (t : Target) → AllKeep (called r callee n place c args t).names
  called_keeps n place c args h (target.Task k) = by_task (slice_get r.library.tasks k) refl
    where
      by_task : (o : Option TaskDef) → slice_get r.library.tasks k ≡ o → AllKeep (flow.task_called r n place c.name args o).names
      by_task None e = missing_keeps n
      by_task (Some t) e = asked_keeps n place k t e c.name args (asks t args) refl
  called_keeps n place c args h (target.Flow k) = by_flow (slice_get r.library.flows k)
    where
      by_flow : (o : Option FlowDef) → AllKeep (flow.flow_called callee n place c.name args k o).names
      by_flow None = missing_keeps n
      by_flow (Some f) = ended_keeps c.name (callee k args place).names f.outputs (callees k args place h)

  call_keeps : (n : Names) (c : TCall) → RunnerKeeps (call_of r callee n c)
  call_keeps n c s = by_begin (args_known s.names c.args && list_all (has_ended s.calls) c.after)
    where
      by_args : (o : Tried (List Bind)) → args_met (env_of s.names) c.args ≡ o → AllKeep (with_args r callee n (flow.call_place s c.name) c o).names
      by_args (Ok args) e = called_keeps n (flow.call_place s c.name) c args (args_within (env_of s.names) c.args args e) c.target
      by_args (Err f) e = missing_keeps n

      by_begin : (b : Bool) → AllKeep (cond b (with_args r callee n (flow.call_place s c.name) c (args_met (env_of s.names) c.args)) (missing n)).names
      by_begin true = by_args (args_met (env_of s.names) c.args) refl
      by_begin false = missing_keeps n

  -- ---- blocks

  gathered_keep : (fs : List Flowing) (keys : List Key) → AllKeep (map (gathered_name fs) keys)
  gathered_keep fs [] = refl
  gathered_keep fs (k ∷ keys) =
      and_from (value_keeps (option_and_then (λ (xs : List Value). Some (v.List xs)) (all_values (map (value_in k) fs)))) (list_all known_keeps (map (gathered_name fs) keys))
      (by_values (all_values (map (value_in k) fs))) (gathered_keep fs keys)
    where
      by_values : (o : Option (List Value)) → value_keeps (option_and_then (λ (xs : List Value). Some (v.List xs)) o) ≡ true
      by_values None = refl
      by_values (Some xs) = list_keeps xs

  scatter_keeps : (n : Names) (body : Runner) (k : ℕ) (item : List ℕ) (over : TExpr) → RunnerKeeps (scatter_run n body k item over)
  scatter_keeps n body k item over s = by_known (all_known s.names over)
    where
      by_value : (o : Outcome Value) → AllKeep (scattered n body s k item o).names
      by_value (Ok x) = gathered_keep (each_item body s k item 0 (items_in x)) n.keys
      by_value (Err c) = missing_keeps n

      by_known : (b : Bool) → AllKeep (cond b (scattered n body s k item (value_of (before (env_of s.names)) over)) (missing n)).names
      by_known true = by_value (value_of (before (env_of s.names)) over)
      by_known false = missing_keeps n

  if_keeps : (n : Names) (body : Runner) → RunnerKeeps body → (k : ℕ) (c : TExpr) → RunnerKeeps (flow.if_run n body k c)
  if_keeps n body h k c s = by_known (all_known s.names c)
    where
      by_test : (b : Bool) → AllKeep (flow.chosen n body s k b).names
      by_test true = h (flow.inside s (segment.If k))
      by_test false = keys_keep (Some v.Absent) absent_keeps n.keys

      by_value : (o : Outcome Value) → AllKeep (flow.conditional n body s k o).names
      by_value (Ok x) = by_test (bool_in x)
      by_value (Err e) = missing_keeps n

      by_known : (b : Bool) → AllKeep (cond b (flow.conditional n body s k (value_of (before (env_of s.names)) c)) (missing n)).names
      by_known true = by_value (value_of (before (env_of s.names)) c)
      by_known false = missing_keeps n

  -- ---- each form

  abbrev part : Statement → Part
  part = fold-Statement Part (statement_step r callee)

  abbrev Keeps : Statement → Type 0
  Keeps st = RunnerKeeps (run_of_part (part st))

  abbrev Kept : Type 0
  Kept = (st : Statement) × Keeps st

  abbrev firsts : List Kept → List Statement
  firsts = map (λ (k : Kept). k.0)

  abbrev plain : Statement-F Kept → Statement-F Statement
  plain = map-Statement Kept Statement (λ (k : Kept). k.0)

  list_keeps_all : (ks : List Kept) → AllRunners (map run_of_part (map part (firsts ks)))
  list_keeps_all [] = tt
  list_keeps_all (k ∷ ks) = (k.1, list_keeps_all ks)

  body_keeps : (ks : List Kept) → RunnerKeeps (body_run (map part (firsts ks)))
  body_keeps ks s = turns_keep (map run_of_part (map part (firsts ks))) (list_keeps_all ks) s

  layer_keeps : (y : Statement-F Kept) → RunnerKeeps (run_of_part (statement_step r callee (map-Statement Statement Part part (plain y))))
  layer_keeps (layer.Decl d) s = declaration_keeps s d.name d.value
  layer_keeps (layer.Call c) s = call_keeps (record { keys = flow.signature_keys c.name (signature r.library c.target); calls = c.name ∷ [] }) c s
  layer_keeps (layer.Scatter b) s = scatter_keeps (body_names (map part (firsts b.body))) (body_run (map part (firsts b.body))) b.number b.item b.over s
  layer_keeps (layer.If b) s = if_keeps (body_names (map part (firsts b.body))) (body_run (map part (firsts b.body))) (body_keeps b.body) b.number b.cond s

  -- what a statement gives
  pub statement_keeps : (st : Statement) → Keeps st
  statement_keeps = ind-Statement Keeps (λ x y is. subst (λ (z : Statement-F Statement). Keeps (roll-Statement z)) is
      (subst (λ (p : Part). RunnerKeeps (run_of_part p)) (sym (fold-roll-Statement Part (statement_step r callee) (plain y))) (layer_keeps y)))

  all_keep : (ss : List Statement) → AllRunners (map run_of_part (map part ss))
  all_keep [] = tt
  all_keep (st ∷ ss) = (statement_keeps st, all_keep ss)

  flow_keeps : (f : FlowDef) (given : List Bind) → all_within given → RunnerKeeps (flow_run r callee f given)
  flow_keeps f given h =
      turns_keep (flow.inputs given f.inputs ∷ statements r callee f.body ∷ flow.outputs f.outputs ∷ [])
      (λ t. small_keep (flow.inputs given f.inputs t).names (inputs_small given h f.inputs t), (turns_keep (map run_of_part (map part f.body)) (all_keep f.body), (turns_keep (map (λ (d : TDecl) (s : Sight). declaration s d.name d.value) f.outputs) (decls_keep f.outputs), tt)))

-- what a workflow gives, at each depth
pub flows_keep : (r : Run) → FilesKeepLimits r.library r.site r.table → (depth k : ℕ) (given : List Bind) (place : List Segment) → all_within given → AllKeep (flow.flow r depth k given place).names
flows_keep r limits zero k given place h = refl
flows_keep r limits (suc depth) k given place h = by_flow (λ j bs at small. flows_keep r limits depth j bs at small) (slice_get r.library.flows k)
  where
    by_flow : ((j : ℕ) (bs : List Bind) (at : List Segment) → all_within bs → AllKeep (flow.flow r depth j bs at).names) → (o : Option FlowDef) → AllKeep (flow.flow_at r (flow.flow r depth) o given place).names
    by_flow below None = refl
    by_flow below (Some f) = flow_keeps r limits (flow.flow r depth) below f given h (flow.beginning place)
