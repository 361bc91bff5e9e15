-- What is ready stays ready, part by part.
use Rattle.std.proofs.Common.{◌≡◌, ℕ, zero, suc, ◌-◌, ◌<◌, Bool, true, false, ◌&&◌, List, [], ◌∷◌, ◌++◌, Option, Some, option_and_then, Ok, sym, ap, ◌∙◌, subst, refl, arith}
use Rattle.std.specs.List.{slice_get}
use Rattle.std.proofs.lemmas.Bool.{false≢true, and_parts, and_from}
use Rattle.wdl_value.specs.declared.env.Bind.{Bind}
use Rattle.wdl_typed.specs.declared.flow.FlowDef.{FlowDef}
use Rattle.wdl_typed.specs.declared.flow.Statement.{Statement, Statement-F, fold_out-Statement, map-Statement, out-Statement}
use Rattle.wdl_typed.specs.declared.flow.Statement.TheVariants as stmt
use Rattle.wdl_typed.specs.declared.flow.Statement.TheOpen as layer
use Rattle.wdl_typed.specs.declared.flow.TCall.{TCall}
use Rattle.wdl_typed.specs.declared.flow.Target.{Target}
use Rattle.wdl_typed.specs.declared.flow.Target.TheVariants as target
use Rattle.wdl_typed.specs.declared.task.TDecl.{TDecl}
use Rattle.wdl_typed.specs.declared.task.TaskDef.{TaskDef}
use Rattle.wdl_typed.specs.Bodies.{Giving, Library, Seen, Signature, all_given, all_seen, arg_names, args_typed, body_gives, body_nests, call_by, declared, flow_nests, flow_signature, gives, is_decl, joined, nests, nests_at, signature, statement_step, target_nests, task_signature}
use Rattle.wdl_typed.specs.Declarations.{in_body, task_typed}
use Rattle.wdl_typed.specs.Flow as flow
use Rattle.wdl_typed.specs.Flow.{Run, Sight, args_known, args_met, env_of, seeing}
use Rattle.wdl_typed.specs.KnownTypes.{is_written}
use Rattle.wdl_typed.specs.Lists.{are_distinct}
use Rattle.wdl_typed.specs.Typing.{is_type}
use Rattle.wdl_task.specs.Readiness.{are_given}
use Rattle.flow_soundness.specs.Readiness.{Agrees, AreArgsReady, IsBodyReady, IsCalleeReady, IsDeclReady, IsLibrary, IsStatementReady}
use Rattle.flow_soundness.specs.StatementFlow.{statement_flow}
use Rattle.flow_soundness.proofs.Args.{args_are_given, args_ready}
use Rattle.flow_soundness.proofs.Fitting.{agrees_both, decl_ready}
use Rattle.flow_soundness.proofs.FlowSound.{callees_sound}
use Rattle.flow_soundness.proofs.GivenKeys.{when_some}
use Rattle.flow_soundness.proofs.Newness.{given_apart, head_new, tail_new}
use Rattle.flow_soundness.proofs.Sound.{sound}
use Rattle.wdl_base.proofs.Options.{then_parts, all_at}
use Rattle.flow_soundness.proofs.Fitting.{is_type-some}

-- ---- one statement after the other

module _ (lib : Library) (levels : ℕ) (st : Statement) (ss : List Statement) (s : Sight) (b : IsBodyReady lib levels (st ∷ ss) s) where
  -- what the first statement gives out, and the others
  record Split : Type 0 where
    pub first : Seen
    pub rest : Seen
    pub here : gives lib st b.seen ≡ Some first
    pub there : body_gives lib ss (joined b.seen first) ≡ Some rest

  split : Split
  split =
      let p = then_parts (λ first. option_and_then (λ rest. Some (joined first rest)) (body_gives lib ss (joined b.seen first))) (gives lib st b.seen) b.given b.typed in
      let q = then_parts (λ rest. Some (joined p.0 rest)) (body_gives lib ss (joined b.seen p.0)) b.given p.2 in
      record { first = p.0; rest = q.0; here = p.1; there = q.1 }

  alone : (first : Seen) → gives lib st b.seen ≡ Some first
      → body_gives lib (st ∷ []) b.seen ≡ Some (joined first (record { names = []; calls = [] }))
  alone first h = ap (option_and_then (λ f. option_and_then (λ rest. Some (joined f rest)) (Some (record { names = []; calls = [] })))) h

  nested_parts : (nests lib.flows levels (out-Statement st) ≡ true) × (body_nests lib.flows levels ss ≡ true)
  nested_parts = and_parts (nests lib.flows levels (out-Statement st)) (body_nests lib.flows levels ss) b.nested

  pub first_ready : IsStatementReady lib levels st s
  first_ready = record {
    library = b.library;
    nested = and_from (nests lib.flows levels (out-Statement st)) true nested_parts.0 refl;
    seen = b.seen;
    given = joined split.first (record { names = []; calls = [] });
    typed = alone split.first split.here;
    agrees = b.agrees;
    all = b.all;
    taken = b.taken;
    new = head_new lib b.all b.taken b.seen st ss b.new;
  }

  pub rest_ready : (r : Run) → r.library ≡ lib → (depth : ℕ) → IsBodyReady lib levels ss (seeing s (statement_flow r depth st s))
  rest_ready r same depth = record {
    library = b.library;
    nested = nested_parts.1;
    seen = joined b.seen split.first;
    given = split.rest;
    typed = split.there;
    agrees = agrees_both lib.structs b.seen.names split.first.names s.names (statement_flow r depth st s).names b.agrees here_agrees
        (given_apart lib b.all b.taken b.seen st ss split.first split.here b.new);
    all = b.all;
    taken = b.taken ++ declared st;
    new = tail_new lib b.all b.taken b.seen st ss split.first split.here b.new;
  }
    where
      here_agrees : Agrees lib.structs split.first.names (statement_flow r depth st s).names
      here_agrees =
          subst (λ (l : Library). gives l st b.seen ≡ Some split.first → IsLibrary l → Agrees l.structs b.seen.names s.names
          → Agrees l.structs split.first.names (statement_flow r depth st s).names) same
          (λ h kept agrees. sound r (flow.flow r depth) kept (callees_sound r kept depth) st b.seen split.first s b.all b.taken h agrees (head_new lib b.all b.taken b.seen st ss b.new))
          split.here b.library b.agrees

-- ---- declarations and calls

pub statement_typed : (lib : Library) (levels : ℕ) (st : Statement) (s : Sight) (b : IsStatementReady lib levels st s) (y : Statement-F Statement) → out-Statement st ≡ y
    → (g : Seen) × (statement_step lib (map-Statement Statement Giving (gives lib) y) b.seen ≡ Some g)
statement_typed lib levels st s b y e =
    let p = then_parts (λ first. option_and_then (λ rest. Some (joined first rest)) (body_gives lib [] (joined b.seen first))) (gives lib st b.seen) b.given b.typed in (
      p.0,
      sym (ap (λ (f : Giving). f b.seen) (fold_out-Statement Giving (statement_step lib) st)
          ∙ ap (λ (z : Statement-F Statement). statement_step lib (map-Statement Statement Giving (gives lib) z) b.seen) e) ∙ p.1,
    )

pub decl_is_ready : (lib : Library) (levels : ℕ) (d : TDecl) (s : Sight) → IsStatementReady lib levels (stmt.Decl d) s → IsDeclReady d.value s
decl_is_ready lib levels d s b =
    let p = statement_typed lib levels (stmt.Decl d) s b (layer.Decl d) (stmt.outs-Decl d) in
    let q = when_some _ _ p.0 p.1 in
    let t = and_parts (is_written lib.structs d.ty) (is_type (in_body lib.structs b.seen.names d.value) d.ty) q.0 in
    decl_ready lib.structs b.seen.names s d.value d.ty (is_type-some (in_body lib.structs b.seen.names d.value) d.ty t.1) b.agrees

-- what is typed of a call
record CallTyped (lib : Library) (c : TCall) (seen : Seen) : Type 0 where
  pub target : Signature
  pub is : signature lib c.target ≡ Some target
  pub args : args_typed lib.structs seen.names target.inputs c.args ≡ true
  pub all : all_given target.inputs (arg_names c.args) ≡ true

call_typed : (lib : Library) (levels : ℕ) (c : TCall) (s : Sight) (b : IsStatementReady lib levels (stmt.Call c) s) → CallTyped lib c b.seen
call_typed lib levels c s b =
    let h = statement_typed lib levels (stmt.Call c) s b (layer.Call c) (stmt.outs-Call c) in
    let p = then_parts (call_by lib.structs c b.seen) (signature lib c.target) h.0 h.1 in
    let q = when_some _ _ h.0 p.2 in
    let d = and_parts (args_typed lib.structs b.seen.names p.0.inputs c.args && are_distinct (arg_names c.args) && all_given p.0.inputs (arg_names c.args)) (all_seen b.seen.calls c.after) q.0 in
    let e = and_parts (args_typed lib.structs b.seen.names p.0.inputs c.args && are_distinct (arg_names c.args)) (all_given p.0.inputs (arg_names c.args)) d.0 in
    let f = and_parts (args_typed lib.structs b.seen.names p.0.inputs c.args) (are_distinct (arg_names c.args)) e.0 in
    record { target = p.0; is = p.1; args = f.0; all = e.1 }

pub call_args_ready : (lib : Library) (levels : ℕ) (c : TCall) (s : Sight) → IsStatementReady lib levels (stmt.Call c) s → args_known s.names c.args ≡ true → AreArgsReady (env_of s.names) c.args
call_args_ready lib levels c s b known =
    let t = call_typed lib levels c s b in
    args_ready lib.structs t.target.inputs b.seen.names s.names c.args t.args b.agrees known

-- ---- blocks and calls in one another

-- one level of blocks and calls is used up
pub record Inside (levels : ℕ) (nested : ℕ → Bool) : Type 0 where
  pub within : 0 < levels
  pub one_less : nested (levels - 1) ≡ true

one_level : (n : ℕ) (p : ℕ → Bool) → p n ≡ true → Inside (suc n) p
one_level n p h = let less : (suc n) - 1 ≡ n = omega arith in record { within = omega arith; one_less = ap p less ∙ h }

nests_inside : (flows : List FlowDef) (levels : ℕ) (y : Statement-F Statement) → is_decl y ≡ false → nests flows levels y ≡ true
    → Inside levels (λ n. nests_at (body_nests flows n) flows y)
unfolding nests
nests_inside flows zero y decl h = absurd (false≢true (sym decl ∙ h))
nests_inside flows (suc n) y decl h = one_level n (λ m. nests_at (body_nests flows m) flows y) h

pub statement_nested : (lib : Library) (levels : ℕ) (st : Statement) (s : Sight) (b : IsStatementReady lib levels st s) (y : Statement-F Statement) → out-Statement st ≡ y
    → is_decl y ≡ false → Inside levels (λ n. nests_at (body_nests lib.flows n) lib.flows y)
statement_nested lib levels st s b y e decl =
    nests_inside lib.flows levels y decl (sym (ap (nests lib.flows levels) e) ∙ (and_parts (nests lib.flows levels (out-Statement st)) true b.nested).0)

-- ---- targets of calls

task_of : (lib : Library) (t : Target) (k : ℕ) (task : TaskDef) (s : Signature) → t ≡ target.Task k → slice_get lib.tasks k ≡ Some task → signature lib t ≡ Some s → task_signature task ≡ s
task_of lib t k task s e there h =
    let made = sym (ap (signature lib) e ∙ ap (λ (o : Option TaskDef). option_and_then (λ u. Some (task_signature u)) o) there) ∙ h in
    cc

flow_of : (lib : Library) (t : Target) (k : ℕ) (f : FlowDef) (s : Signature) → t ≡ target.Flow k → slice_get lib.flows k ≡ Some f → signature lib t ≡ Some s → flow_signature f ≡ s
flow_of lib t k f s e there h =
    let made = sym (ap (signature lib) e ∙ ap (λ (o : Option FlowDef). option_and_then (λ u. Some (flow_signature u)) o) there) ∙ h in
    cc

pub callee_is_ready : (lib : Library) (levels : ℕ) (c : TCall) (s : Sight) (args : List Bind) → IsStatementReady lib levels (stmt.Call c) s → args_known s.names c.args ≡ true
    → args_met (env_of s.names) c.args ≡ Ok args → IsCalleeReady lib levels c.target args
callee_is_ready lib levels c s args b known met =
    let t = call_typed lib levels c s b in
    let n = statement_nested lib levels (stmt.Call c) s b (layer.Call c) (stmt.outs-Call c) refl in
    let fit = args_are_given lib.structs t.target.inputs b.seen.names s.names c.args args t.args t.all b.agrees known met in
    record {
      inside = n.within;
      tasks = λ k task e there. (
        all_at (task_typed lib.structs) lib.tasks k task b.library.tasks there,
        ap (λ (z : Signature). are_given lib.structs z.inputs args) (task_of lib c.target k task t.target e there t.is) ∙ fit,
      );
      flows = λ k e. record {
        library = b.library;
        nested = λ f there. sym (ap (λ (u : Target). target_nests (body_nests lib.flows (levels - 1)) lib.flows u) e ∙ ap (flow_nests (body_nests lib.flows (levels - 1))) there) ∙ n.one_less;
        fit = λ f there. ap (λ (z : Signature). are_given lib.structs z.inputs args) (flow_of lib c.target k f t.target e there t.is) ∙ fit;
      };
    }
