-- The laws of moves, each the promise of a function in `laws`.
use Rattle.std.specs.Prelude.{◌≡◌, ◌⊎◌, ℕ, ◌+◌, true, false, List, [], ◌∷◌, ◌++◌, Some, Ok, Err, length, map, slice_get, codes}
use Rattle.wdl_base.specs.declared.fault.EvalCode.{EvalCode}
use Rattle.wdl_base.specs.declared.place.Segment.TheVariants as segment
use Rattle.wdl_value.specs.declared.env.Bind.{Bind}
use Rattle.wdl_value.specs.declared.value.Value.{Value}
use Rattle.wdl_value.specs.declared.value.Value.TheVariants as v
use Rattle.wdl_value.specs.Outcome.{Outcome}
use Rattle.wdl_value.specs.Parts.{bool_in, items_in}
use Rattle.wdl_value.specs.Tables.{Row}
use Rattle.wdl_typed.specs.declared.expr.TExpr.{TExpr}
use Rattle.wdl_typed.specs.declared.flow.FlowDef.{FlowDef}
use Rattle.wdl_typed.specs.declared.flow.Statement.{Statement}
use Rattle.wdl_typed.specs.declared.flow.Statement.TheVariants as stmt
use Rattle.wdl_typed.specs.declared.flow.TCall.{TCall}
use Rattle.wdl_typed.specs.declared.flow.TIf.{TIf}
use Rattle.wdl_typed.specs.declared.flow.TScatter.{TScatter}
use Rattle.wdl_typed.specs.declared.flow.Target.TheVariants as target
use Rattle.wdl_typed.specs.declared.task.TDecl.{TDecl}
use Rattle.wdl_typed.specs.declared.task.TaskDef.{TaskDef}
use Rattle.wdl_typed.specs.Bodies.{Library}
use Rattle.wdl_typed.specs.Flow.{Sight, args_met, call_of, declaration, env_of, fault_at, flow, giving}
use Rattle.wdl_typed.specs.Journal.{keys_distinct}
use Rattle.wdl_typed.specs.KnownTypes.{is_some}
use Rattle.wdl_typed.specs.Requests.{Failing}
use Rattle.wdl_typed.specs.Scope.{names_of}
use Rattle.flow_laws.specs.Laws.{run_with}
use Rattle.value_net.specs.Nets.{value_at}
use Rattle.net_laws.specs.Cost.{TaskCost, called_cost, met_cost}
use Rattle.net_laws.specs.Growing.{AllEnding, AllGathered, Ending, Form, IsCopied, IsEnded, IsJoined, Item, MarksCopied, OutputsCopied, Rule, SlotsCopied, all, all_dones, body_given, copies, declares, does, each, ends, gathers, only, whole}
use Rattle.net_laws.specs.Moving.{IsWeight, at_step}
use Rattle.net_laws.specs.Net.{Given, Mark, Scope, Slot, Work, flowing_of, inward, known_in, no_work, slot_keys}
use Rattle.net_laws.specs.Planned.{ArgsMet, CallNeeds, call_names, counted}
use Rattle.net_laws.specs.Roots.{IsRoot}
use Rattle.net_laws.specs.Rules.{Follows, Needs, head}
use Rattle.net_laws.specs.Works.{evaluated, faulty, work_of}
use Rattle.plan_moves.specs.Sheets.{Grown, Holds, IsArrival, IsMove, Sheet, rules_of, state_of}

module _ (lib : Library) (site : List ℕ) (rows : List Row) (t : ℕ) (a : Sheet) (mine : List ℕ) (b : Sheet) (theirs : List ℕ) where
  abbrev pub leaves_before : {depth : ℕ} {f : Form} → (v k : ℕ) → Grown lib site rows a mine depth f → ℕ
  leaves_before v k p = at_step lib site rows (rules_of a) (state_of a mine) v k p

  abbrev pub leaves_after : {depth : ℕ} {f : Form} → (v k : ℕ) → Grown lib site rows b theirs depth f → ℕ
  leaves_after v k p = at_step lib site rows (rules_of b) (state_of b theirs) v k p

  abbrev pub spent_before : {depth : ℕ} {f : Form} → TaskCost → Grown lib site rows a mine depth f → ℕ
  spent_before task p = evaluated lib site rows (rules_of a) (state_of a mine) task p

  abbrev pub spent_after : {depth : ℕ} {f : Form} → TaskCost → Grown lib site rows b theirs depth f → ℕ
  spent_after task p = evaluated lib site rows (rules_of b) (state_of b theirs) task p

  -- The step has one leaf.
  abbrev pub IsOnce : {depth : ℕ} {f : Form} → Grown lib site rows a mine depth f → Type 0
  IsOnce p = (k : ℕ) → leaves_before t k p ≡ k

  -- What has grown after the move of a step that adds no other: it has so much work more, so many expressions were evaluated more, and each
  -- other step has the leaves that it had.
  pub record HasMoved (added : Work) (n : ℕ) (depth : ℕ) (f : Form) (p : Grown lib site rows a mine depth f) : Type 0 where
    pub grown : Grown lib site rows b theirs depth f
    pub weighs : (weight : Work → ℕ) → IsWeight weight
        → weight (work_of lib site rows (rules_of b) (state_of b theirs) grown) ≡ weight (work_of lib site rows (rules_of a) (state_of a mine) p) + weight added
    pub leaves : (v k : ℕ) → (v ≡ t → ⊥) → leaves_after v k grown ≡ leaves_before v k p
    pub spends : (task : TaskCost) → spent_after task grown ≡ spent_before task p + n

  -- The same of a step that keeps its own leaf: a call that was asked, or failed.
  pub record HasAsked (added : Work) (cost : TaskCost → ℕ) (depth : ℕ) (f : Form) (p : Grown lib site rows a mine depth f) : Type 0 where
    pub grown : Grown lib site rows b theirs depth f
    pub weighs : (weight : Work → ℕ) → IsWeight weight
        → weight (work_of lib site rows (rules_of b) (state_of b theirs) grown) ≡ weight (work_of lib site rows (rules_of a) (state_of a mine) p) + weight added
    pub leaves : (v k : ℕ) → leaves_after v k grown ≡ leaves_before v k p
    pub spends : (task : TaskCost) → spent_after task grown ≡ spent_before task p + cost task

  -- The same of a step that adds others: these have so many leaves.
  pub record HasEntered (added : Work) (new : ℕ → ℕ → ℕ) (n : ℕ) (depth : ℕ) (f : Form) (p : Grown lib site rows a mine depth f) : Type 0 where
    pub grown : Grown lib site rows b theirs depth f
    pub weighs : (weight : Work → ℕ) → IsWeight weight
        → weight (work_of lib site rows (rules_of b) (state_of b theirs) grown) ≡ weight (work_of lib site rows (rules_of a) (state_of a mine) p) + weight added
    pub leaves : (v k : ℕ) → (v ≡ t → ⊥) → leaves_after v k grown ≡ leaves_before v k p + new v k
    pub spends : (task : TaskCost) → spent_after task grown ≡ spent_before task p + n

-- The cell of a joint is what the rule says of the cells that its step needs.
abbrev pub Joins : Library → List ℕ → List Row → Sheet → List ℕ → Rule → Type 0
Joins lib site rows b theirs (does x s g d) = ⊥
Joins lib site rows b theirs (declares name e s c) = ⊥
Joins lib site rows b theirs (gathers parts c) = IsJoined lib site rows (rules_of b) (state_of b theirs) parts c
Joins lib site rows b theirs (ends parts c) = IsEnded lib site rows (rules_of b) (state_of b theirs) parts c
Joins lib site rows b theirs (copies from c) = IsCopied lib site rows (rules_of b) (state_of b theirs) from c

abbrev pub JointsMove : Type 0
JointsMove =
    (lib : Library) (site : List ℕ) (rows : List Row) (t : ℕ) (a : Sheet) (mine : List ℕ) (b : Sheet) (theirs : List ℕ) → IsMove t a mine b theirs → (r : Rule) → slice_get a.rules t ≡ Some r
    → Joins lib site rows b theirs r → (depth : ℕ) (f : Form) → IsRoot lib depth f → (p : Grown lib site rows a mine depth f) → HasMoved lib site rows t a mine b theirs no_work 0 depth f p

-- The cell and the work are what the declaration gives over the needs.
pub record Tells (b : Sheet) (name : List ℕ) (e : TExpr) (s : Scope) (c : ℕ) (w : Work) : Type 0 where
  pub slots : List Slot
  pub needs : Needs s (names_of e) slots
  pub follows : Follows (value_at b.values) s.place slots [] (λ (y : Sight). declaration y name e) (only name c) w

abbrev pub DeclarationsMove : Type 0
DeclarationsMove =
    (lib : Library) (site : List ℕ) (rows : List Row) (t : ℕ) (a : Sheet) (mine : List ℕ) (b : Sheet) (theirs : List ℕ) → IsMove t a mine b theirs → Holds t mine theirs → (x : TDecl) (s : Scope) (c : ℕ) (w : Work)
    → slice_get a.rules t ≡ Some (does (stmt.Decl x) s (only x.name c) c) → Tells b x.name x.value s c w → (depth : ℕ) (f : Form) → IsRoot lib depth f → (p : Grown lib site rows a mine depth f)
    → IsOnce lib site rows t a mine b theirs p → HasMoved lib site rows t a mine b theirs w 1 depth f p

abbrev pub DefaultsMove : Type 0
DefaultsMove =
    (lib : Library) (site : List ℕ) (rows : List Row) (t : ℕ) (a : Sheet) (mine : List ℕ) (b : Sheet) (theirs : List ℕ) → IsMove t a mine b theirs → Holds t mine theirs → (name : List ℕ) (e : TExpr) (s : Scope) (c : ℕ) (w : Work)
    → slice_get a.rules t ≡ Some (declares name e s c) → Tells b name e s c w → (depth : ℕ) (f : Form) → IsRoot lib depth f → (p : Grown lib site rows a mine depth f)
    → IsOnce lib site rows t a mine b theirs p → HasMoved lib site rows t a mine b theirs w 1 depth f p

-- The cells and the work are what the call gives over the needs; it is a task's, or an argument failed.
pub record TellsCall (lib : Library) (site : List ℕ) (rows : List Row) (b : Sheet) (x : TCall) (s : Scope) (g : Given) (w : Work) : Type 0 where
  pub slots : List Slot
  pub marks : List Mark
  pub needs : CallNeeds s x slots marks
  pub plain : ((k : ℕ) × (y : TaskDef) × (x.target ≡ target.Task k) × (slice_get lib.tasks k ≡ Some y)) ⊎ ((e : Failing) × (args_met (env_of (map (known_in (value_at b.values)) slots)) x.args ≡ Err e))
  pub follows : (depth : ℕ) → Follows (value_at b.values) s.place slots marks (call_of (run_with lib site rows) (flow (run_with lib site rows) depth) (call_names lib x) x) g w

-- the arguments, and what the task evaluates
abbrev pub asked_cost : Library → TaskCost → Sheet → TCall → Scope → List Slot → ℕ
asked_cost lib task b x s slots =
    length x.args + met_cost (called_cost lib task (λ k given place. 0) (s.place ++ segment.Call x.name ∷ []) x.target) (args_met (env_of (map (known_in (value_at b.values)) slots)) x.args)

abbrev pub CallsMove : Type 0
CallsMove =
    (lib : Library) (site : List ℕ) (rows : List Row) (t : ℕ) (a : Sheet) (mine : List ℕ) (b : Sheet) (theirs : List ℕ) → IsMove t a mine b theirs → Holds t mine theirs → (x : TCall) (s : Scope) (g : Given) (d : ℕ) (w : Work)
    → slice_get a.rules t ≡ Some (does (stmt.Call x) s g d) → (h : TellsCall lib site rows b x s g w) → (depth : ℕ) (f : Form) → IsRoot lib depth f → (p : Grown lib site rows a mine depth f)
    → IsOnce lib site rows t a mine b theirs p → HasAsked lib site rows t a mine b theirs w (λ task. asked_cost lib task b x s h.slots) depth f p

-- ---- blocks that are not entered

-- the value of a collection or a condition, over the needs
pub record HasHead (b : Sheet) (s : Scope) (e : TExpr) (o : Outcome Value) : Type 0 where
  pub slots : List Slot
  pub needs : Needs s (names_of e) slots
  pub value : head (value_at b.values) slots e ≡ Some o

-- No cell of the step was set.
abbrev pub IsStill : ℕ → Sheet → List ℕ → Sheet → Type 0
IsStill t a mine b = (c : ℕ) → slice_get mine c ≡ Some t → value_at b.values c ≡ value_at a.values c

pub record FailsScatter (t : ℕ) (a : Sheet) (mine : List ℕ) (b : Sheet) (x : TScatter Statement) (s : Scope) (w : Work) : Type 0 where
  pub code : EvalCode
  pub value_of_head : HasHead b s x.over (Err code)
  pub work : w ≡ faulty (fault_at (s.place ++ segment.Scatter x.number ∷ []) x.item code)
  pub still : IsStill t a mine b

pub record FailsIf (t : ℕ) (a : Sheet) (mine : List ℕ) (b : Sheet) (x : TIf Statement) (s : Scope) (w : Work) : Type 0 where
  pub code : EvalCode
  pub value_of_head : HasHead b s x.cond (Err code)
  pub work : w ≡ faulty (fault_at (s.place ++ segment.If x.number ∷ []) (codes "if") code)
  pub still : IsStill t a mine b

-- The condition is false: each name is undefined, and each call has ended.
pub record IsFalse (lib : Library) (b : Sheet) (x : TIf Statement) (s : Scope) (g : Given) (d : ℕ) (w : Work) : Type 0 where
  pub value : Value
  pub value_of_head : HasHead b s x.cond (Ok value)
  pub off : bool_in value ≡ false
  pub gives : giving (Some v.Absent) true (body_given lib x.body) ≡ flowing_of (value_at b.values) g no_work
  pub done : is_some (value_at b.values d) ≡ true
  pub work : w ≡ no_work

-- A scatter whose collection failed, a condition that failed, and one that is false.
pub record BlocksPass : Type 0 where
  pub scatter : (lib : Library) (site : List ℕ) (rows : List Row) (t : ℕ) (a : Sheet) (mine : List ℕ) (b : Sheet) (theirs : List ℕ) → IsMove t a mine b theirs → Holds t mine theirs → (x : TScatter Statement) (s : Scope) (g : Given) (d : ℕ) (w : Work)
      → slice_get a.rules t ≡ Some (does (stmt.Scatter x) s g d) → FailsScatter t a mine b x s w → (depth : ℕ) (f : Form) → IsRoot lib depth f → (p : Grown lib site rows a mine depth f)
      → IsOnce lib site rows t a mine b theirs p → HasMoved lib site rows t a mine b theirs w 1 depth f p
  pub condition : (lib : Library) (site : List ℕ) (rows : List Row) (t : ℕ) (a : Sheet) (mine : List ℕ) (b : Sheet) (theirs : List ℕ) → IsMove t a mine b theirs → Holds t mine theirs → (x : TIf Statement) (s : Scope) (g : Given) (d : ℕ) (w : Work)
      → slice_get a.rules t ≡ Some (does (stmt.If x) s g d) → FailsIf t a mine b x s w → (depth : ℕ) (f : Form) → IsRoot lib depth f → (p : Grown lib site rows a mine depth f)
      → IsOnce lib site rows t a mine b theirs p → HasMoved lib site rows t a mine b theirs w 1 depth f p
  pub off : (lib : Library) (site : List ℕ) (rows : List Row) (t : ℕ) (a : Sheet) (mine : List ℕ) (b : Sheet) (theirs : List ℕ) → IsMove t a mine b theirs → Holds t mine theirs → (x : TIf Statement) (s : Scope) (g : Given) (d : ℕ) (w : Work)
      → slice_get a.rules t ≡ Some (does (stmt.If x) s g d) → IsFalse lib b x s g d w → (depth : ℕ) (f : Form) → IsRoot lib depth f → (p : Grown lib site rows a mine depth f)
      → IsOnce lib site rows t a mine b theirs p → HasMoved lib site rows t a mine b theirs w 1 depth f p

-- ---- blocks that are entered

-- The items have grown so far, what they give out is gathered, and they come to so much work and so many leaves.
pub record EntersScatter (lib : Library) (site : List ℕ) (rows : List Row) (b : Sheet) (theirs : List ℕ) (x : TScatter Statement) (s : Scope) (g : Given) (d : ℕ) (w : Work) (new : ℕ → ℕ → ℕ) : Type 0 where
  pub value : Value
  pub value_of_head : HasHead b s x.over (Ok value)
  pub items : List Item
  pub each_item : (depth : ℕ) → Grown lib site rows b theirs depth (each x.body s x.number x.item 0 (items_in value) items)
  pub names : AllGathered lib site rows (rules_of b) (state_of b theirs) items (body_given lib x.body).keys g.names
  pub calls : AllEnding lib site rows (rules_of b) (state_of b theirs) items (body_given lib x.body).calls g.calls
  pub ended : Ending lib site rows (rules_of b) (state_of b theirs) (all_dones lib site rows (rules_of b) (state_of b theirs) items) d
  pub work : (depth : ℕ) (weight : Work → ℕ) → IsWeight weight → weight (work_of lib site rows (rules_of b) (state_of b theirs) (each_item depth)) ≡ weight w
  pub leaves : (depth v k : ℕ) → at_step lib site rows (rules_of b) (state_of b theirs) v k (each_item depth) ≡ new v k
  pub spends : (depth : ℕ) (task : TaskCost) → evaluated lib site rows (rules_of b) (state_of b theirs) task (each_item depth) ≡ 0

-- The same of the body of a condition.
pub record EntersIf (lib : Library) (site : List ℕ) (rows : List Row) (b : Sheet) (theirs : List ℕ) (x : TIf Statement) (s : Scope) (g : Given) (d : ℕ) (w : Work) (new : ℕ → ℕ → ℕ) : Type 0 where
  pub value : Value
  pub value_of_head : HasHead b s x.cond (Ok value)
  pub on : bool_in value ≡ true
  pub inner : Given
  pub dones : List ℕ
  pub body : (depth : ℕ) → Grown lib site rows b theirs depth (all x.body (inward s (segment.If x.number)) inner dones)
  pub names : SlotsCopied lib site rows (rules_of b) (state_of b theirs) inner.names g.names
  pub calls : MarksCopied lib site rows (rules_of b) (state_of b theirs) inner.calls g.calls
  pub ended : Ending lib site rows (rules_of b) (state_of b theirs) dones d
  pub work : (depth : ℕ) (weight : Work → ℕ) → IsWeight weight → weight (counted (length x.body) (work_of lib site rows (rules_of b) (state_of b theirs) (body depth))) ≡ weight w
  pub leaves : (depth v k : ℕ) → at_step lib site rows (rules_of b) (state_of b theirs) v k (body depth) ≡ new v k
  pub spends : (depth : ℕ) (task : TaskCost) → evaluated lib site rows (rules_of b) (state_of b theirs) task (body depth) ≡ 0

-- A scatter with its items, and a condition that is true.
pub record BlocksEnter : Type 0 where
  pub scatter : (lib : Library) (site : List ℕ) (rows : List Row) (t : ℕ) (a : Sheet) (mine : List ℕ) (b : Sheet) (theirs : List ℕ) → IsMove t a mine b theirs → (x : TScatter Statement) (s : Scope) (g : Given) (d : ℕ) (w : Work)
      (new : ℕ → ℕ → ℕ) → slice_get a.rules t ≡ Some (does (stmt.Scatter x) s g d) → EntersScatter lib site rows b theirs x s g d w new → (depth : ℕ) (f : Form) → IsRoot lib depth f → (p : Grown lib site rows a mine depth f)
      → IsOnce lib site rows t a mine b theirs p → HasEntered lib site rows t a mine b theirs w new 1 depth f p
  pub condition : (lib : Library) (site : List ℕ) (rows : List Row) (t : ℕ) (a : Sheet) (mine : List ℕ) (b : Sheet) (theirs : List ℕ) → IsMove t a mine b theirs → (x : TIf Statement) (s : Scope) (g : Given) (d : ℕ) (w : Work)
      (new : ℕ → ℕ → ℕ) → slice_get a.rules t ≡ Some (does (stmt.If x) s g d) → EntersIf lib site rows b theirs x s g d w new → (depth : ℕ) (f : Form) → IsRoot lib depth f → (p : Grown lib site rows a mine depth f)
      → IsOnce lib site rows t a mine b theirs p → HasEntered lib site rows t a mine b theirs w new 1 depth f p

-- ---- workflows that are called

-- The callee's workflow has grown so far, its outputs are copied, and it comes to so much work and so many leaves.
pub record EntersFlow (lib : Library) (site : List ℕ) (rows : List Row) (b : Sheet) (theirs : List ℕ) (x : TCall) (s : Scope) (g : Given) (d : ℕ) (w : Work) (new : ℕ → ℕ → ℕ) : Type 0 where
  pub slots : List Slot
  pub marks : List Mark
  pub needs : CallNeeds s x slots marks
  pub number : ℕ
  pub is : x.target ≡ target.Flow number
  pub callee : FlowDef
  pub found : slice_get lib.flows number ≡ Some callee
  pub args : List Bind
  pub met : ArgsMet (value_at b.values) x slots marks args
  pub inner : Given
  pub dones : List ℕ
  pub distinct : keys_distinct (slot_keys inner.names) ≡ true
  pub body : (depth : ℕ) → Grown lib site rows b theirs depth (whole callee args (s.place ++ segment.Call x.name ∷ []) inner dones)
  pub copied : OutputsCopied lib site rows (rules_of b) (state_of b theirs) x.name callee.outputs inner.names g.names
  pub ended : Ending lib site rows (rules_of b) (state_of b theirs) dones d
  pub work : (depth : ℕ) (weight : Work → ℕ) → IsWeight weight → weight (work_of lib site rows (rules_of b) (state_of b theirs) (body depth)) ≡ weight w
  pub leaves : (depth v k : ℕ) → at_step lib site rows (rules_of b) (state_of b theirs) v k (body depth) ≡ new v k
  pub spends : (depth : ℕ) (task : TaskCost) → evaluated lib site rows (rules_of b) (state_of b theirs) task (body depth) ≡ 0

abbrev pub FlowsEnter : Type 0
FlowsEnter =
    (lib : Library) (site : List ℕ) (rows : List Row) (t : ℕ) (a : Sheet) (mine : List ℕ) (b : Sheet) (theirs : List ℕ) → IsMove t a mine b theirs → (x : TCall) (s : Scope) (g : Given) (d : ℕ) (w : Work)
    (new : ℕ → ℕ → ℕ) → slice_get a.rules t ≡ Some (does (stmt.Call x) s g d) → EntersFlow lib site rows b theirs x s g d w new → (depth : ℕ) (f : Form) → IsRoot lib depth f → (p : Grown lib site rows a mine depth f)
    → IsOnce lib site rows t a mine b theirs p → HasEntered lib site rows t a mine b theirs w new (length x.args) depth f p

-- ---- answers

-- What has grown after an answer: the work `v` of its call went, and `w` came in its place; each step has the leaves that it had, and no
-- expression counts anew.
pub record HasAnswered (lib : Library) (site : List ℕ) (rows later : List Row) (a b : Sheet) (mine : List ℕ) (v w : Work) (depth : ℕ) (f : Form) (p : Grown lib site rows a mine depth f) : Type 0 where
  pub grown : Grown lib site later b mine depth f
  pub weighs : (weight : Work → ℕ) → IsWeight weight
      → weight (work_of lib site later (rules_of b) (state_of b mine) grown) + weight v ≡ weight (work_of lib site rows (rules_of a) (state_of a mine) p) + weight w
  pub leaves : (l k : ℕ) → at_step lib site later (rules_of b) (state_of b mine) l k grown ≡ at_step lib site rows (rules_of a) (state_of a mine) l k p
  pub spends : (task : TaskCost) → evaluated lib site later (rules_of b) (state_of b mine) task grown ≡ evaluated lib site rows (rules_of a) (state_of a mine) task p

abbrev pub AnswersArrive : Type 0
AnswersArrive =
    (lib : Library) (site : List ℕ) (rows later : List Row) (t : ℕ) (a b : Sheet) (mine : List ℕ) (x : TCall) (s : Scope) (g : Given) (d : ℕ) (v w : Work)
    → IsArrival rows later (s.place ++ segment.Call x.name ∷ []) t a mine b → slice_get a.rules t ≡ Some (does (stmt.Call x) s g d) → TellsCall lib site rows a x s g v → TellsCall lib site later b x s g w
    → (depth : ℕ) (f : Form) → IsRoot lib depth f → (p : Grown lib site rows a mine depth f) → ((k : ℕ) → at_step lib site rows (rules_of a) (state_of a mine) t k p ≡ k)
    → HasAnswered lib site rows later a b mine v w depth f p
