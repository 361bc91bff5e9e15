-- A net that still grows: what its cells and steps have of a form, while steps are left. A derivation of `Growing` is one of `Planned`
-- in which some statements are steps that are not taken, some cells of blocks are joints that are not done, and a call of a
-- workflow has the derivation of that workflow. Each step that is taken changes its own leaf alone.
use Rattle.std.specs.Prelude.{◌≡◌, ◌⊎◌, ℕ, suc, ◌+◌, Bool, true, false, List, [], ◌∷◌, ◌++◌, All, Option, Some, None, Ok, Err, map, slice_get}
use Rattle.std.specs.List.{list_all}
use Rattle.wdl_base.specs.declared.fault.EvalCode.{EvalCode}
use Rattle.wdl_base.specs.declared.name.Key.{Key}
use Rattle.wdl_base.specs.declared.place.Segment.{Segment}
use Rattle.wdl_base.specs.declared.place.Segment.TheVariants as segment
use Rattle.wdl_value.specs.declared.env.Bind.{Bind}
use Rattle.wdl_value.specs.declared.value.Value.{Value}
use Rattle.wdl_value.specs.declared.value.Value.TheVariants as v
use Rattle.wdl_value.specs.Parts.{bool_in, items_in}
use Rattle.wdl_value.specs.Tables.{Row}
use Rattle.wdl_typed.specs.declared.expr.TExpr.{TExpr}
use Rattle.wdl_typed.specs.declared.flow.FlowDef.{FlowDef}
use Rattle.wdl_typed.specs.declared.flow.Statement.{Statement}
use Rattle.wdl_typed.specs.declared.flow.Statement.TheVariants as stmt
use Rattle.wdl_typed.specs.declared.flow.TCall.{TCall}
use Rattle.wdl_typed.specs.declared.flow.TIf.{TIf}
use Rattle.wdl_typed.specs.declared.flow.TScatter.{TScatter}
use Rattle.wdl_typed.specs.declared.flow.Target.TheVariants as target
use Rattle.wdl_typed.specs.declared.task.TDecl.{TDecl}
use Rattle.wdl_typed.specs.declared.task.TInput.{TInput}
use Rattle.wdl_typed.specs.declared.task.TaskDef.{TaskDef}
use Rattle.wdl_typed.specs.Lists.{has_name}
use Rattle.wdl_typed.specs.Bodies.{Library}
use Rattle.wdl_typed.specs.Declarations.{plain_key}
use Rattle.wdl_typed.specs.Flow.{Callee, Names, Run, Sight, all_values, args_met, call_of, declaration, env_of, flow, giving, nothing}
use Rattle.wdl_typed.specs.Requests.{Failing}
use Rattle.wdl_typed.specs.Journal.{keys_distinct}
use Rattle.wdl_typed.specs.KnownTypes.{is_some}
use Rattle.wdl_typed.specs.Scope.{is_among, lookup, names_of}
use Rattle.flow_laws.specs.Laws.{run_with}
use Rattle.net_laws.specs.Net.{Cells, Given, Mark, Scope, Slot, Work, beyond, both_given, find, find_call, flowing_of, inward, item_scope, known_in, mark_calls, no_work, slot_keys}
use Rattle.net_laws.specs.Planned.{ArgsMet, CallNeeds, call_names, names_in}
use Rattle.net_laws.specs.Rules.{Follows, Needs, arg_keys, head}

-- ---- a state of the net

-- the cells, the step that may set each, which steps were taken, and the cells that each needs
pub record State : Type 0 where
  pub cells : Cells
  pub owner : ℕ → Option ℕ
  pub taken : ℕ → Bool
  pub needs : ℕ → List ℕ

-- what a step is to do: a statement, by its scope, its cells and the cell that says that it is done; an input's default or an
-- output; a list of the values of cells; a mark that all of these cells are set; the value of a cell once more
pub data Rule : Type 0 where
  does : Statement → Scope → Given → ℕ → Rule
  declares : List ℕ → TExpr → Scope → ℕ → Rule
  gathers : List ℕ → ℕ → Rule
  ends : List ℕ → ℕ → Rule
  copies : ℕ → ℕ → Rule

-- an instance of a body: the cell of its item, what it gives out, and the cells that say what is done
pub record Item : Type 0 where
  pub item : ℕ
  pub given : Given
  pub dones : List ℕ

-- what is instantiated: a statement; statements, inputs and outputs one after the other; a body at each item from an index on; a workflow
pub data Form : Type 0 where
  one : Statement → Scope → Given → ℕ → Form
  all : List Statement → Scope → Given → List ℕ → Form
  each : List Statement → Scope → ℕ → List ℕ → ℕ → List Value → List Item → Form
  takes : List Bind → List TInput → Scope → Given → Form
  tells : List TDecl → Scope → Given → Form
  whole : FlowDef → List Bind → List Segment → Given → List ℕ → Form

abbrev pub slot_cell : Slot → ℕ
slot_cell s = s.cell

abbrev pub mark_cell : Mark → ℕ
mark_cell m = m.cell

abbrev pub only : List ℕ → ℕ → Given
only name c = record { names = record { key = plain_key name; cell = c } ∷ []; calls = [] }

abbrev pub nothing_given : Given
nothing_given = record { names = []; calls = [] }

-- the cells have these names
pub record IsNamed (n : Names) (g : Given) : Type 0 where
  pub keys : slot_keys g.names ≡ n.keys
  pub calls : mark_calls g.calls ≡ n.calls

abbrev pub start : List Segment → Scope
start place = record { names = []; calls = []; place = place }

-- the names that the statements of a body give out
abbrev pub body_given : Library → List Statement → Names
body_given lib ss = names_in (run_with lib [] []) (λ k given place. nothing) ss

-- Each need is one of these names, and each call one of these.
abbrev pub AreUsed : List Key → List Slot → Type 0
AreUsed keys [] = Unit {0}
AreUsed keys (s ∷ ss) = (is_among s.key keys ≡ true) × AreUsed keys ss

abbrev pub AreAfter : List (List ℕ) → List Mark → Type 0
AreAfter calls [] = Unit {0}
AreAfter calls (m ∷ ms) = (has_name m.call calls ≡ true) × AreAfter calls ms

-- the call's own cell is the one that says that it is done
abbrev pub EndsAt : TCall → Given → ℕ → Type 0
EndsAt x g d = g.calls ≡ record { call = x.name; cell = d } ∷ []

module _ (st : State) where
  abbrev pub is_set : ℕ → Bool
  is_set c = is_some (st.cells c)

  abbrev pub are_set : List ℕ → Bool
  are_set cs = list_all is_set cs

  -- The step alone may set the cell.
  abbrev pub Owns : ℕ → ℕ → Type 0
  Owns t c = st.owner c ≡ Some t

  -- It has not set it.
  abbrev pub Keeps : ℕ → ℕ → Type 0
  Keeps t c = Owns t c × (st.cells c ≡ None)

  -- what a step needs of names, and of a call
  pub record NamesNeeded (t : ℕ) (s : Scope) (e : TExpr) : Type 0 where
    pub slots : List Slot
    pub distinct : keys_distinct (slot_keys s.names) ≡ true
    pub needs : Needs s (names_of e) slots
    pub uses : AreUsed (names_of e) slots
    pub cells : st.needs t ≡ map slot_cell slots

  pub record CallNeeded (t : ℕ) (s : Scope) (c : TCall) : Type 0 where
    pub slots : List Slot
    pub marks : List Mark
    pub distinct : keys_distinct (slot_keys s.names) ≡ true
    pub needs : CallNeeds s c slots marks
    pub uses : AreUsed (arg_keys c.args) slots
    pub comes_after : AreAfter c.after marks
    pub cells : st.needs t ≡ map slot_cell slots ++ map mark_cell marks

module _ (lib : Library) (site : List ℕ) (table : List Row) (desc : ℕ → Rule → Type 0) (st : State) where
  abbrev pub run_here : Run
  run_here = run_with lib site table

  -- the step has this rule, and was not taken
  pub record IsLeft (t : ℕ) (r : Rule) : Type 0 where
    pub rule : desc t r
    pub left : st.taken t ≡ false

  -- the step has this rule, and was taken
  pub record IsDone (t : ℕ) (r : Rule) : Type 0 where
    pub rule : desc t r
    pub done : st.taken t ≡ true

  -- No step that is left is ready.
  abbrev pub AllStuck : Type 0
  AllStuck = (t : ℕ) (r : Rule) → IsLeft t r → are_set st (st.needs t) ≡ false

  -- ---- joints

  pub record IsJoined (parts : List ℕ) (c : ℕ) : Type 0 where
    pub values : List Value
    pub set : all_values (map st.cells parts) ≡ Some values
    pub value : st.cells c ≡ Some (v.List values)

  pub record IsEnded (parts : List ℕ) (c : ℕ) : Type 0 where
    pub set : are_set st parts ≡ true
    pub ended : is_set st c ≡ true

  pub record IsCopied (from c : ℕ) : Type 0 where
    pub set : is_set st from ≡ true
    pub same : st.cells c ≡ st.cells from

  -- the step that makes the joint is left, and needs these cells
  pub record IsWaiting (r : Rule) (parts : List ℕ) (c u : ℕ) : Type 0 where
    pub left : IsLeft u r
    pub keeps : Keeps st u c
    pub needs : st.needs u ≡ parts

  abbrev pub Gathered : List ℕ → ℕ → Type 0
  Gathered parts c = (u : ℕ) × (IsWaiting (gathers parts c) parts c u ⊎ IsJoined parts c)

  abbrev pub Ending : List ℕ → ℕ → Type 0
  Ending parts c = (u : ℕ) × (IsWaiting (ends parts c) parts c u ⊎ IsEnded parts c)

  abbrev pub Copied : ℕ → ℕ → Type 0
  Copied from c = (u : ℕ) × (IsWaiting (copies from c) (from ∷ []) c u ⊎ IsCopied from c)

  abbrev pub found : List ℕ → List (Option ℕ)
  found cs = map (λ (c : ℕ). Some c) cs

  abbrev pub cell_at : Key → Item → Option ℕ
  cell_at key q = find q.given.names key

  abbrev pub call_at : List ℕ → Item → Option ℕ
  call_at call q = find_call q.given.calls call

  abbrev pub all_dones : List Item → List ℕ
  all_dones [] = []
  all_dones (q ∷ qs) = q.dones ++ all_dones qs

  -- Each name outside a scatter is the list of that name at the items.
  abbrev pub AllGathered : List Item → List Key → List Slot → Type 0
  AllGathered qs [] [] = Unit {0}
  AllGathered qs [] (s ∷ ss) = ⊥
  AllGathered qs (k ∷ ks) [] = ⊥
  AllGathered qs (k ∷ ks) (s ∷ ss) =
      (s.key ≡ k) × ((cs : List ℕ) × (map (cell_at k) qs ≡ found cs) × Gathered cs s.cell) × AllGathered qs ks ss

  -- Each call outside a scatter has ended where it has at each item.
  abbrev pub AllEnding : List Item → List (List ℕ) → List Mark → Type 0
  AllEnding qs [] [] = Unit {0}
  AllEnding qs [] (m ∷ ms) = ⊥
  AllEnding qs (c ∷ cs) [] = ⊥
  AllEnding qs (c ∷ cs) (m ∷ ms) =
      (m.call ≡ c) × ((parts : List ℕ) × (map (call_at c) qs ≡ found parts) × Ending parts m.cell) × AllEnding qs cs ms

  -- The cells of the body, under the same names outside.
  abbrev pub SlotsCopied : List Slot → List Slot → Type 0
  SlotsCopied [] [] = Unit {0}
  SlotsCopied [] (s ∷ ss) = ⊥
  SlotsCopied (i ∷ is) [] = ⊥
  SlotsCopied (i ∷ is) (s ∷ ss) = (s.key ≡ i.key) × Copied i.cell s.cell × SlotsCopied is ss

  abbrev pub MarksCopied : List Mark → List Mark → Type 0
  MarksCopied [] [] = Unit {0}
  MarksCopied [] (m ∷ ms) = ⊥
  MarksCopied (i ∷ is) [] = ⊥
  MarksCopied (i ∷ is) (m ∷ ms) = (m.call ≡ i.call) × Copied i.cell m.cell × MarksCopied is ms

  -- The outputs of a call are those of its workflow.
  abbrev pub OutputsCopied : List ℕ → List TDecl → List Slot → List Slot → Type 0
  OutputsCopied call [] names [] = Unit {0}
  OutputsCopied call [] names (s ∷ ss) = ⊥
  OutputsCopied call (d ∷ ds) names [] = ⊥
  OutputsCopied call (d ∷ ds) names (s ∷ ss) =
      (s.key ≡ record { first = call; second = Some d.name }) × ((c : ℕ) × (find names (plain_key d.name) ≡ Some c) × Copied c s.cell) × OutputsCopied call ds names ss

  -- an input's default or an output: its step is left, or it was evaluated
  pub record IsToldOver (name : List ℕ) (e : TExpr) (s : Scope) (c t : ℕ) (n : NamesNeeded st t s e) : Type 0 where
    pub taken : IsDone t (declares name e s c)
    pub set : are_set st (st.needs t) ≡ true
    pub own : Owns st t c
    pub work : Work
    pub follows : Follows st.cells s.place n.slots [] (λ (y : Sight). declaration y name e) (only name c) work

  abbrev pub Declared : List ℕ → TExpr → Scope → ℕ → Type 0
  Declared name e s c = (t : ℕ) × (n : NamesNeeded st t s e) × ((IsLeft t (declares name e s c) × Keeps st t c) ⊎ IsToldOver name e s c t n)

  -- ---- derivations

  -- the step's own cells: those of the statement, and the one that says that it is done
  pub record HasCells (t : ℕ) (g : Given) (d : ℕ) : Type 0 where
    pub names : All (Owns st t) (map slot_cell g.names)
    pub calls : All (Owns st t) (map mark_cell g.calls)
    pub done : Owns st t d

  pub record KeepsCells (t : ℕ) (g : Given) (d : ℕ) : Type 0 where
    pub names : All (Keeps st t) (map slot_cell g.names)
    pub calls : All (Keeps st t) (map mark_cell g.calls)
    pub done : Keeps st t d

  -- the callee's flow to the depth
  abbrev pub callee : ℕ → Callee
  callee depth = flow run_here depth

  -- the names of a scatter's or a condition's body, outside it
  pub record IsOutside (ss : List Statement) (g : Given) : Type 0 where
    pub keys : keys_distinct (body_given lib ss).keys ≡ true
    pub named : IsNamed (body_given lib ss) g

  -- The call is of a task, or an argument has a fault: what it gives does not depend on another workflow.
  abbrev pub IsPlain : TCall → List Slot → Type 0
  IsPlain x slots =
      ((k : ℕ) × (t : TaskDef) × (x.target ≡ target.Task k) × (slice_get lib.tasks k ≡ Some t)) ⊎ ((e : Failing) × (args_met (env_of (map (known_in st.cells) slots)) x.args ≡ Err e))

  pub data Growing : ℕ → Form → Type 0 where
    -- no statement, and one before the others
    none_left : (depth : ℕ) (s : Scope) → Growing depth (all [] s nothing_given [])
    next : (depth : ℕ) (x : Statement) (xs : List Statement) (s : Scope) (g h : Given) (d : ℕ) (ds : List ℕ) → Growing depth (one x s g d) → Growing depth (all xs (beyond s g) h ds)
        → Growing depth (all (x ∷ xs) s (both_given g h) (d ∷ ds))
    -- a statement whose step was not taken
    left_decl : (depth : ℕ) (x : TDecl) (s : Scope) (c t : ℕ) → IsLeft t (does (stmt.Decl x) s (only x.name c) c) → NamesNeeded st t s x.value → Keeps st t c
        → Growing depth (one (stmt.Decl x) s (only x.name c) c)
    left_call : (depth : ℕ) (x : TCall) (s : Scope) (g : Given) (d t : ℕ) → IsLeft t (does (stmt.Call x) s g d) → CallNeeded st t s x → IsNamed (call_names lib x) g → EndsAt x g d → KeepsCells t g d
        → Growing depth (one (stmt.Call x) s g d)
    left_scatter : (depth : ℕ) (x : TScatter Statement) (s : Scope) (g : Given) (d t : ℕ) → IsLeft t (does (stmt.Scatter x) s g d) → NamesNeeded st t s x.over → IsOutside x.body g → KeepsCells t g d
        → Growing depth (one (stmt.Scatter x) s g d)
    left_if : (depth : ℕ) (x : TIf Statement) (s : Scope) (g : Given) (d t : ℕ) → IsLeft t (does (stmt.If x) s g d) → NamesNeeded st t s x.cond → IsOutside x.body g → KeepsCells t g d
        → Growing depth (one (stmt.If x) s g d)
    -- a declaration that was evaluated, and a call that was prepared or has a fault: what the landed definitions say over the needs
    told_decl : (depth : ℕ) (x : TDecl) (s : Scope) (c t : ℕ) (w : Work) → IsDone t (does (stmt.Decl x) s (only x.name c) c) → (n : NamesNeeded st t s x.value) → are_set st (st.needs t) ≡ true → Owns st t c
        → Follows st.cells s.place n.slots [] (λ (y : Sight). declaration y x.name x.value) (only x.name c) w → Growing depth (one (stmt.Decl x) s (only x.name c) c)
    told_call : (depth : ℕ) (x : TCall) (s : Scope) (g : Given) (d t : ℕ) (w : Work) → IsDone t (does (stmt.Call x) s g d) → (n : CallNeeded st t s x) → are_set st (st.needs t) ≡ true → IsNamed (call_names lib x) g → EndsAt x g d → HasCells t g d → IsPlain x n.slots
        → Follows st.cells s.place n.slots n.marks (call_of run_here (callee depth) (call_names lib x) x) g w → Growing depth (one (stmt.Call x) s g d)
    -- a call of a workflow, which grows
    run_call : (depth : ℕ) (x : TCall) (s : Scope) (g h : Given) (d t : ℕ) (ds : List ℕ) → IsDone t (does (stmt.Call x) s g d) → (n : CallNeeded st t s x) → are_set st (st.needs t) ≡ true
        → (k : ℕ) → x.target ≡ target.Flow k → (f : FlowDef) → slice_get lib.flows k ≡ Some f → (args : List Bind) → ArgsMet st.cells x n.slots n.marks args
        → IsNamed (call_names lib x) g → EndsAt x g d → keys_distinct (slot_keys h.names) ≡ true
        → Growing depth (whole f args (s.place ++ segment.Call x.name ∷ []) h ds) → OutputsCopied x.name f.outputs h.names g.names → Ending ds d → Growing (suc depth) (one (stmt.Call x) s g d)
    -- a scatter: one whose collection has a fault, and one with instances
    failed_scatter : (depth : ℕ) (x : TScatter Statement) (s : Scope) (g : Given) (d t : ℕ) (c : EvalCode) → IsDone t (does (stmt.Scatter x) s g d) → (n : NamesNeeded st t s x.over) → are_set st (st.needs t) ≡ true
        → head st.cells n.slots x.over ≡ Some (Err c) → IsOutside x.body g → KeepsCells t g d → Growing depth (one (stmt.Scatter x) s g d)
    each_scatter : (depth : ℕ) (x : TScatter Statement) (s : Scope) (g : Given) (d t : ℕ) (y : Value) (qs : List Item) → IsDone t (does (stmt.Scatter x) s g d) → (n : NamesNeeded st t s x.over) → are_set st (st.needs t) ≡ true
        → head st.cells n.slots x.over ≡ Some (Ok y) → IsOutside x.body g → Growing depth (each x.body s x.number x.item 0 (items_in y) qs)
        → AllGathered qs (body_given lib x.body).keys g.names → AllEnding qs (body_given lib x.body).calls g.calls → Ending (all_dones qs) d → Growing depth (one (stmt.Scatter x) s g d)
    -- a condition: one that has a fault, one that is false, and one that is true
    failed_if : (depth : ℕ) (x : TIf Statement) (s : Scope) (g : Given) (d t : ℕ) (c : EvalCode) → IsDone t (does (stmt.If x) s g d) → (n : NamesNeeded st t s x.cond) → are_set st (st.needs t) ≡ true
        → head st.cells n.slots x.cond ≡ Some (Err c) → IsOutside x.body g → KeepsCells t g d → Growing depth (one (stmt.If x) s g d)
    false_if : (depth : ℕ) (x : TIf Statement) (s : Scope) (g : Given) (d t : ℕ) (y : Value) → IsDone t (does (stmt.If x) s g d) → (n : NamesNeeded st t s x.cond) → are_set st (st.needs t) ≡ true
        → head st.cells n.slots x.cond ≡ Some (Ok y) → bool_in y ≡ false → IsOutside x.body g → HasCells t g d
        → giving (Some v.Absent) true (body_given lib x.body) ≡ flowing_of st.cells g no_work → is_set st d ≡ true → Growing depth (one (stmt.If x) s g d)
    true_if : (depth : ℕ) (x : TIf Statement) (s : Scope) (g h : Given) (d t : ℕ) (ds : List ℕ) (y : Value) → IsDone t (does (stmt.If x) s g d) → (n : NamesNeeded st t s x.cond) → are_set st (st.needs t) ≡ true
        → head st.cells n.slots x.cond ≡ Some (Ok y) → bool_in y ≡ true → IsOutside x.body g → Growing depth (all x.body (inward s (segment.If x.number)) h ds)
        → SlotsCopied h.names g.names → MarksCopied h.calls g.calls → Ending ds d → Growing depth (one (stmt.If x) s g d)
    -- no item, and one before the others
    no_item : (depth : ℕ) (xs : List Statement) (s : Scope) (k : ℕ) (item : List ℕ) (i : ℕ) → Growing depth (each xs s k item i [] [])
    item_next : (depth : ℕ) (xs : List Statement) (s : Scope) (k : ℕ) (item : List ℕ) (i cell : ℕ) (y : Value) (ys : List Value) (g : Given) (ds : List ℕ) (qs : List Item)
        → st.cells cell ≡ Some y → Growing depth (all xs (item_scope s k item i cell) g ds) → Growing depth (each xs s k item (i + 1) ys qs)
        → Growing depth (each xs s k item i (y ∷ ys) (record { item = cell; given = g; dones = ds } ∷ qs))
    -- the inputs of a workflow: given, undefined, with a default that is left or evaluated
    no_input : (depth : ℕ) (given : List Bind) (s : Scope) → Growing depth (takes given [] s nothing_given)
    given_input : (depth : ℕ) (given : List Bind) (i : TInput) (is : List TInput) (s : Scope) (h : Given) (c : ℕ) (y : Value) → lookup given (plain_key i.name) ≡ Some y → st.cells c ≡ Some y
        → Growing depth (takes given is (beyond s (only i.name c)) h) → Growing depth (takes given (i ∷ is) s (both_given (only i.name c) h))
    absent_input : (depth : ℕ) (given : List Bind) (i : TInput) (is : List TInput) (s : Scope) (h : Given) (c : ℕ) → lookup given (plain_key i.name) ≡ None → i.value ≡ None → st.cells c ≡ Some v.Absent
        → Growing depth (takes given is (beyond s (only i.name c)) h) → Growing depth (takes given (i ∷ is) s (both_given (only i.name c) h))
    default_input : (depth : ℕ) (given : List Bind) (i : TInput) (is : List TInput) (s : Scope) (h : Given) (c : ℕ) (e : TExpr) → lookup given (plain_key i.name) ≡ None → i.value ≡ Some e
        → Declared i.name e s c → Growing depth (takes given is (beyond s (only i.name c)) h) → Growing depth (takes given (i ∷ is) s (both_given (only i.name c) h))
    -- its outputs
    no_output : (depth : ℕ) (s : Scope) → Growing depth (tells [] s nothing_given)
    output_next : (depth : ℕ) (x : TDecl) (xs : List TDecl) (s : Scope) (h : Given) (c : ℕ) → Declared x.name x.value s c → Growing depth (tells xs (beyond s (only x.name c)) h)
        → Growing depth (tells (x ∷ xs) s (both_given (only x.name c) h))
    -- the workflow
    flow_whole : (depth : ℕ) (f : FlowDef) (given : List Bind) (place : List Segment) (i b o : Given) (ds : List ℕ) → Growing depth (takes given f.inputs (start place) i)
        → Growing depth (all f.body (beyond (start place) i) b ds) → Growing depth (tells f.outputs (beyond (beyond (start place) i) b) o)
        → Growing depth (whole f given place (both_given i (both_given b (both_given o nothing_given))) (map slot_cell i.names ++ ds ++ map slot_cell o.names))
