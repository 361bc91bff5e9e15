-- What the flow of statements asks for: each is well typed where it stands, and the names that it sees have values that fit.
use Rattle.std.specs.Prelude.{◌≡◌, ◌<◌, ◌-◌, ℕ, true, List, [], ◌∷◌, Option, Some, None, slice_get}
use Rattle.std.specs.List.{list_all}
use Rattle.wdl_base.specs.declared.name.Key.{Key}
use Rattle.wdl_value.specs.declared.env.Bind.{Bind}
use Rattle.wdl_value.specs.declared.ty.Ty.{Ty}
use Rattle.wdl_value.specs.declared.value.Value.{Value}
use Rattle.wdl_value.specs.Fits.{Structs, fits}
use Rattle.wdl_typed.specs.declared.expr.TExpr.{TExpr}
use Rattle.wdl_typed.specs.declared.expr.TField.{TField}
use Rattle.wdl_typed.specs.declared.flow.FlowDef.{FlowDef}
use Rattle.wdl_typed.specs.declared.flow.Statement.{Statement}
use Rattle.wdl_typed.specs.declared.flow.TScatter.{TScatter}
use Rattle.wdl_typed.specs.declared.flow.Target.{Target}
use Rattle.wdl_typed.specs.declared.flow.Target.TheVariants as target
use Rattle.wdl_typed.specs.declared.scope.Bound.{Bound}
use Rattle.wdl_typed.specs.declared.task.TDecl.{TDecl}
use Rattle.wdl_typed.specs.declared.task.TInput.{TInput}
use Rattle.wdl_typed.specs.declared.task.TaskDef.{TaskDef}
use Rattle.wdl_typed.specs.Bodies.{Library, Seen, all_declared, body_gives, body_nests, items_differ}
use Rattle.wdl_typed.specs.Declarations.{plain_key, task_typed}
use Rattle.wdl_typed.specs.Flow.{Known, Sight, all_known, declaration, env_of, input_of, item_sight, seeing}
use Rattle.wdl_typed.specs.Kept.{flow_typed}
use Rattle.wdl_typed.specs.Lists.{has_name}
use Rattle.wdl_typed.specs.Scope.{lookup, type_in}
use Rattle.wdl_eval.specs.Ready.{IsReady}
use Rattle.wdl_names.specs.Fresh.{fresh}
use Rattle.wdl_task.specs.Readiness.{are_given}

-- ---- expressions

abbrev pub IsDeclReady : TExpr → Sight → Type 0
IsDeclReady e s = all_known s.names e ≡ true → IsReady e (env_of s.names)

abbrev pub IsDefaultReady : Option TExpr → Sight → Type 0
IsDefaultReady None s = Unit {0}
IsDefaultReady (Some e) s = IsDeclReady e s

-- An input that is given takes no default.
abbrev pub IsInputReady : List Bind → TInput → Sight → Type 0
IsInputReady given i s = lookup given (plain_key i.name) ≡ None → IsDefaultReady i.value s

-- one after the other, each seeing those before it
abbrev pub AreInputsReady : List Bind → List TInput → Sight → Type 0
AreInputsReady given [] s = Unit {0}
AreInputsReady given (i ∷ is) s =
    IsInputReady given i s × AreInputsReady given is (seeing s (input_of s i (lookup given (plain_key i.name))))

abbrev pub AreDeclsReady : List TDecl → Sight → Type 0
AreDeclsReady [] s = Unit {0}
AreDeclsReady (d ∷ ds) s = IsDeclReady d.value s × AreDeclsReady ds (seeing s (declaration s d.name d.value))

abbrev pub AreArgsReady : List Bind → List (TField TExpr) → Type 0
AreArgsReady env [] = Unit {0}
AreArgsReady env (a ∷ as_) = IsReady a.value env × AreArgsReady env as_

-- ---- statements

-- the value fits the type, which is there
abbrev pub FitsSome : Structs → Option Ty → Value → Type 0
FitsSome structs None x = ⊥
FitsSome structs (Some t) x = fits structs x t ≡ true

-- Each name with a value has one that fits its type.
abbrev pub Agrees : Structs → List Bound → List Known → Type 0
Agrees structs names ks = (key : Key) (x : Value) → lookup (env_of ks) key ≡ Some x → FitsSome structs (type_in names key) x

-- the tasks and workflows are well typed
pub record IsLibrary (lib : Library) : Type 0 where
  pub tasks : list_all (task_typed lib.structs) lib.tasks ≡ true
  pub flows : list_all (flow_typed lib) lib.flows ≡ true

abbrev pub are_among : List (List ℕ) → List (List ℕ) → Type 0
are_among all names = (name : List ℕ) → has_name name names ≡ true → has_name name all ≡ true

-- What statements declare is new, among all names of the workflow and the items of scatters round them.
pub record IsNew (all taken : List (List ℕ)) (seen : Seen) (ss : List Statement) : Type 0 where
  pub seen_taken : (key : Key) (t : Ty) → type_in seen.names key ≡ Some t → has_name key.first taken ≡ true
  pub taken_all : are_among all taken
  pub declared_all : are_among all (all_declared ss)
  pub declared_new : fresh taken (all_declared ss) ≡ true
  pub items_new : items_differ ss all ≡ true

-- the statements stand in a body that is well typed, at a sight that fits
pub record IsBodyReady (lib : Library) (levels : ℕ) (ss : List Statement) (s : Sight) : Type 0 where
  pub library : IsLibrary lib
  pub nested : body_nests lib.flows levels ss ≡ true
  pub seen : Seen
  pub given : Seen
  pub typed : body_gives lib ss seen ≡ Some given
  pub agrees : Agrees lib.structs seen.names s.names
  pub all : List (List ℕ)
  pub taken : List (List ℕ)
  pub new : IsNew all taken seen ss

abbrev pub IsStatementReady : Library → ℕ → Statement → Sight → Type 0
IsStatementReady lib levels st s = IsBodyReady lib levels (st ∷ []) s

-- the workflow is one whose statements have at most that many blocks and calls in one another, and its inputs are given
pub record IsFlowReady (lib : Library) (levels : ℕ) (k : ℕ) (given : List Bind) : Type 0 where
  pub library : IsLibrary lib
  pub nested : (f : FlowDef) → slice_get lib.flows k ≡ Some f → body_nests lib.flows levels f.body ≡ true
  pub fit : (f : FlowDef) → slice_get lib.flows k ≡ Some f → are_given lib.structs f.inputs given ≡ true

-- the target's inputs are given
pub record IsCalleeReady (lib : Library) (levels : ℕ) (t : Target) (args : List Bind) : Type 0 where
  pub inside : 0 < levels
  pub tasks : (k : ℕ) (task : TaskDef) → t ≡ target.Task k → slice_get lib.tasks k ≡ Some task
      → (task_typed lib.structs task ≡ true) × (are_given lib.structs task.inputs args ≡ true)
  pub flows : (k : ℕ) → t ≡ target.Flow k → IsFlowReady lib (levels - 1) k args

-- the body is ready at each item from the first one on
pub record AreItemsReady (lib : Library) (levels : ℕ) (c : TScatter Statement) (items : List Value) (s : Sight) : Type 0 where
  pub inside : 0 < levels
  pub each : (i : ℕ) (x : Value) → slice_get items i ≡ Some x → IsBodyReady lib (levels - 1) c.body (item_sight s c.number c.item i x)
