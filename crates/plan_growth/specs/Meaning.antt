-- What the rules of a plan's steps mean: what each step is to do, by the layout of the bodies that were entered.
use Rattle.std.specs.Prelude.{◌≡◌, ℕ, ◌+◌, ◌<◌, ◌≤◌, true, List, [], ◌∷◌, ◌++◌, Some, length, map, slice_get}
use Rattle.wdl_typed.specs.declared.expr.TExpr.{TExpr}
use Rattle.wdl_typed.specs.declared.flow.FlowDef.{FlowDef}
use Rattle.wdl_typed.specs.declared.flow.Statement.{Statement, out-Statement}
use Rattle.wdl_typed.specs.declared.task.TDecl.{TDecl}
use Rattle.wdl_typed.specs.declared.task.TInput.{TInput}
use Rattle.wdl_typed.specs.Bodies.{Library}
use Rattle.wdl_typed.specs.Flow.{Names}
use Rattle.wdl_typed.specs.Journal.{keys_distinct}
use Rattle.wdl_typed.specs.Scope.{names_of}
use Rattle.net_laws.specs.Growing as net
use Rattle.net_laws.specs.Growing.{copies, declares, does, ends, gathers, mark_cell, slot_cell}
use Rattle.net_laws.specs.Net.{Scope}
use Rattle.plan_layout.specs.declared.layout.BodyLayout.{BodyLayout}
use Rattle.plan_layout.specs.declared.layout.FlowLayout.{FlowLayout}
use Rattle.plan_layout.specs.declared.layout.Layout.{Layout}
use Rattle.plan_layout.specs.declared.layout.Need.{Need}
use Rattle.plan_layout.specs.declared.layout.StatementLayout.{StatementLayout}
use Rattle.plan_layout.specs.Cells.{cell_at, slots_at}
use Rattle.plan_layout.specs.Laid.{Laid, Stand, given_at, one}
use Rattle.plan_layout.specs.Paths.{body_at}
use Rattle.plan_layout.specs.Sees.{AllSeen, Sees, spot_keys}
use Rattle.plan_layout.specs.Spots.{needs_of}
use Rattle.plan_growth.specs.declared.instance.Instance.{Instance}
use Rattle.plan_growth.specs.declared.rule.Rule.{Rule}
use Rattle.plan_growth.specs.declared.rule.Rule.TheVariants as rule
use Rattle.plan_growth.specs.Begun.{base_at, given_of, scope_at}
use Rattle.plan_growth.specs.Entering.{cells_of}

-- Each of these names stands in an instance that there is, at one of so many cells.
abbrev pub AreThere : List ℕ → ℕ → List Need → Type 0
AreThere bases n [] = Unit {0}
AreThere bases n (s ∷ ss) = (s.level < length bases) × (cell_at bases s < n) × AreThere bases n ss

-- The runs of names, of calls and of blocks do not meet, where these names are given out from a stand on.
abbrev pub Fits : Names → Stand → Type 0
Fits n a = (a.next_name + length n.keys ≤ a.next_call) × (a.next_call + length n.calls ≤ a.next_done)

-- an instance of a body, with its layout and its workflow
pub record IsInstance (lib : Library) (layout : Layout) (is : List Instance) (i : ℕ) (instance : Instance) (body : BodyLayout) (flow : FlowDef) : Type 0 where
  pub there : slice_get is i ≡ Some instance
  pub body_there : slice_get layout.bodies instance.body ≡ Some body
  pub flow_there : slice_get lib.flows body.flow ≡ Some flow

-- The step does that statement of the instance, as its layout has it.
pub record MeansStatement (lib : Library) (layout : Layout) (is : List Instance) (n i k : ℕ) (cells : List ℕ) (m : net.Rule) : Type 0 where
  pub instance : Instance
  pub body : BodyLayout
  pub flow : FlowDef
  pub of_instance : IsInstance lib layout is i instance body flow
  pub statement : Statement
  pub statement_there : slice_get (body_at flow.body body.path) k ≡ Some statement
  pub line : StatementLayout
  pub line_there : slice_get body.statements k ≡ Some line
  pub cells_are : cells ≡ cells_of instance.bases line.needs line.after
  pub stand : Stand
  pub sees : Sees lib statement stand
  pub laid : Laid (Sees lib) lib body.flow flow.body layout.bodies (one statement stand line)
  pub depth : length instance.bases ≡ length stand.path + 1
  pub names : AreThere instance.bases n stand.names
  pub calls : AreThere instance.bases n stand.calls
  pub fits : Fits (given_at lib (out-Statement statement)) stand
  pub means : m ≡ does statement (scope_at instance.bases stand instance.place) (given_of lib instance.bases stand statement) (base_at instance.bases stand + line.done)

-- The step evaluates that expression of the instance, a workflow's own, at a slot.
pub record MeansDeclared (instance : Instance) (name : List ℕ) (e : TExpr) (needs : List Need) (slot n : ℕ) (cells : List ℕ) (m : net.Rule) : Type 0 where
  pub base : ℕ
  pub bases : instance.bases ≡ base ∷ []
  pub cells_are : cells ≡ cells_of (base ∷ []) needs []
  pub seen : List Need
  pub all_seen : AllSeen seen (names_of e)
  pub distinct : keys_distinct (spot_keys seen) ≡ true
  pub names : AreThere (base ∷ []) n seen
  pub needs_are : needs ≡ needs_of seen (names_of e)
  pub scope : Scope
  pub scope_names : scope.names ≡ slots_at (base ∷ []) seen
  pub scope_place : scope.place ≡ instance.place
  pub means : m ≡ declares name e scope (base + slot)

-- The step evaluates the default of that input, or that output.
pub record MeansInput (lib : Library) (layout : Layout) (is : List Instance) (n i k : ℕ) (cells : List ℕ) (m : net.Rule) : Type 0 where
  pub instance : Instance
  pub body : BodyLayout
  pub flow : FlowDef
  pub of_instance : IsInstance lib layout is i instance body flow
  pub flow_layout : FlowLayout
  pub layout_there : slice_get layout.flows body.flow ≡ Some flow_layout
  pub input : TInput
  pub input_there : slice_get flow.inputs k ≡ Some input
  pub value : TExpr
  pub default_is : input.value ≡ Some value
  pub needs : List Need
  pub needs_there : slice_get flow_layout.inputs k ≡ Some needs
  pub declared : MeansDeclared instance input.name value needs k n cells m

pub record MeansOutput (lib : Library) (layout : Layout) (is : List Instance) (n i k : ℕ) (cells : List ℕ) (m : net.Rule) : Type 0 where
  pub instance : Instance
  pub body : BodyLayout
  pub flow : FlowDef
  pub of_instance : IsInstance lib layout is i instance body flow
  pub flow_layout : FlowLayout
  pub layout_there : slice_get layout.flows body.flow ≡ Some flow_layout
  pub output : TDecl
  pub output_there : slice_get flow.outputs k ≡ Some output
  pub needs : List Need
  pub needs_there : slice_get flow_layout.outputs k ≡ Some needs
  pub declared : MeansDeclared instance output.name output.value needs (flow_layout.first_output + k) n cells m

-- what a rule of a step that needs these cells means, where there are so many cells
abbrev pub Means : Library → Layout → List Instance → ℕ → Rule → List ℕ → net.Rule → Type 0
Means lib layout is n (rule.Statement i k) needs m = MeansStatement lib layout is n i k needs m
Means lib layout is n (rule.Input i k) needs m = MeansInput lib layout is n i k needs m
Means lib layout is n (rule.Output i k) needs m = MeansOutput lib layout is n i k needs m
Means lib layout is n (rule.Gathers c) needs m = m ≡ gathers needs c
Means lib layout is n (rule.Ends c) needs m = m ≡ ends needs c
Means lib layout is n (rule.Copies c) needs m = (from : ℕ) × (needs ≡ from ∷ []) × (m ≡ copies from c)

-- the cells that a step sets
abbrev pub rule_cells : net.Rule → List ℕ
rule_cells (does x s g d) = map slot_cell g.names ++ (map mark_cell g.calls ++ d ∷ [])
rule_cells (declares name e s c) = c ∷ []
rule_cells (gathers parts c) = c ∷ []
rule_cells (ends parts c) = c ∷ []
rule_cells (copies from c) = c ∷ []
