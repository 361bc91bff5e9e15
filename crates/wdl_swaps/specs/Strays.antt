-- The names that are used outside the bodies that declare them.
use Rattle.std.specs.Prelude.{ℕ, List, [], ◌∷◌, ◌++◌, if◌then◌else◌, map}
use Rattle.references.specs.Names.{argument_names}
use Rattle.wdl_base.specs.declared.name.Key.{Key}
use Rattle.wdl_typed.specs.declared.expr.TExpr.{TExpr}
use Rattle.wdl_typed.specs.declared.flow.FlowDef.{FlowDef}
use Rattle.wdl_typed.specs.declared.flow.Statement.{Statement, Statement-F, fold-Statement}
use Rattle.wdl_typed.specs.declared.flow.Statement.TheOpen as statement
use Rattle.wdl_typed.specs.declared.task.TDecl.{TDecl}
use Rattle.wdl_typed.specs.Lists.{has_name}
use Rattle.wdl_typed.specs.Scope.{names_of}

-- ---- expressions

abbrev pub Strays : Type 0
Strays = List (List ℕ)

-- unless it is one of these
abbrev pub outside : List (List ℕ) → List ℕ → Strays
outside path name = if has_name name path then [] else name ∷ []

-- those of the keys, without these
abbrev pub all_outside : List (List ℕ) → List Key → Strays
all_outside path [] = []
all_outside path (k ∷ keys) = outside path k.first ++ all_outside path keys

-- the names and calls to which an expression refers, without those of the path
abbrev pub strays_in : List (List ℕ) → TExpr → Strays
strays_in path e = all_outside path (names_of e)

-- ---- statements

-- what a statement declares in its own body, and its strays where the bodies round it have declared these names before
pub record Straying : Type 0 where
  pub own : List (List ℕ)
  pub strays : List (List ℕ) → Strays

abbrev pub body_own : List Straying → List (List ℕ)
body_own [] = []
body_own (s ∷ ss) = s.own ++ body_own ss

abbrev pub body_strays : List Straying → List (List ℕ) → Strays
body_strays [] path = []
body_strays (s ∷ ss) path = s.strays path ++ body_strays ss (path ++ s.own)

abbrev pub straying_step : Statement-F Straying → Straying
straying_step (statement.Decl d) = record { own = d.name ∷ []; strays = λ path. strays_in path d.value }
straying_step (statement.Call c) = record { own = []; strays = λ path. all_outside path (argument_names c.args) }
straying_step (statement.Scatter s) = record { own = []; strays = λ path. strays_in path s.over ++ body_strays s.body path }
straying_step (statement.If i) = record { own = []; strays = λ path. strays_in path i.cond ++ body_strays i.body path }

abbrev pub straying : Statement → Straying
straying = fold-Statement Straying straying_step

abbrev pub own_of : Statement → List (List ℕ)
own_of s = (straying s).own

abbrev pub strays_of : Statement → List (List ℕ) → Strays
strays_of s = (straying s).strays

abbrev pub all_own : List Statement → List (List ℕ)
all_own ss = body_own (map straying ss)

abbrev pub all_strays : List Statement → List (List ℕ) → Strays
all_strays ss = body_strays (map straying ss)

-- ---- workflows

abbrev pub outputs_strays : List (List ℕ) → List TDecl → Strays
outputs_strays path [] = []
outputs_strays path (d ∷ ds) = strays_in path d.value ++ outputs_strays path ds

-- The outputs count to the workflow's own body.
abbrev pub flow_strays : FlowDef → Strays
flow_strays f = all_strays f.body [] ++ outputs_strays (all_own f.body) f.outputs
