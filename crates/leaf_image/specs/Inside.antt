-- What stands in statements and in the bodies in them.
use Rattle.std.specs.Prelude.{List, [], ◌∷◌, ◌++◌, map}
use Rattle.wdl_typed.specs.declared.expr.TExpr.{TExpr}
use Rattle.wdl_typed.specs.declared.flow.Statement.{Statement, Statement-F, fold-Statement}
use Rattle.wdl_typed.specs.declared.flow.Statement.TheOpen as layer
use Rattle.wdl_typed.specs.declared.flow.TCall.{TCall}

-- each element is so
abbrev pub Each : {A : Type 0} → (A → Type 0) → List A → Type 0
Each P [] = Unit {0}
Each P (x ∷ xs) = P x × Each P xs

abbrev pub append_all : {A : Type 0} → List (List A) → List A
append_all [] = []
append_all (xs ∷ more) = xs ++ append_all more

abbrev pub exprs_step : Statement-F (List TExpr) → List TExpr
exprs_step (layer.Decl d) = d.value ∷ []
exprs_step (layer.Call c) = []
exprs_step (layer.Scatter s) = s.over ∷ append_all s.body
exprs_step (layer.If i) = i.cond ∷ append_all i.body

-- what a statement evaluates, but for the arguments of calls
abbrev pub exprs_of : Statement → List TExpr
exprs_of = fold-Statement (List TExpr) exprs_step

abbrev pub exprs_in : List Statement → List TExpr
exprs_in ss = append_all (map exprs_of ss)

abbrev pub calls_step : Statement-F (List TCall) → List TCall
calls_step (layer.Decl d) = []
calls_step (layer.Call c) = c ∷ []
calls_step (layer.Scatter s) = append_all s.body
calls_step (layer.If i) = append_all i.body

-- the calls in a statement
abbrev pub calls_of : Statement → List TCall
calls_of = fold-Statement (List TCall) calls_step

abbrev pub calls_in : List Statement → List TCall
calls_in ss = append_all (map calls_of ss)
