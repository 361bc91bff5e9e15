-- How much a statement has inside: more than each statement of a body in it.
use Rattle.std.proofs.Common.{◌≡◌, ℕ, zero, suc, ◌+◌, ◌≤◌, List, [], ◌∷◌, Some, map, slice_get, sym, ap, ◌∙◌, arith}
use Rattle.std.proofs.lemmas.Option.{same_Some}
use Rattle.wdl_ast.specs.declared.workflow.Conditional.{Conditional}
use Rattle.wdl_ast.specs.declared.workflow.Scatter.{Scatter}
use Rattle.wdl_ast.specs.declared.workflow.Statement.{Statement, Statement-F, fold-Statement, fold-roll-Statement}
use Rattle.wdl_ast.specs.declared.workflow.Statement.TheOpen as layer
use Rattle.wdl_ast.specs.declared.workflow.Statement.TheVariants as form

abbrev pub total : List ℕ → ℕ
total [] = 0
total (n ∷ ns) = n + total ns

abbrev pub inside_step : Statement-F ℕ → ℕ
inside_step (layer.Declaration d) = 0
inside_step (layer.Call c) = 0
inside_step (layer.Scatter s) = 3 + total s.body
inside_step (layer.Conditional i) = 3 + total i.body

unfoldable pub inside : Statement → ℕ
inside = fold-Statement ℕ inside_step

abbrev pub inside_all : List Statement → ℕ
inside_all ss = total (map inside ss)

pub inside_scatter : (s : Scatter Statement) → inside (form.Scatter s) ≡ 3 + inside_all s.body
unfolding inside
inside_scatter s = ap inside (sym (form.rolls-Scatter s)) ∙ fold-roll-Statement ℕ inside_step (layer.Scatter s)

pub inside_conditional : (i : Conditional Statement) → inside (form.Conditional i) ≡ 3 + inside_all i.body
unfolding inside
inside_conditional i = ap inside (sym (form.rolls-Conditional i)) ∙ fold-roll-Statement ℕ inside_step (layer.Conditional i)

pub inside_one : (ss : List Statement) (i : ℕ) (s : Statement) → slice_get ss i ≡ Some s → inside s ≤ inside_all ss
inside_one [] i s e = cc
inside_one (x ∷ ss) zero s e = let k : inside x ≡ inside s = ap inside (same_Some x s e) in omega (arith, k)
inside_one (x ∷ ss) (suc i) s e = let k = inside_one ss i s e in omega (arith, k)
