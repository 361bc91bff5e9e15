-- The flow of each form of statement.
use Rattle.std.proofs.Common.{◌≡◌, ℕ, ap, ◌∙◌}
use Rattle.wdl_typed.specs.declared.flow.Statement.{Statement, Statement-F, fold_out-Statement, map-Statement, out-Statement}
use Rattle.wdl_typed.specs.declared.flow.Statement.TheVariants as stmt
use Rattle.wdl_typed.specs.declared.task.TDecl.{TDecl}
use Rattle.wdl_typed.specs.Flow as flow
use Rattle.wdl_typed.specs.Flow.{Part, Run, Sight, declaration, run_of_part, statement_step}
use Rattle.flow_soundness.specs.StatementFlow.{part_of, statement_flow}

module _ (r : Run) (depth : ℕ) (s : Sight) where
  abbrev at : Statement-F Statement → flow.Flowing
  at y = run_of_part (statement_step r (flow.flow r depth) (map-Statement Statement Part (part_of r depth) y)) s

  out : (st : Statement) → statement_flow r depth st s ≡ at (out-Statement st)
  out st = ap (λ (p : Part). run_of_part p s) (fold_out-Statement Part (statement_step r (flow.flow r depth)) st)

  pub decl_is : (d : TDecl) → statement_flow r depth (stmt.Decl d) s ≡ declaration s d.name d.value
  decl_is d = out (stmt.Decl d) ∙ ap at (stmt.outs-Decl d)
