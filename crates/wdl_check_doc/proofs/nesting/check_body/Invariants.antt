use Rattle.std.proofs.Common.{drop}
use Rattle.wdl_check_decls.proofs.ListLaws.{Leads}
use Rattle.wdl_check_doc.specs.Flows.{statement_nests}
use Rattle.wdl_check_doc.specs.Outcomes.{all}
use Rattle.wdl_check_doc.proofs.nesting.check_body.Given as goal

abbrev pub invariant-loop-statement : goal.invariant-loop-statement
invariant-loop-statement l = Leads (all (statement_nests l.levels.0) (drop l.statement-index l.body)) (all (statement_nests l.levels.0) l.body)
