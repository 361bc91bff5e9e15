use Rattle.std.proofs.Common.{◌≡◌, ◌++◌, drop}
use Rattle.wdl_ast.specs.DocumentWords.{each, statement_words}
use Rattle.wdl_ast.proofs.tokens.workflow.+words.Given as goal

abbrev pub invariant-push_statements-loop-statement : goal.invariant-push_statements-loop-statement
invariant-push_statements-loop-statement l = l.out ++ each statement_words (drop l.statement-index l.statements) ≡ l.fn.out ++ each statement_words l.statements
