use Rattle.std.proofs.Common.{◌≡◌, ◌++◌, drop}
use Rattle.wdl_ast.specs.Words.{questions_words}
use Rattle.wdl_ast.proofs.tokens.type_tree.push_questions.Given as goal

abbrev pub invariant-loop-question : goal.invariant-loop-question
invariant-loop-question l = l.out ++ questions_words (drop l.question-index l.questions) ≡ l.fn.out ++ questions_words l.questions
