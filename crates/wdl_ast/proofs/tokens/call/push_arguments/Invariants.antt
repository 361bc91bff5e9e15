use Rattle.std.proofs.Common.{◌≡◌, ◌++◌, drop}
use Rattle.wdl_ast.specs.Words.{items_words}
use Rattle.wdl_ast.specs.DocumentWords.{argument_words}
use Rattle.wdl_ast.proofs.tokens.call.push_arguments.Given as goal

abbrev pub invariant-loop-argument : goal.invariant-loop-argument
invariant-loop-argument l = l.out ++ items_words argument_words (drop l.argument-index l.arguments) ≡ l.fn.out ++ items_words argument_words l.arguments
