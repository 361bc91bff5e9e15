use Rattle.std.proofs.Common.{◌≡◌, ◌++◌, drop}
use Rattle.wdl_ast.specs.Words.{words, attributes_words}
use Rattle.wdl_ast.proofs.tokens.task.push_runtime_list.Given as goal

abbrev pub invariant-loop-attribute : goal.invariant-loop-attribute
invariant-loop-attribute l = l.out ++ attributes_words words (drop l.attribute-index l.attributes) ≡ l.fn.out ++ attributes_words words l.attributes
