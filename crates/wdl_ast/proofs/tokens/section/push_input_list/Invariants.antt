use Rattle.std.proofs.Common.{◌≡◌, ◌++◌, drop}
use Rattle.wdl_ast.specs.DocumentWords.{each, input_words}
use Rattle.wdl_ast.proofs.tokens.section.push_input_list.Given as goal

abbrev pub invariant-loop-input : goal.invariant-loop-input
invariant-loop-input l = l.out ++ each input_words (drop l.input-index l.inputs) ≡ l.fn.out ++ each input_words l.inputs
