use Rattle.std.proofs.Common.{◌≡◌, ◌++◌, drop}
use Rattle.wdl_ast.specs.DocumentWords.{each, declaration_words}
use Rattle.wdl_ast.proofs.tokens.section.push_output_list.Given as goal

abbrev pub invariant-loop-output : goal.invariant-loop-output
invariant-loop-output l = l.out ++ each declaration_words (drop l.output-index l.outputs) ≡ l.fn.out ++ each declaration_words l.outputs
