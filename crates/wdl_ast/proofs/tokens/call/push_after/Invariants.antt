use Rattle.std.proofs.Common.{◌≡◌, ◌++◌, drop}
use Rattle.wdl_ast.specs.DocumentWords.{each, after_words}
use Rattle.wdl_ast.proofs.tokens.call.push_after.Given as goal

abbrev pub invariant-loop-one : goal.invariant-loop-one
invariant-loop-one l = l.out ++ each after_words (drop l.one-index l.after) ≡ l.fn.out ++ each after_words l.after
