use Rattle.std.proofs.Common.{◌≡◌, ◌++◌, drop}
use Rattle.wdl_ast.specs.DocumentWords.{each, alias_words}
use Rattle.wdl_ast.proofs.tokens.document.push_aliases.Given as goal

abbrev pub invariant-loop-alias : goal.invariant-loop-alias
invariant-loop-alias l = l.out ++ each alias_words (drop l.alias-index l.aliases) ≡ l.fn.out ++ each alias_words l.aliases
