use Rattle.std.proofs.Common.{◌≡◌, ◌++◌, drop}
use Rattle.wdl_ast.specs.Words.{meta_words, items_words, attributes_words}
use Rattle.wdl_ast.proofs.tokens.meta.+words.Given as goal

abbrev pub invariant-push_meta_items-loop-item : goal.invariant-push_meta_items-loop-item
invariant-push_meta_items-loop-item l = l.out ++ items_words meta_words (drop l.item-index l.items) ≡ l.fn.out ++ items_words meta_words l.items

abbrev pub invariant-push_metadata-loop-attribute : goal.invariant-push_metadata-loop-attribute
invariant-push_metadata-loop-attribute l = l.out ++ attributes_words meta_words (drop l.attribute-index l.attributes) ≡ l.fn.out ++ attributes_words meta_words l.attributes
