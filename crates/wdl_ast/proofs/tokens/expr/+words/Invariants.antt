use Rattle.std.proofs.Common.{◌≡◌, ◌++◌, drop}
use Rattle.wdl_ast.specs.Words.{words, items_words, entry_words, member_words, parts_words}
use Rattle.wdl_ast.proofs.tokens.expr.+words.Given as goal

abbrev pub invariant-push_items-loop-item : goal.invariant-push_items-loop-item
invariant-push_items-loop-item l = l.out ++ items_words words (drop l.item-index l.items) ≡ l.fn.out ++ items_words words l.items

abbrev pub invariant-push_entries-loop-entry : goal.invariant-push_entries-loop-entry
invariant-push_entries-loop-entry l = l.out ++ items_words (entry_words words) (drop l.entry-index l.entries) ≡ l.fn.out ++ items_words (entry_words words) l.entries

abbrev pub invariant-push_members-loop-member : goal.invariant-push_members-loop-member
invariant-push_members-loop-member l = l.out ++ items_words (member_words words) (drop l.member-index l.members) ≡ l.fn.out ++ items_words (member_words words) l.members

abbrev pub invariant-push_parts-loop-part : goal.invariant-push_parts-loop-part
invariant-push_parts-loop-part l = l.out ++ parts_words words (drop l.part-index l.parts) ≡ l.fn.out ++ parts_words words l.parts
