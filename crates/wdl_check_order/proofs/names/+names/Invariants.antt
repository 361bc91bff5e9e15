use Rattle.std.proofs.Common.{◌≡◌, ◌++◌, drop}
use Rattle.wdl_check_order.specs.Names.{entry_names, item_names, member_names, names_of, part_names}
use Rattle.wdl_check_order.proofs.names.+names.Given as goal

abbrev pub invariant-push_items-loop-item : goal.invariant-push_items-loop-item
invariant-push_items-loop-item l = l.names ++ item_names names_of (drop l.item-index l.items) ≡ l.fn.names ++ item_names names_of l.items

abbrev pub invariant-push_entries-loop-entry : goal.invariant-push_entries-loop-entry
invariant-push_entries-loop-entry l = l.names ++ entry_names names_of (drop l.entry-index l.entries) ≡ l.fn.names ++ entry_names names_of l.entries

abbrev pub invariant-push_members-loop-member : goal.invariant-push_members-loop-member
invariant-push_members-loop-member l = l.names ++ member_names names_of (drop l.member-index l.members) ≡ l.fn.names ++ member_names names_of l.members

abbrev pub invariant-push_parts-loop-part : goal.invariant-push_parts-loop-part
invariant-push_parts-loop-part l = l.names ++ part_names names_of (drop l.part-index l.parts) ≡ l.fn.names ++ part_names names_of l.parts
