use Rattle.std.proofs.Common.{◌≡◌, ◌++◌, drop, Ok}
use Rattle.wdl_check_rules.specs.Checked.{checked, then_, items_checked, entries_checked, members_checked, parts_checked}
use Rattle.wdl_check_rules.specs.Scopes.{scope_of}
use Rattle.wdl_check_rules.specs.Spans.{span_of}
use Rattle.wdl_check_expr.proofs.check.+check.Given as goal

abbrev pub invariant-check_items-loop-item : goal.invariant-check_items-loop-item
invariant-check_items-loop-item l = then_ (items_checked (checked (scope_of l.scope)) (drop l.item-index l.items) l.placeholder) (λ rest. Ok (l.done ++ rest)) ≡ items_checked (checked (scope_of l.scope)) l.items l.placeholder

abbrev pub invariant-check_entries-loop-entry : goal.invariant-check_entries-loop-entry
invariant-check_entries-loop-entry l = then_ (entries_checked (checked (scope_of l.scope)) (drop l.entry-index l.entries) l.placeholder) (λ rest. Ok (l.done ++ rest)) ≡ entries_checked (checked (scope_of l.scope)) l.entries l.placeholder

abbrev pub invariant-check_members-loop-entry : goal.invariant-check_members-loop-entry
invariant-check_members-loop-entry l = then_ (members_checked span_of (checked (scope_of l.scope)) (drop l.entry-index l.entries) l.placeholder) (λ rest. Ok (l.done ++ rest)) ≡ members_checked span_of (checked (scope_of l.scope)) l.entries l.placeholder

abbrev pub invariant-check_parts-loop-part : goal.invariant-check_parts-loop-part
invariant-check_parts-loop-part l = then_ (parts_checked span_of (checked (scope_of l.scope)) (drop l.part-index l.parts)) (λ rest. Ok (l.done ++ rest)) ≡ parts_checked span_of (checked (scope_of l.scope)) l.parts
