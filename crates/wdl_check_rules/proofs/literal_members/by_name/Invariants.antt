use Rattle.std.proofs.Common.{◌≡◌, ℕ, List, length}
use Rattle.std.specs.BTreeMap.{get_by_text}
use Rattle.wdl_check_rules.specs.Members.{given_of}
use Rattle.wdl_check_rules.specs.Rules.{or_else}
use Rattle.wdl_check_rules.proofs.literal_members.by_name.Given as goal

abbrev pub invariant-loop-last : goal.invariant-loop-last
invariant-loop-last l = (q : List ℕ) → or_else (given_of l.rest.items q) (get_by_text l.names q) ≡ given_of l.initial.rest.items q

abbrev pub decreases-loop-last : goal.decreases-loop-last
decreases-loop-last l = length l.rest.items
