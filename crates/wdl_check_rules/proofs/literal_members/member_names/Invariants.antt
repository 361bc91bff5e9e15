use Rattle.std.proofs.Common.{◌≡◌, ◌||◌, ℕ, List, drop}
use Rattle.std.specs.BTreeSet.{contains_text}
use Rattle.wdl_check_rules.specs.Members.{is_member}
use Rattle.wdl_check_rules.proofs.literal_members.member_names.Given as goal

abbrev pub invariant-loop-member : goal.invariant-loop-member
invariant-loop-member l = (q : List ℕ) → (contains_text l.names q || is_member (drop l.member-index l.members) q) ≡ is_member l.members q
