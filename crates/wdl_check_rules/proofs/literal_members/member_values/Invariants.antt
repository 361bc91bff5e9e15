use Rattle.std.proofs.Common.{◌≡◌, ◌++◌, drop, Ok}
use Rattle.std.specs.BTreeMap.{get_by_text}
use Rattle.wdl_check_rules.specs.Checked.{then_, fields_checked}
use Rattle.wdl_check_rules.proofs.literal_members.member_values.Given as goal

abbrev pub invariant-loop-member : goal.invariant-loop-member
invariant-loop-member l = then_ (fields_checked l.span (drop l.member-index l.members) (get_by_text l.rest)) (λ fs. Ok (l.done ++ fs)) ≡ fields_checked l.span l.members (get_by_text l.initial.rest)
