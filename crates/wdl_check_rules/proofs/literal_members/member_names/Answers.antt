use Rattle.std.proofs.Common.{◌≡◌, true, List, ℕ, ap, cond, ◌∙◌, string_bytes, rules}
use Rattle.std.specs.BTreeSet.{contains_text}
use Rattle.std.specs.Str.{bytes_eq}
use Rattle.std.proofs.lemmas.Map.Text.{btree_set_updates_text}
use Rattle.wdl_check_rules.proofs.MemberLaws.{member_found}
use Rattle.wdl_check_rules.proofs.literal_members.member_names.Goals as goal

pub loop-member-preserved : goal.loop-member-preserved
loop-member-preserved c = λ q.
    let key = c.in_ok-from_str.field-0 in
    let m = c.member-item.result in
    let same : string_bytes key ≡ m.name = search rules in
    let put = btree_set_updates_text (string_bytes key) c.loop-member.names c.insert.new.self true c.in_ok-insert.ensures.updates q in
    member_found c.args.members.now c.loop-member.member-index m q (contains_text c.loop-member.names q) (contains_text c.insert.new.self q) c.loop-member-test.true c.member-item.is
    (put ∙ ap (λ (bytes : List ℕ). cond (bytes_eq bytes q) true (contains_text c.loop-member.names q)) same) (c.loop-member.invariant q)
