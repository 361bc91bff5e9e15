use Rattle.std.proofs.Common.{List, ap, sym, ◌∙◌}
use Rattle.std.specs.BTreeMap.{get_by_text}
use Rattle.wdl_check_rules.specs.declared.literal_members.MemberValue.{MemberValue}
use Rattle.wdl_check_rules.specs.Members.{given_of}
use Rattle.wdl_check_rules.specs.Rules.{or_else}
use Rattle.wdl_check_rules.proofs.MemberLaws.{last_given}
use Rattle.wdl_check_rules.proofs.literal_members.by_name.Goals as goal

pub loop-last-preserved : goal.loop-last-preserved
loop-last-preserved c = λ q.
    let rest = c.pop_back.new.self.items in
    let last = c.in-Some.last in
    let later = get_by_text c.loop-last.names q in
    ap (or_else (given_of rest q)) (c.in_ok-put.ensures q) ∙ last_given rest last q later
    ∙ ap (λ (gs : List MemberValue). or_else (given_of gs q) later) (sym c.in-Some.ensures.items) ∙ c.loop-last.invariant q
