use Rattle.std.proofs.Common.{◌∙◌}
use Rattle.json_values.proofs.KeySets.{added}
use Rattle.json_values.proofs.declared.names_of.Goals as goal

pub loop-member-preserved : goal.loop-member-preserved
loop-member-preserved c = λ q.
    added q c.args.declared.now c.loop-member.member-index c.member-item.result c.as_str.result c.loop-member.names.keys c.insert.new.self.keys
    c.loop-member-test.true c.member-item.is c.as_str.ensures.value c.in_ok-insert.ensures.keys
    ∙ c.loop-member.invariant q
