use Rattle.std.proofs.Common.{◌∙◌}
use Rattle.wdl_plain.specs.Views.{flowing_of}
use Rattle.wdl_plain.proofs.Gatherings.{gathered_with, quieted}
use Rattle.wdl_plain.proofs.gathering.Gathering.with.Goals as goal

pub returns-clause-gathered : goal.returns-clause-gathered
returns-clause-gathered c =
    gathered_with c.args.self (record { names = c.push.new.self; calls = c.push-2.new.self; total = c.in_ok-total.total }) c.args.item c.in_ok-of.field-0 c.in_ok-of-2.field-0
    c.in_ok-push.ensures.ok c.in_ok-of.ensures c.in_ok-push-2.ensures.ok c.in_ok-of-2.ensures
    (c.in_ok-total.ensures.0 ∙ quieted (flowing_of c.args.self.total) c.args.item c.new.result c.new-2.result c.new.ensures c.new-2.ensures)
