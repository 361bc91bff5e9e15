use Rattle.std.proofs.Common.{ap, map, sym, ◌∙◌}
use Rattle.wdl_bundle.specs.Called.{space_of}
use Rattle.wdl_bundle.proofs.FindLaws.{mapped_more, space_left, space_put}
use Rattle.wdl_bundle.proofs.reach.push_space.Goals as goal

pub returns-in-None : goal.returns-in-None
returns-in-None c = space_left _ c.args.link.now.namespace c.args.all.now c.args.link.now.doc (sym c.in-None.ensures)

pub returns : goal.returns
returns c =
    ap (map space_of) c.in_ok-push.ensures.items ∙ mapped_more space_of _ _
    ∙ space_put _ c.args.link.now.namespace c.args.all.now c.args.link.now.doc c.in-Some.offers.now (sym c.in-Some.ensures)
