use Rattle.std.proofs.Common.{ap, map, sym, ◌∙◌}
use Rattle.wdl_check_flow.specs.Targets.{space_of}
use Rattle.wdl_check_doc.proofs.Lists.{mapped_more}
use Rattle.wdl_check_doc.proofs.Spaces.{space_left, space_put}
use Rattle.wdl_check_doc.proofs.flow_rest.push_space.Goals as goal

pub returns-in-None : goal.returns-in-None
returns-in-None c = space_left _ c.args.link.now.namespace c.args.tables.now c.args.link.now.doc (sym c.in-None.ensures)

pub returns : goal.returns
returns c =
    ap (map space_of) c.in_ok-push.ensures.items ∙ mapped_more space_of _ _
    ∙ space_put _ c.args.link.now.namespace c.args.tables.now c.args.link.now.doc c.in-Some.table.now (sym c.in-Some.ensures)
