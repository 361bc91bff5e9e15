use Rattle.std.proofs.Common.{◌≡◌, ◌<◌, Some, slice_get, rules, arith}
use Rattle.cwl_flow.specs.Drafts.{library_of}
use Rattle.cwl_flow.proofs.BlockSteps.{flow_here, is_as}
use Rattle.cwl_flow.proofs.flow.+process_at.Goals as goal

pub returns : goal.returns
returns t c =
    let there : slice_get c.args.checked.now.flows c.args.k ≡ Some c.in-Some.flow.now = search rules in
    let some : 0 < c.args.depth = omega arith in
    is_as c.process_of.result _ _ (flow_here (library_of c.args.checked.now) c.args.depth c.args.k c.in-Some.flow.now some there) c.process_of.ensures
