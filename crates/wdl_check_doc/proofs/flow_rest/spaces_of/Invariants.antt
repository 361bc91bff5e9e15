use Rattle.std.proofs.Common.{◌≡◌, ◌++◌, drop, map}
use Rattle.wdl_check_flow.specs.Targets.{space_of}
use Rattle.wdl_check_doc.specs.Offers.{spaces}
use Rattle.wdl_check_doc.specs.Tables.{reaching_of}
use Rattle.wdl_check_doc.proofs.flow_rest.spaces_of.Given as goal

abbrev pub invariant-loop-link : goal.invariant-loop-link
invariant-loop-link l = map space_of l.spaces.items ++ spaces (map reaching_of l.tables) (drop l.link-index l.links) ≡ spaces (map reaching_of l.tables) l.links
