-- In a workflow that is typed names differ where one can see the other, and the blocks of each body are numbered.
use Rattle.wdl_check_flow.specs.Laws.{FlowsNamed}
use Rattle.wdl_check_flow.proofs.FlowItems.{items_different}
use Rattle.wdl_check_flow.proofs.FlowNames.{names_distinct}
use Rattle.wdl_check_flow.proofs.FlowNumbers.{blocks_numbered}

pub flows_named : FlowsNamed
flows_named p f h r name span e g =
    (names_distinct p f h r name span e g, items_different p f h r name span e g, blocks_numbered p h.inputs f r g)
