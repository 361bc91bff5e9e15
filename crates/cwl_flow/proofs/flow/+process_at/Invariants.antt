use Rattle.cwl_flow.proofs.flow.+process_at.Given as goal

abbrev pub decreases-process_at : goal.decreases-process_at
decreases-process_at l = l.depth
