use Rattle.wdl_parse_parts.proofs.metadata.+value.Given as goal

abbrev pub decreases-value : goal.decreases-value
decreases-value l = l.depth
