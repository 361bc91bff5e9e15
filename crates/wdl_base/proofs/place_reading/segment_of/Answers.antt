use Rattle.wdl_base.proofs.PlaceLemmas.{scatter_reads, if_reads}
use Rattle.wdl_base.proofs.place_reading.segment_of.Goals as goal

pub returns-in-Some : goal.returns-in-Some
returns-in-Some c = scatter_reads c.args.s.now c.in-Some.digits.now c.scatter_of.result c.in-Some.ensures.cases c.scatter_of.ensures

pub returns-in-Some-strip_prefix : goal.returns-in-Some-strip_prefix
returns-in-Some-strip_prefix c = if_reads c.args.s.now c.in-Some-strip_prefix.digits.now c.if_of.result c.in-Some-strip_prefix.ensures.cases c.if_of.ensures
