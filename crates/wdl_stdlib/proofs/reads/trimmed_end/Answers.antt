use Rattle.std.proofs.Common.{sym, ◌∙◌}
use Rattle.wdl_value.specs.Reads.{is_blank}
use Rattle.wdl_stdlib.proofs.Ends.{trimmed-last, trimmed-stays}
use Rattle.wdl_stdlib.proofs.reads.trimmed_end.Goals as goal

pub returns-then-not-is_blank : goal.returns-then-not-is_blank
returns-then-not-is_blank c = sym (trimmed-stays is_blank c.loop-rest.rest.now _ c.in-len1-up.len_at_least c.if-not-is_blank.ensures) ∙ c.loop-rest.invariant

pub loop-rest-preserved : goal.loop-rest-preserved
loop-rest-preserved c = trimmed-last is_blank c.loop-rest.rest.now _ c.in-len1-up.len_at_least c.if-not-is_blank.ensures ∙ c.loop-rest.invariant
