use Rattle.std.proofs.Common.{◌∙◌, sym, rules}
use Rattle.wdl_value.specs.Reads.{ends_line}
use Rattle.wdl_stdlib.proofs.Ends.{trimmed-none, trimmed-shorter, plain-shorter}
use Rattle.wdl_stdlib.proofs.reads.without_line_ends.Goals as goal

pub loop-shorter-preserved : goal.loop-shorter-preserved
loop-shorter-preserved c =
    let rest = c.loop-shorter.rest.now in
    let shorter = c.in-Some.shorter.now in
    (search rules, plain-shorter ends_line rest shorter c.in-Some.ensures c.loop-shorter.invariant.1, trimmed-shorter ends_line rest shorter c.in-Some.ensures ∙ c.loop-shorter.invariant.2)

pub returns-clause-value : goal.returns-clause-value
returns-clause-value c = sym (trimmed-none ends_line c.loop-shorter.rest.now c.in_default.ensures) ∙ c.loop-shorter.invariant.2
