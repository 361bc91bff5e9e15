use Rattle.std.proofs.Common.{arith, sym, ◌∙◌}
use Rattle.std.proofs.lemmas.List.{get_or_read}
use Rattle.wdl_stdlib.proofs.PathParts.{parts_cut, parts_none}
use Rattle.wdl_stdlib.proofs.wildcard.first_part.Goals as goal

pub returns-then-c-eq47-clause-parts : goal.returns-then-c-eq47-clause-parts
returns-then-c-eq47-clause-parts c =
    let slash = sym (get_or_read c.args.chars.now _ _ c.loop-k-test.true c.index-chars-k.is 0) ∙ c.if-c-eq47.true in
    parts_cut c.args.chars.now c.loop-k.k c.loop-k-test.true slash c.loop-k.invariant

pub returns-clause-parts : goal.returns-clause-parts
returns-clause-parts c = parts_none c.args.chars.now (λ j l. c.loop-k.invariant j (omega arith))
