use Rattle.std.proofs.Common.{sym, ◌∙◌}
use Rattle.wdl_stdlib.proofs.PathParts.{pattern_longer, name_longer}
use Rattle.wdl_stdlib.proofs.wildcard.path_matches.Goals as goal

pub returns-in-Some-None : goal.returns-in-Some-None
returns-in-Some-None c =
    let p = rw c.in-Some-None.is-0 at c.first_part.ensures.parts in
    let n = rw c.in-Some-None.is-1 at c.first_part-in-loop-parts.ensures.parts in
    sym (pattern_longer c.loop-parts.pattern.now c.loop-parts.name.now c.in-Some-None.field-0-0.now _ _ p n) ∙ c.loop-parts.invariant

pub returns-in-Some-None-2 : goal.returns-in-Some-None-2
returns-in-Some-None-2 c =
    let p = rw c.in-Some-None.is-0 at c.first_part.ensures.parts in
    let n = rw c.in-Some-None.is-1 at c.first_part-in-loop-parts.ensures.parts in
    sym (name_longer c.loop-parts.pattern.now c.loop-parts.name.now c.in-Some-None.field-0-1.now _ _ p n) ∙ c.loop-parts.invariant
