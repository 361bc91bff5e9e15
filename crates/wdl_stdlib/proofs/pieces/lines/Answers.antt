use Rattle.std.proofs.Common.{ap, ◌∙◌}
use Rattle.std.specs.Str.Iter.{lines_rest}
use Rattle.std.specs.Str.Lines.{lines}
use Rattle.std.proofs.lemmas.Iterator.Splits.{YieldsList-from_lines}
use Rattle.std.proofs.lemmas.Iterator.Consumers.{YieldsList-turn, YieldsList-end}
use Rattle.wdl_stdlib.proofs.PlainPieces.{lines_plain, plain_at}
use Rattle.wdl_stdlib.proofs.pieces.lines.Goals as goal

pub from_plain-requires : goal.from_plain-requires
from_plain-requires c =
    let all = YieldsList-from_lines c.as_str-text.result.now (ap lines_rest c.into_iter-line-iterator.ensures.into_iter_gives ∙ c.lines-line-items.ensures.rest) in
    let t = YieldsList-turn all c.loop-line.yielded _ c.loop-line.yielded_by _ _ c.in-Some.line c.in-Some.is c.next.ensures.steps in
    plain_at (lines c.as_str-text.result.now) _ _ (lines_plain c.as_str-text.result.now c.as_str-text.ensures.plain) t.0 t.1

pub returns : goal.returns
returns c =
    let all = YieldsList-from_lines c.as_str-text.result.now (ap lines_rest c.into_iter-line-iterator.ensures.into_iter_gives ∙ c.lines-line-items.ensures.rest) in
    let t = YieldsList-end all c.loop-line.yielded _ c.loop-line.yielded_by _ _ c.in-None.is c.next.ensures.steps in
    c.loop-line.invariant ∙ t.0 ∙ ap lines c.as_str-text.ensures.value
