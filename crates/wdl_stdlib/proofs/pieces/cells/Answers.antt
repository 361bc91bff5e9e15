use Rattle.std.proofs.Common.{ap, ◌∙◌, lit<, ◌==◌}
use Rattle.std.specs.Str.Iter.{split_text, split_has_more, split_pattern}
use Rattle.std.proofs.lemmas.Iterator.Splits.{YieldsList-from_str_split}
use Rattle.std.proofs.lemmas.Iterator.Consumers.{YieldsList-turn, YieldsList-end}
use Rattle.wdl_value.specs.Reads.{cells}
use Rattle.wdl_stdlib.proofs.PlainPieces.{split_plain, plain_at}
use Rattle.wdl_stdlib.proofs.pieces.cells.Goals as goal

pub from_plain-requires : goal.from_plain-requires
from_plain-requires c =
    let at = c.into_iter-cell-iterator.ensures.into_iter_gives in
    let of = c.split-cell-items.ensures in
    let all = YieldsList-from_str_split 9 c.as_str-line.result.now (lit< tt) (ap split_text at ∙ of.text) (ap split_has_more at ∙ of.has_more) (ap split_pattern at ∙ of.pattern) in
    let t = YieldsList-turn all c.loop-cell.yielded _ c.loop-cell.yielded_by _ _ c.in-Some.cell c.in-Some.is c.next.ensures.steps in
    plain_at (cells c.as_str-line.result.now) _ _ (split_plain (λ b. b == 9) c.as_str-line.result.now c.as_str-line.ensures.plain) t.0 t.1

pub returns : goal.returns
returns c =
    let at = c.into_iter-cell-iterator.ensures.into_iter_gives in
    let of = c.split-cell-items.ensures in
    let all = YieldsList-from_str_split 9 c.as_str-line.result.now (lit< tt) (ap split_text at ∙ of.text) (ap split_has_more at ∙ of.has_more) (ap split_pattern at ∙ of.pattern) in
    let t = YieldsList-end all c.loop-cell.yielded _ c.loop-cell.yielded_by _ _ c.in-None.is c.next.ensures.steps in
    c.loop-cell.invariant ∙ t.0 ∙ ap cells c.as_str-line.ensures.value
