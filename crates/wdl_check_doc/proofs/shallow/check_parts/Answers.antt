use Rattle.std.proofs.Common.{◌+◌, ap, drop, map, rules}
use Rattle.wdl_check_doc.specs.Parts.{part_of}
use Rattle.wdl_check_doc.proofs.Lists.{all_end, all_err, all_on, drop_end}
use Rattle.wdl_check_doc.proofs.shallow.check_parts.Goals as goal
use Rattle.wdl_check_rules.proofs.MemberLaws.{at_front as drop_at}

pub returns-in_err-check_part : goal.returns-in_err-check_part
returns-in_err-check_part c =
    let h = all_err _ (map part_of (drop c.loop-part.part-index c.args.parts.now)) (part_of c.part-item.result) (map part_of (drop (c.loop-part.part-index + 1) c.args.parts.now)) _ c.in_err-check_part.field-0.0
    (ap (map part_of) (drop_at c.args.parts.now c.loop-part.part-index c.part-item.result c.loop-part-test.true c.part-item.is)) c.loop-part.invariant c.in_err-check_part.ensures in
    search rules

pub loop-part-preserved : goal.loop-part-preserved
loop-part-preserved c =
    all_on _ (map part_of (drop c.loop-part.part-index c.args.parts.now)) (part_of c.part-item.result) (map part_of (drop (c.loop-part.part-index + 1) c.args.parts.now)) _
    (ap (map part_of) (drop_at c.args.parts.now c.loop-part.part-index c.part-item.result c.loop-part-test.true c.part-item.is)) c.loop-part.invariant c.in_ok-check_part.ensures

pub returns : goal.returns
returns c = all_end _ _ _ (ap (map part_of) (drop_end c.args.parts.now c.loop-part.part-index c.loop-part-test.false)) c.loop-part.invariant
