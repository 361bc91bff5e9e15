use Rattle.std.proofs.Common.{arith}
use Rattle.command_text.proofs.LineLaws.{before_hole, without_hole}
use Rattle.command_text.proofs.Zeros.{plain_zeros}
use Rattle.command_text.proofs.marked.around_hole.Goals as goal

pub returns-in-Some-clause-plain : goal.returns-in-Some-clause-plain
returns-in-Some-clause-plain c = before_hole c.args.text.now c.in-Some.parts c.in-Some.ensures.cases

pub returns-in-None-clause-plain : goal.returns-in-None-clause-plain
returns-in-None-clause-plain c = without_hole c.args.text.now c.in-None.ensures.cases

pub returns-in-None-clause-value : goal.returns-in-None-clause-value
returns-in-None-clause-value c =
    let none = plain_zeros c.args.text.now (without_hole c.args.text.now c.in-None.ensures.cases) in
    absurd (omega (arith, none))
