use Rattle.std.proofs.Common.{◌≡◌, ◌-◌, ◌++◌, take, length, sym, ap, ◌∙◌}
use Rattle.wdl_base.specs.Plain.{has_nul}
use Rattle.wdl_stdlib.proofs.Bases.{ending-there, ending-absent}
use Rattle.wdl_stdlib.proofs.PlainPieces.{plain-take}
use Rattle.wdl_stdlib.proofs.paths.without_ending.Goals as goal

pub returns-in-Some-clause-value : goal.returns-in-Some-clause-value
returns-in-Some-clause-value c =
    let s = c.args.name.now in
    let n = c.args.ending.now in
    let cut = c.in-Some.ensures.cases in
    let whole : s ≡ take (length s - length n) s ++ n = cut.1.1 ∙ ap (λ k. take (length s - k) s ++ n) cut.1.0 in
    cut.2 ∙ ap (λ k. take (length s - k) s) cut.1.0 ∙ sym (ending-there s n whole)

pub returns-in-Some-clause-plain : goal.returns-in-Some-clause-plain
returns-in-Some-clause-plain c = ap has_nul c.in-Some.ensures.cases.2 ∙ plain-take _ c.args.name.now c.requires

pub returns-in-None-clause-value : goal.returns-in-None-clause-value
returns-in-None-clause-value c = sym (ending-absent c.args.name.now c.args.ending.now c.in-None.ensures.cases)
