use Rattle.std.proofs.Common.{Err, map, rules}
use Rattle.wdl_check_types.specs.Outcome.{Answers, then_}
use Rattle.wdl_check_types.proofs.OutcomeLaws.{then_err, then_ok}
use Rattle.wdl_check_doc.specs.Checked.{parts_typed, runnables_typed}
use Rattle.wdl_check_doc.specs.Outcomes.{all}
use Rattle.wdl_check_doc.specs.Parts.{part_of}
use Rattle.wdl_check_doc.specs.Runnables.{names_typed}
use Rattle.wdl_check_doc.specs.Structs.{structs_typed}
use Rattle.wdl_check_doc.proofs.checked.check_parts.Goals as goal

pub returns-in_err-check_names : goal.returns-in_err-check_names
returns-in_err-check_names c =
    let structs = c.args.structs.now in
    let ps = map part_of c.args.parts.now in
    let h : Answers (parts_typed structs ps) (Err c.in_err-check_names.field-0.0) =
    then_ok (structs_typed structs ps) (λ (u : Unit {0}). then_ (all names_typed ps) (λ v. runnables_typed structs ps)) tt (Err c.in_err-check_names.field-0.0)
    c.in_ok-check_structs.ensures
    (then_err (all names_typed ps) (λ (v : Unit {0}). runnables_typed structs ps) c.in_err-check_names.field-0.0 c.in_err-check_names.ensures) in
    search rules

pub returns : goal.returns
returns c =
    let structs = c.args.structs.now in
    let ps = map part_of c.args.parts.now in
    then_ok (structs_typed structs ps) (λ (u : Unit {0}). then_ (all names_typed ps) (λ v. runnables_typed structs ps)) tt _ c.in_ok-check_structs.ensures
    (then_ok (all names_typed ps) (λ (v : Unit {0}). runnables_typed structs ps) tt _ c.in_ok-check_names.ensures c.check_runnables.ensures)
