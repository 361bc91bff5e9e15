use Rattle.std.proofs.Common.{ap, ◌∙◌}
use Rattle.cwl_image.specs.Subset.{each_broken, input_broken}
use Rattle.cwl_rules.specs.declared.declaration.Role.TheVariants as role
use Rattle.cwl_rules.specs.Lowest.{lower, lowest}
use Rattle.cwl_rules.specs.Roles.{decl_broken}
use Rattle.cwl_subset.proofs.PartLemmas.{task_lowest}
use Rattle.cwl_subset.proofs.task.task_broken.Goals as goal

pub returns : goal.returns
returns c =
    let structs = c.args.structs.now in
    let names = c.in_ok-names.names in
    c.lower-3.ensures
    ∙ ap (λ o. lower o c.in_ok-last.last) (c.lower-2.ensures ∙ ap (λ o. lower o c.in_ok-third.third) c.lower.ensures)
    ∙ task_lowest structs c.args.task.now names c.in_ok-first.first c.in_ok-second.second c.in_ok-third.third c.in_ok-last.last c.in_ok-names.ensures
    (c.in_ok-first.ensures ∙ ap (λ is. lowest (each_broken (input_broken structs names) is)) c.as_slice.ensures)
    (c.in_ok-second.ensures ∙ ap (λ ds. lowest (each_broken (decl_broken role.Private structs names) ds)) c.as_slice-privates.ensures)
    c.in_ok-third.ensures
    (c.in_ok-last.ensures ∙ ap (λ ds. lowest (each_broken (decl_broken role.TaskOutput structs names) ds)) c.as_slice-outputs.ensures)
