use Rattle.std.proofs.Common.{ap, ◌∙◌}
use Rattle.wdl_typed.specs.Bodies.{library}
use Rattle.cwl_subset.specs.Tables.{own_table, table_at, task_table}
use Rattle.cwl_subset.proofs.ReachLemmas.{main_reaches}
use Rattle.cwl_subset.proofs.subset.lowest_in.Goals as goal

pub returns : goal.returns
returns c =
    let checked = c.args.checked.now in
    let lib = library checked.structs checked.tasks checked.flows in
    let own = c.as_slice-2.result.now in
    let tasks = c.as_slice-3.result.now in
    let structs_are = c.in_ok-structs.ensures ∙ c.as_slice.ensures in
    main_reaches lib checked.main c.in-Some.main own tasks c.as_slice-4.result.now c.entry.result c.in-Some.is
    (c.as_slice-2.ensures
    ∙ c.in_ok-own.ensures
    ∙ ap (λ s. own_table (library s c.as_slice-tasks.result.now c.as_slice-flows.result.now) c.as_slice-flows.result.now) structs_are
    ∙ ap (λ ts. own_table (library checked.structs ts c.as_slice-flows.result.now) c.as_slice-flows.result.now) c.as_slice-tasks.ensures
    ∙ ap (λ fs. own_table (library checked.structs checked.tasks fs) fs) c.as_slice-flows.ensures)
    (c.as_slice-3.ensures
    ∙ c.in_ok-task_table.ensures
    ∙ ap (λ s. task_table s c.as_slice-tasks.result.now) structs_are
    ∙ ap (task_table checked.structs) c.as_slice-tasks.ensures)
    (c.as_slice-4.ensures ∙ c.in_ok-table.ensures ∙ ap (λ fs. table_at fs own tasks 25) c.as_slice-flows.ensures)
    c.entry.ensures
