use Rattle.std.proofs.Common.{sym, ap, ◌∙◌}
use Rattle.cwl_subset.specs.Tables.{next_table, target_entry}
use Rattle.cwl_subset.proofs.TableLemmas.{table_next}
use Rattle.cwl_subset.proofs.tables.reached_table.Goals as goal

pub loop-level-preserved : goal.loop-level-preserved
loop-level-preserved c =
    c.in_ok-table-2.ensures
    ∙ ap (λ t. next_table (target_entry c.args.tasks.now t) c.args.flows.now c.args.own.now) (c.as_slice.ensures ∙ c.loop-level.invariant)
    ∙ sym (table_next c.args.flows.now c.args.own.now c.args.tasks.now c.loop-level._level)
