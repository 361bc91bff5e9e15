-- The tables of the workflows, level by level.
use Rattle.std.proofs.Common.{◌≡◌, ◌+◌, ℕ, suc, List, refl, ap, ◌∙◌, add-one}
use Rattle.wdl_typed.specs.declared.flow.FlowDef.{FlowDef}
use Rattle.cwl_subset.specs.Tables.{Table, first_table, next_table, table_at, target_entry}

pub table_first : (flows : List FlowDef) (own tasks : Table) → table_at flows own tasks 0 ≡ first_table flows
unfolding table_at
table_first flows own tasks = refl

deeper : (flows : List FlowDef) (own tasks : Table) (d : ℕ) → table_at flows own tasks (suc d) ≡ next_table (target_entry tasks (table_at flows own tasks d)) flows own
unfolding table_at
deeper flows own tasks d = refl

pub table_next : (flows : List FlowDef) (own tasks : Table) (d : ℕ) → table_at flows own tasks (d + 1) ≡ next_table (target_entry tasks (table_at flows own tasks d)) flows own
table_next flows own tasks d = ap (table_at flows own tasks) (add-one d) ∙ deeper flows own tasks d
