use Rattle.std.proofs.Common.{sym, ◌∙◌}
use Rattle.wdl_structs.proofs.TableLaws.{on_ok, table_more}
use Rattle.wdl_structs.proofs.table.Table.add.Goals as goal

pub invariant_of-self-else-is_err : goal.invariant_of-self-else-is_err
invariant_of-self-else-is_err c =
    table_more c.self.inside.entries c.push.new.self c.self.inside.words c.enter.new.self (record { name = c.in_ok-name.name }) c.in_ok-copy.copy c.args.name.now c.self.invariant.0 c.self.invariant.1
    (sym c.has.ensures ∙ c.if-has.false) c.in_ok-enter.ensures.ok (on_ok c.push.result _ (sym c.is_err.ensures.value ∙ c.if-is_err.false) c.push.ensures.ok) c.in_ok-copy.ensures c.in_ok-name.ensures
