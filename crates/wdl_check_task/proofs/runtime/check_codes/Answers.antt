use Rattle.wdl_check_rules.specs.Spans.{span_of}
use Rattle.wdl_check_types.proofs.OutcomeLaws.{then_ok}
use Rattle.wdl_check_decls.specs.Expressions.{world}
use Rattle.wdl_check_task.specs.Runtime.{codes_of, value_typed}
use Rattle.wdl_check_task.proofs.runtime.check_codes.Goals as goal

pub returns : goal.returns
returns c =
    let a = c.args.attribute.now in
    then_ok (value_typed (world c.args.seeing.now) c.args.names.now a) (codes_of (span_of a.value)) _ _ c.in_ok-x.ensures
    (rw c.span_of.ensures at c.codes_of.ensures)
