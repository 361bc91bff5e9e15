use Rattle.std.proofs.Common.{rules, arith}
use Rattle.wdl_check_flow.specs.Targets.{offer_of}
use Rattle.wdl_check_doc.proofs.Runs.{run_is}
use Rattle.wdl_check_doc.proofs.table.run_at.Goals as goal

pub returns-clause-run : goal.returns-clause-run
returns-clause-run c = run_is offer_of c.args.callables.now c.args.from c.args.count c.min.result (search (rules, arith))
