use Rattle.wdl_load.proofs.Values.{rule}
use Rattle.wdl_load.proofs.laws.rule_of_values.Goals as goal

pub returns : goal.returns
returns c = record { rule = rule }
