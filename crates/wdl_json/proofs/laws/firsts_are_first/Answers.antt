use Rattle.wdl_json.proofs.Firsts.{is_first}
use Rattle.wdl_json.proofs.laws.firsts_are_first.Goals as goal

pub returns : goal.returns
returns c = record { law = is_first }
