use Rattle.wdl_load.proofs.Rows.{table_gives}
use Rattle.wdl_load.proofs.laws.what_the_table_gives.Goals as goal

pub returns : goal.returns
returns c = record { gives = table_gives }
