use Rattle.wdl_files.proofs.Back.{read_back}
use Rattle.wdl_files.proofs.laws.written_is_read_back.Goals as goal

pub returns : goal.returns
returns c = record { law = read_back }
