use Rattle.run_keeper.proofs.RowLemmas.{new_written}
use Rattle.run_keeper.proofs.write.row_text.Goals as goal

pub text_of-requires : goal.text_of-requires
text_of-requires c = rw c.in_ok-row.ensures (new_written c.args.e.now)
