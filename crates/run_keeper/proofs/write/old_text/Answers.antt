use Rattle.run_keeper.proofs.RowLemmas.{old_written}
use Rattle.run_keeper.proofs.write.old_text.Goals as goal

pub text_of-requires : goal.text_of-requires
text_of-requires c = rw c.in_ok-row.ensures (old_written c.args.e.now)
