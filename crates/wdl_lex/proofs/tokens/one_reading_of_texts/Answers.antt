use Rattle.wdl_lex.proofs.Final.{one_list}
use Rattle.wdl_lex.proofs.tokens.one_reading_of_texts.Goals as goal

pub returns : goal.returns
returns c = one_list
