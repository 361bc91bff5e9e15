use Rattle.json_laws.proofs.Texts.{text_nul}
use Rattle.json_laws.proofs.laws.texts_hold_no_nul.Goals as goal

pub returns : goal.returns
returns c = text_nul
