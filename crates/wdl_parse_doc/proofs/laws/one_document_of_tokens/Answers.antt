use Rattle.wdl_parse_doc.proofs.ParseLaws.{one_document}
use Rattle.wdl_parse_doc.proofs.laws.one_document_of_tokens.Goals as goal

pub returns : goal.returns
returns c = one_document
