use Rattle.std.proofs.Common.{ap, sym, ◌∙◌, subst}
use Rattle.token_reading.specs.Outcome.{Fails}
use Rattle.wdl_parse_doc.specs.Reading.Documents.{sections}
use Rattle.wdl_parse_doc.proofs.ParseLaws.{is_written, refused}
use Rattle.wdl_parse_doc.proofs.document.parse.Goals as goal

pub returns-in-Ok-sections-clause-found : goal.returns-in-Ok-sections-clause-found
returns-in-Ok-sections-clause-found c =
    is_written c.args.tokens.now c.in-Ok.found.0 c.in-Ok.found.1 c.in-Ok.found.2.now c.in-Ok-sections.sections c.sections.new.tokens c.in-Ok.ensures
    (ap sections (sym c.new-cursor.ensures) ∙ c.in-Ok-sections.ensures)

pub returns-in-Err-sections-clause-refused : goal.returns-in-Err-sections-clause-refused
returns-in-Err-sections-clause-refused c =
    refused c.args.tokens.now c.in-Ok.found.0 c.in-Ok.found.1 c.in-Ok.found.2.now c.in-Ok.ensures c.in-Err-sections.stop c.fault_of.result c.fault_of.ensures
    (subst (λ z. Fails (sections z) c.in-Err-sections.stop) c.new-cursor.ensures c.in-Err-sections.ensures)
