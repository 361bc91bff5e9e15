-- What follows the head is the sentence with the excerpt.
use Rattle.std.proofs.Common.{rules}
use Rattle.fault_notes.proofs.document.document_note.Goals as goal

pub returns : goal.returns
returns c = record { place = (c.as_str-told.result.now, search rules) }
