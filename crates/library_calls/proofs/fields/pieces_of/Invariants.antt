use Rattle.std.proofs.Common.{◌≡◌, ◌++◌, true, false, length, IsUtf8}
use Rattle.cwl_model.specs.Fields.{are_pieces, field_text}
use Rattle.library_calls.proofs.FieldLoops.{ends_open}
use Rattle.library_calls.proofs.fields.pieces_of.Given as goal

-- every piece so far, the last of which is no characters, and the rest of the field
abbrev pub invariant-references : goal.invariant-references
invariant-references l = (are_pieces l.pieces ≡ true) × (ends_open false l.pieces ≡ false) × (field_text l.pieces ++ l.rest ≡ l.fn.field) × IsUtf8 l.rest

abbrev pub decreases-references : goal.decreases-references
decreases-references l = length l.rest
