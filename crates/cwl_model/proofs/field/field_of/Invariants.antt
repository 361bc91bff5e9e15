use Rattle.std.proofs.Common.{◌≡◌, ◌++◌, drop}
use Rattle.cwl_model.specs.Fields.{field_text}
use Rattle.cwl_model.proofs.field.field_of.Given as goal

abbrev pub invariant-loop-piece : goal.invariant-loop-piece
invariant-loop-piece l = l.text ++ field_text (drop l.piece-index l.pieces) ≡ field_text l.pieces
