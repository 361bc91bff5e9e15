use Rattle.std.proofs.Common.{◌≡◌, true, take}
use Rattle.std.specs.List.{list_all}
use Rattle.cwl_formed.specs.Plain.{piece_plain}
use Rattle.cwl_formed.proofs.texts.see_pieces.Given as goal

abbrev pub invariant-loop-piece : goal.invariant-loop-piece
invariant-loop-piece l = list_all piece_plain (take l.piece-index l.pieces) ≡ true
