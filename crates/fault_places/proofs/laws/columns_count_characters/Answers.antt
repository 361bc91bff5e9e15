-- Each character has one byte with which it begins.
use Rattle.fault_places.proofs.Encoded.{characters-encodes}
use Rattle.fault_places.proofs.laws.columns_count_characters.Goals as goal

pub returns : goal.returns
returns c = characters-encodes
