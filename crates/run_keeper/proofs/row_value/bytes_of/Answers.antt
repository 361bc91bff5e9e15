use Rattle.std.proofs.Common.{arith}
use Rattle.hex.proofs.HexLemmas.{decode_of-encode_lower}
use Rattle.run_keeper.proofs.row_value.bytes_of.Goals as goal

pub returns-in-Ok : goal.returns-in-Ok
returns-in-Ok c = λ x h e. grind (arith, decode_of-encode_lower x h)

pub returns-in-Err : goal.returns-in-Err
returns-in-Err c = λ x h e. grind (arith, decode_of-encode_lower x h)
