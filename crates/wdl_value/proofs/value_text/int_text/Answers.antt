use Rattle.std.proofs.Common.{rules}
use Rattle.wdl_value.proofs.ValueTextLemmas.{signed_decimal_is_plain}
use Rattle.wdl_value.proofs.value_text.int_text.Goals as goal

pub from_string-requires : goal.from_string-requires
from_string-requires c = let h = signed_decimal_is_plain c.args.n c.ranges.n in search (rules, signed_decimal_is_plain)
