use Rattle.std.proofs.Common.{rules}
use Rattle.wdl_value.proofs.ValueTextLemmas.{signed_decimal_is_plain}
use Rattle.wdl_print.proofs.spelling.push_number.Goals as goal

pub push_str-requires : goal.push_str-requires
push_str-requires c = let h = signed_decimal_is_plain c.args.n c.ranges.n in search (rules, signed_decimal_is_plain)
