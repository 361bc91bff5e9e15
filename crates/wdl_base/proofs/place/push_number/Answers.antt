use Rattle.std.proofs.Common.{rules}
use Rattle.wdl_base.proofs.PlainLemmas.{decimal_is_plain}
use Rattle.wdl_base.proofs.place.push_number.Goals as goal

pub push_str-requires-2 : goal.push_str-requires-2
push_str-requires-2 c = search (rules, decimal_is_plain)
