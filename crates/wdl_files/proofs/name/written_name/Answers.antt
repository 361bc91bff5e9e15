use Rattle.std.proofs.Common.{rules}
use Rattle.wdl_base.proofs.PlainLemmas.{decimal_is_plain}
use Rattle.wdl_files.proofs.name.written_name.Goals as goal

pub push_str-requires : goal.push_str-requires
push_str-requires c = search (rules, decimal_is_plain)
