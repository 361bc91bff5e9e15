use Rattle.std.proofs.Common.{rules}
use Rattle.wdl_base.proofs.PlainLemmas.{name_is_plain}
use Rattle.wdl_base.proofs.name.Name.as_str.Goals as goal

pub returns-clause-plain : goal.returns-clause-plain
returns-clause-plain c = search (rules, name_is_plain)
