-- Lines hold no NUL.
use Rattle.wdl_base.proofs.PlainLemmas.{has_nul-append, decimal_is_plain}

pub ruleset plain = (has_nul-append, decimal_is_plain)
