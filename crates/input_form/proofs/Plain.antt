-- Texts hold no NUL.
use Rattle.wdl_base.proofs.PlainLemmas.{has_nul-append}

pub ruleset plain = (has_nul-append)
