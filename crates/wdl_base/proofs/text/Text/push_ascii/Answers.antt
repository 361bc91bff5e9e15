use Rattle.std.proofs.Common.{rules}
use Rattle.wdl_base.proofs.PlainLemmas.{has_nul-append, has_nul-one}
use Rattle.wdl_base.proofs.text.Text.push_ascii.Goals as goal

pub invariant_of-self-2 : goal.invariant_of-self-2
invariant_of-self-2 c = rw c.in_ok-push.ensures.bytes (search (rules, has_nul-append, has_nul-one))
