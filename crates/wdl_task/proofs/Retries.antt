-- The number of an attempt in the name of its directory.
use Rattle.std.proofs.Common.{◌≡◌, ◌≢◌, ℕ, zero, suc, ◌++◌, codes, decimal, refl}
use Rattle.wdl_base.proofs.PlainLemmas.{decimal_is_plain}
use Rattle.wdl_typed.specs.Requests.{retry_text}

pub retry_is : (n : ℕ) → n ≢ 0 → retry_text n ≡ codes "-retry-" ++ decimal n
retry_is zero h = absurd (h refl)
retry_is (suc n) h = refl

-- what a proof of code about `retry_text` uses
pub ruleset retry_steps = (decimal_is_plain, retry_is)
