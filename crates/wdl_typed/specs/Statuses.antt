-- The statuses of success as the definitions have them.
use Rattle.wdl_typed.specs.Requests.{Successes, any_status, only_these, zero_alone}
use Rattle.wdl_typed.specs.declared.success.Success.{Success}
use Rattle.wdl_typed.specs.declared.success.Success.TheVariants as status

abbrev pub successes_of : Success → Successes
successes_of status.Zero = zero_alone
successes_of status.Any = any_status
successes_of (status.Only ns) = only_these ns
