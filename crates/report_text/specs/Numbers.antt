-- The number of each status.
use Rattle.std.specs.Prelude.{ℕ}
use Rattle.report_text.specs.declared.status.Status.{Status}
use Rattle.report_text.specs.declared.status.Status.TheVariants as status

abbrev pub number_of : Status → ℕ
number_of status.Ok = 0
number_of (status.Failed fault) = 1
number_of status.Usage = 2
number_of (status.Document code span) = 3
number_of (status.Inputs code name) = 4
number_of (status.Read path) = 5
number_of status.Write = 6
number_of status.NoMemory = 7
number_of (status.NotInSubset rule span) = 8
number_of (status.Launch place) = 9
number_of status.Keep = 10
number_of status.TooMany = 11
