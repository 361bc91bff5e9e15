use Rattle.std.proofs.Common.{◌≡◌, drop}
use Rattle.wdl_typed.specs.Typing.{are_same}
use Rattle.wdl_typing.proofs.forms.are_same.Given as goal

abbrev pub invariant-loop-t : goal.invariant-loop-t
invariant-loop-t l = are_same (drop l.t-index l.ts) l.left ≡ are_same l.ts l.us
