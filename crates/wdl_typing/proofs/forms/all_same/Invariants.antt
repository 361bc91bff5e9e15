use Rattle.std.proofs.Common.{◌≡◌, drop}
use Rattle.wdl_typed.specs.Typing.{all_same}
use Rattle.wdl_typing.proofs.forms.all_same.Given as goal

abbrev pub invariant-loop-u : goal.invariant-loop-u
invariant-loop-u l = all_same l.t (drop l.u-index l.types) ≡ all_same l.t l.types
