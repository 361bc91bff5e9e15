use Rattle.std.proofs.Common.{◌≡◌, ◌++◌, drop}
use Rattle.wdl_plain.specs.Views.{env_in}
use Rattle.wdl_plain.proofs.flow.env_of.Given as goal

abbrev pub invariant-loop-known : goal.invariant-loop-known
invariant-loop-known l = l.env ++ env_in (drop l.known-index l.knowns) ≡ env_in l.knowns
