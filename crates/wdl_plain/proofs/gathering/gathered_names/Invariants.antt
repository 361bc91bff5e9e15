use Rattle.std.proofs.Common.{◌≡◌, take, map}
use Rattle.wdl_plain.specs.Gathered.{gathered_name}
use Rattle.wdl_plain.specs.Views.{knowns_of}
use Rattle.wdl_plain.proofs.gathering.gathered_names.Given as goal

abbrev pub invariant-loop-key : goal.invariant-loop-key
invariant-loop-key l = knowns_of l.names ≡ map (gathered_name l.items) (take l.key-index l.keys)
