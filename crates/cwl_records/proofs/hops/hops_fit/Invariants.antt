use Rattle.std.proofs.Common.{◌≡◌, drop}
use Rattle.wdl_typed.specs.KnownTypes.{is_some}
use Rattle.cwl_records.specs.Types.{hops_type}
use Rattle.cwl_records.proofs.hops.hops_fit.Given as goal

abbrev pub invariant-loop-hop : goal.invariant-loop-hop
invariant-loop-hop l = is_some (hops_type l.structs (drop l.hop-index l.hops) l.seen) ≡ is_some (hops_type l.structs l.hops l.ty)
