use Rattle.std.proofs.Common.{◌≡◌, drop}
use Rattle.wdl_base.specs.declared.span.Span.{Span}
use Rattle.wdl_library.specs.Names.{are_known}
use Rattle.wdl_structs.specs.Faults.{HasUnknown}
use Rattle.wdl_structs.specs.Tables.{named}
use Rattle.wdl_structs.proofs.known.unknown_among.Given as goal

abbrev pub invariant-loop-alias : goal.invariant-loop-alias
invariant-loop-alias l =
    ((s : Span) → HasUnknown (named l.index) (drop l.alias-index l.aliases) s → HasUnknown (named l.index) l.aliases s)
    × (are_known (named l.index) (drop l.alias-index l.aliases) ≡ are_known (named l.index) l.aliases)
