use Rattle.std.proofs.Common.{ap, ◌∙◌, length}
use Rattle.wdl_structs.specs.Tables.{named}
use Rattle.wdl_structs.specs.Nodes.{mark_of}
use Rattle.wdl_structs.proofs.StandLaws.{stands_length}
use Rattle.wdl_structs.proofs.named.with_standing_names.Goals as goal

pub with_stands-requires : goal.with_stands-requires
with_stands-requires c =
    ap length c.in_ok-names.ensures ∙ stands_length (mark_of (named c.entries_at.result.now) c.args.parents.now) 0 c.args.tables.now ∙ c.requires.tables
