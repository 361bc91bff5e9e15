use Rattle.std.proofs.Common.{◌≡◌, sym, ap, ◌∙◌, length, arith}
use Rattle.wdl_structs.specs.Tables.{names_of}
use Rattle.wdl_structs.proofs.TableLaws.{named_length}
use Rattle.wdl_structs.proofs.NodeLaws.{first_room}
use Rattle.wdl_structs.proofs.named.structs_by.Goals as goal

pub structs_of-requires-clause-within : goal.structs_of-requires-clause-within
structs_of-requires-clause-within c =
    let n : length c.entries_at.result.now ≡ length (names_of c.args.tables.now 0) = sym (named_length c.entries_at.result.now) ∙ ap length c.entries_at.ensures.names in
    let room = first_room c.args.tables.now in
    let len = c.requires.named.len in
    omega (arith, n, room, len)
