use Rattle.std.proofs.Common.{◌≡◌, List, ap, sym, ◌∙◌, length, arith}
use Rattle.wdl_ast.specs.declared.document.Alias.{Alias}
use Rattle.wdl_structs.specs.Classes.{Marks}
use Rattle.wdl_structs.specs.Tables.{names_of, named, groups}
use Rattle.wdl_structs.specs.Nodes.{label_from, label_by, holds_groups, import_by, groups_among}
use Rattle.wdl_structs.proofs.TableLaws.{named_length}
use Rattle.wdl_structs.proofs.NodeLaws.{room_at, groups_length, groups_given, joined_as, import_is}
use Rattle.wdl_structs.proofs.identity.join_import.Goals as goal

pub join_groups-requires-clause-from : goal.join_groups-requires-clause-from
join_groups-requires-clause-from c =
    let tables = c.args.tables.now in
    let j = c.args.link.now.doc in
    let gs = c.as_slice-2.ensures ∙ c.in_ok-groups.ensures ∙ ap (λ (x : List Alias). groups x (named c.entries_at.result.now)) c.as_slice.ensures ∙ ap (groups c.args.import.now.aliases) c.entries_at.ensures.names in
    let n : length c.as_slice-2.result.now ≡ length (names_of tables j) = ap length gs ∙ groups_length c.args.import.now.aliases (names_of tables j) in
    let room = room_at tables j c.if-from-tables.false in
    let first = c.start_of-first.ensures in
    let len = c.requires.here.len in
    omega (arith, n, room, first, len)

pub join_groups-requires-clause-room : goal.join_groups-requires-clause-room
join_groups-requires-clause-room c =
    let tables = c.args.tables.now in
    let k = c.args.number in
    let n : length c.args.index.now ≡ length (names_of tables k) = sym (named_length c.args.index.now) ∙ ap length c.requires.here.names in
    let room = room_at tables k c.requires.here.within in
    let first = c.start_of-start.ensures in
    let len = c.requires.here.len in
    omega (arith, n, room, first, len)

pub join_groups-requires-clause-known : goal.join_groups-requires-clause-known
join_groups-requires-clause-known c =
    let tables = c.args.tables.now in
    let k = c.args.number in
    let j = c.args.link.now.doc in
    let gs = c.as_slice-2.ensures ∙ c.in_ok-groups.ensures ∙ ap (λ (x : List Alias). groups x (named c.entries_at.result.now)) c.as_slice.ensures ∙ ap (groups c.args.import.now.aliases) c.entries_at.ensures.names in
    ap (λ ns. groups_among ns c.as_slice-2.result.now) c.requires.here.names ∙ ap (groups_among (names_of tables k)) gs
    ∙ groups_given (names_of tables k) (names_of tables j) c.args.import.now.aliases c.requires.known

pub returns : goal.returns
returns c =
    let tables = c.args.tables.now in
    let k = c.args.number in
    let i = c.args.import.now in
    let l = c.args.link.now in
    let gs = c.as_slice-2.ensures ∙ c.in_ok-groups.ensures ∙ ap (λ (x : List Alias). groups x (named c.entries_at.result.now)) c.as_slice.ensures ∙ ap (groups i.aliases) c.entries_at.ensures.names in
    joined_as c.args.parents.now c.join_groups.new.parents
    (λ (g : Marks). holds_groups (label_from g c.start_of-start.result (named c.args.index.now)) g c.start_of-first.result c.as_slice-2.result.now)
    (λ (g : Marks). import_by (label_by tables g) (names_of tables) k i l)
    (λ (g : Marks). import_is tables g k i l c.start_of-start.result c.start_of-first.result (named c.args.index.now) c.as_slice-2.result.now c.entries_at.ensures.distinct
    c.start_of-start.ensures c.requires.here.names c.start_of-first.ensures gs) c.join_groups.ensures
