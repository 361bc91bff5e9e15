use Rattle.std.proofs.Common.{◌≡◌, ◌++◌, [], drop, map, Ok}
use Rattle.wdl_value.specs.Outcome.{and_then}
use Rattle.wdl_typed.specs.Requests.{land_all, land_fields, land_rows}
use Rattle.wdl_task.specs.Members.{field_landers, lander, members_or_none, row_landers}
use Rattle.wdl_task.proofs.landing.+landed.Given as goal

abbrev pub invariant-list_landed-loop-item : goal.invariant-list_landed-loop-item
invariant-list_landed-loop-item l =
    and_then (land_all (map (lander l.shore.structs.now l.shore.dir.now l.shore.answer.now) (drop l.item-index l.items)) l.t) (λ rest. Ok (l.all ++ rest))
    ≡ land_all (map (lander l.shore.structs.now l.shore.dir.now l.shore.answer.now) l.items) l.t

abbrev pub invariant-map_landed-loop-row : goal.invariant-map_landed-loop-row
invariant-map_landed-loop-row l =
    land_rows (row_landers l.shore.structs.now l.shore.dir.now l.shore.answer.now (drop l.row-index l.rows)) l.t l.u l.all
    ≡ land_rows (row_landers l.shore.structs.now l.shore.dir.now l.shore.answer.now l.rows) l.t l.u []

abbrev pub invariant-struct_landed-loop-field : goal.invariant-struct_landed-loop-field
invariant-struct_landed-loop-field l =
    and_then (land_fields (field_landers l.shore.structs.now l.shore.dir.now l.shore.answer.now (drop l.field-index l.fields)) l.left) (λ rest. Ok (l.all ++ rest))
    ≡ land_fields (field_landers l.shore.structs.now l.shore.dir.now l.shore.answer.now l.fields) (members_or_none l.shore.structs.now l.name)
