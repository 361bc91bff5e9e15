use Rattle.std.proofs.Common.{◌≡◌, ◌++◌, drop, map}
use Rattle.wdl_value.specs.FilePaths.{paths_in, paths_in_fields, paths_in_rows}
use Rattle.wdl_value.proofs.file_paths.+paths.Given as goal

abbrev pub invariant-push_items-loop-item : goal.invariant-push_items-loop-item
invariant-push_items-loop-item l = map (λ p. p.now) l.paths.items ++ paths_in (drop l.item-index l.items) ≡ map (λ p. p.now) l.initial.paths.items ++ paths_in l.items

abbrev pub invariant-push_rows-loop-row : goal.invariant-push_rows-loop-row
invariant-push_rows-loop-row l =
    map (λ p. p.now) l.paths.items ++ paths_in_rows (drop l.row-index l.rows) ≡ map (λ p. p.now) l.initial.paths.items ++ paths_in_rows l.rows

abbrev pub invariant-push_fields-loop-field : goal.invariant-push_fields-loop-field
invariant-push_fields-loop-field l =
    map (λ p. p.now) l.paths.items ++ paths_in_fields (drop l.field-index l.fields) ≡ map (λ p. p.now) l.initial.paths.items ++ paths_in_fields l.fields
