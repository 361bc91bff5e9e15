use Rattle.std.proofs.Common.{◌≡◌, drop, map}
use Rattle.references.specs.Names.{argument_names, behind, piece_names}
use Rattle.wdl_typed.specs.Scope.{all_names, names_of, row_names}
use Rattle.wdl_typed.specs.declared.expr.TExpr.{TExpr}
use Rattle.wdl_typed.specs.declared.expr.TPair.{TPair}
use Rattle.references.proofs.walk.+walk.Given as goal

abbrev pub invariant-push_all-loop-e : goal.invariant-push_all-loop-e
invariant-push_all-loop-e l = behind (map (λ k. k.now) l.names.items) (all_names (map names_of (drop l.e-index l.es))) ≡ behind (map (λ k. k.now) l.initial.names.items) (all_names (map names_of l.es))

abbrev pub invariant-push_fields-loop-field : goal.invariant-push_fields-loop-field
invariant-push_fields-loop-field l =
    behind (map (λ k. k.now) l.names.items) (argument_names (drop l.field-index l.fields))
    ≡ behind (map (λ k. k.now) l.initial.names.items) (argument_names l.fields)

abbrev pub invariant-push_parts-loop-part : goal.invariant-push_parts-loop-part
invariant-push_parts-loop-part l = behind (map (λ k. k.now) l.names.items) (piece_names (drop l.part-index l.parts)) ≡ behind (map (λ k. k.now) l.initial.names.items) (piece_names l.parts)

abbrev pub invariant-push_rows-loop-row : goal.invariant-push_rows-loop-row
invariant-push_rows-loop-row l =
    behind (map (λ k. k.now) l.names.items) (row_names (map (λ (r : TPair TExpr). record { key = names_of r.key; value = names_of r.value }) (drop l.row-index l.rows)))
    ≡ behind (map (λ k. k.now) l.initial.names.items) (row_names (map (λ (r : TPair TExpr). record { key = names_of r.key; value = names_of r.value }) l.rows))
