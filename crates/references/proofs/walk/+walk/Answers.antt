use Rattle.std.proofs.Common.{rules, ◌≡◌, ◌+◌, ◌<◌, ◌≤◌, List, [], ◌∷◌, ◌++◌, length, map, drop, refl, sym, ap, ◌∙◌}
use Rattle.std.proofs.lemmas.List.{drop_all, drop_more}
use Rattle.std.proofs.lemmas.Result.{on_ok_weaker}
use Rattle.wdl_base.specs.declared.name.Key.{Key}
use Rattle.references.proofs.Behind.{behind_all, behind_more, behind_none, behind_one, behind_two}
use Rattle.references.specs.Names.{argument_names, behind, piece_names}
use Rattle.wdl_typed.specs.Scope.{all_names, names_of, row_names}
use Rattle.wdl_typed.specs.declared.expr.TExpr.{TExpr, the_lemmas}
use Rattle.wdl_typed.specs.declared.expr.TField.{TField}
use Rattle.wdl_typed.specs.declared.expr.TPair.{TPair}
use Rattle.wdl_typed.specs.declared.expr.TPart.{TPart}
use Rattle.references.proofs.walk.+walk.Goals as goal

-- ---- lists of expressions

unfoldable in_all : List TExpr → List Key
in_all es = all_names (map names_of es)

unfoldable in_fields : List (TField TExpr) → List Key
in_fields fields = argument_names fields

unfoldable in_rows : List (TPair TExpr) → List Key
in_rows rows = row_names (map (λ (r : TPair TExpr). record { key = names_of r.key; value = names_of r.value }) rows)

pub push_all-loop-e-preserved : goal.push_all-loop-e-preserved
unfolding in_all
push_all-loop-e-preserved t c =
    let l : c.loop-e.e-index < length c.args.es.now = search rules in
    behind_more (map (λ k. k.now) c.loop-e.names.items) (map (λ k. k.now) c.push_names.new.names.items) (map (λ k. k.now) c.args.names.now.items) (names_of c.e-item.result)
    (in_all (drop (c.loop-e.e-index + 1) c.args.es.now)) (in_all (drop c.loop-e.e-index c.args.es.now)) (in_all c.args.es.now)
    c.in_ok-push_names.ensures
    (ap in_all (drop_more c.args.es.now c.loop-e.e-index c.e-item.result l)
    ∙ ap (λ x. names_of x ++ in_all (drop (c.loop-e.e-index + 1) c.args.es.now)) (sym c.e-item.is))
    c.loop-e.invariant

pub push_all-returns : goal.push_all-returns
unfolding in_all
push_all-returns t c =
    let l : length c.args.es.now ≤ c.loop-e.e-index = search rules in
    behind_all (map (λ k. k.now) c.loop-e.names.items) (map (λ k. k.now) c.args.names.now.items) _ (in_all c.args.es.now) (ap in_all (drop_all c.loop-e.e-index c.args.es.now l)) c.loop-e.invariant

pub push_fields-loop-field-preserved : goal.push_fields-loop-field-preserved
unfolding in_fields
push_fields-loop-field-preserved t c =
    let l : c.loop-field.field-index < length c.args.fields.now = search rules in
    behind_more (map (λ k. k.now) c.loop-field.names.items) (map (λ k. k.now) c.push_names.new.names.items) (map (λ k. k.now) c.args.names.now.items) (names_of c.field-item.result.value)
    (in_fields (drop (c.loop-field.field-index + 1) c.args.fields.now)) (in_fields (drop c.loop-field.field-index c.args.fields.now))
    (in_fields c.args.fields.now) c.in_ok-push_names.ensures
    (ap in_fields (drop_more c.args.fields.now c.loop-field.field-index c.field-item.result l)
    ∙ ap (λ (x : TField TExpr). names_of x.value ++ in_fields (drop (c.loop-field.field-index + 1) c.args.fields.now)) (sym c.field-item.is))
    c.loop-field.invariant

pub push_fields-returns : goal.push_fields-returns
unfolding in_fields
push_fields-returns t c =
    let l : length c.args.fields.now ≤ c.loop-field.field-index = search rules in
    behind_all (map (λ k. k.now) c.loop-field.names.items) (map (λ k. k.now) c.args.names.now.items) _ (in_fields c.args.fields.now)
    (ap in_fields (drop_all c.loop-field.field-index c.args.fields.now l)) c.loop-field.invariant

pub push_rows-loop-row-preserved : goal.push_rows-loop-row-preserved
unfolding in_rows
push_rows-loop-row-preserved t c =
    let l : c.loop-row.row-index < length c.args.rows.now = search rules in
    let key : List Key = names_of c.row-item.result.key in
    let value : List Key = names_of c.row-item.result.value in
    behind_more (map (λ k. k.now) c.loop-row.names.items) (map (λ k. k.now) c.push_names-in-loop-row.new.names.items) (map (λ k. k.now) c.args.names.now.items) (key ++ value)
    (in_rows (drop (c.loop-row.row-index + 1) c.args.rows.now)) (in_rows (drop c.loop-row.row-index c.args.rows.now)) (in_rows c.args.rows.now)
    (behind_two (map (λ k. k.now) c.loop-row.names.items) (map (λ k. k.now) c.push_names.new.names.items) (map (λ k. k.now) c.push_names-in-loop-row.new.names.items) key value (key ++ value)
    c.in_ok-push_names.ensures c.in_ok-push_names-2.ensures refl)
    (ap in_rows (drop_more c.args.rows.now c.loop-row.row-index c.row-item.result l)
    ∙ ap (λ (x : TPair TExpr). names_of x.key ++ names_of x.value ++ in_rows (drop (c.loop-row.row-index + 1) c.args.rows.now)) (sym c.row-item.is))
    c.loop-row.invariant

pub push_rows-returns : goal.push_rows-returns
unfolding in_rows
push_rows-returns t c =
    let l : length c.args.rows.now ≤ c.loop-row.row-index = search rules in
    behind_all (map (λ k. k.now) c.loop-row.names.items) (map (λ k. k.now) c.args.names.now.items) _ (in_rows c.args.rows.now) (ap in_rows (drop_all c.loop-row.row-index c.args.rows.now l)) c.loop-row.invariant

pub push_parts-loop-part-preserved : goal.push_parts-loop-part-preserved
push_parts-loop-part-preserved t c =
    let l : c.loop-part.part-index < length c.args.parts.now = search rules in
    let rest : List (TPart TExpr) = drop (c.loop-part.part-index + 1) c.args.parts.now in
    behind_more (map (λ k. k.now) c.loop-part.names.items) (map (λ k. k.now) c.push_names.new.names.items) (map (λ k. k.now) c.args.names.now.items) (names_of c.in-Hole.hole.expr)
    (piece_names rest) (piece_names (drop c.loop-part.part-index c.args.parts.now)) (piece_names c.args.parts.now)
    c.in_ok-push_names.ensures
    (ap piece_names (drop_more c.args.parts.now c.loop-part.part-index c.part-item.result l)
    ∙ ap (λ x. piece_names (x ∷ rest)) (sym c.part-item.is ∙ c.in-Hole.is))
    c.loop-part.invariant

pub push_parts-returns : goal.push_parts-returns
push_parts-returns t c =
    let l : length c.args.parts.now ≤ c.loop-part.part-index = search rules in
    behind_all (map (λ k. k.now) c.loop-part.names.items) (map (λ k. k.now) c.args.names.now.items) _ (piece_names c.args.parts.now)
    (ap piece_names (drop_all c.loop-part.part-index c.args.parts.now l)) c.loop-part.invariant

-- ---- expressions

pub push_names-returns-in-Lit : goal.push_names-returns-in-Lit
push_names-returns-in-Lit t c =
    let e : names_of c.args.e.now ≡ [] = search (rules, the_lemmas) in
    sym (behind_none (map (λ k. k.now) c.args.names.now.items)) ∙ ap (behind (map (λ k. k.now) c.args.names.now.items)) (sym e)

pub push_names-returns-in-Get : goal.push_names-returns-in-Get
push_names-returns-in-Get t c =
    let e : names_of c.args.e.now ≡ c.in-Get.key ∷ [] = search (rules, the_lemmas) in
    on_ok_weaker c.push.result (λ h. h ∙ sym (behind_one (map (λ k. k.now) c.args.names.now.items) c.in-Get.key) ∙ ap (behind (map (λ k. k.now) c.args.names.now.items)) (sym e)) c.push.ensures

pub push_names-returns-in_ok-push_names-in-Choose-2 : goal.push_names-returns-in_ok-push_names-in-Choose-2
push_names-returns-in_ok-push_names-in-Choose-2 t c =
    let first : List Key = names_of c.get.result.now in
    let second : List Key = names_of c.get-in-Choose.result.now in
    let third : List Key = names_of c.get-in-Choose-2.result.now in
    let e : names_of c.args.e.now ≡ names_of c.get.result.now ++ names_of c.get-in-Choose.result.now ++ names_of c.get-in-Choose-2.result.now = search (rules, the_lemmas) in
    on_ok_weaker c.push_names-in-Choose-2.result
    (λ h. behind_two (map (λ k. k.now) c.args.names.now.items) (map (λ k. k.now) c.push_names-in-Choose.new.names.items) _ (first ++ second) third _
    (behind_two (map (λ k. k.now) c.args.names.now.items) (map (λ k. k.now) c.push_names.new.names.items) _ first second (first ++ second) c.in_ok-push_names-in-Choose.ensures
    c.in_ok-push_names-in-Choose-2.ensures refl) h e)
    c.push_names-in-Choose-2.ensures

pub push_names-returns-in_ok-push_names-in-At : goal.push_names-returns-in_ok-push_names-in-At
push_names-returns-in_ok-push_names-in-At t c =
    let e : names_of c.args.e.now ≡ names_of c.get-in-At.result.now ++ names_of c.get-in-At-2.result.now = search (rules, the_lemmas) in
    on_ok_weaker c.push_names-in-At-2.result
    (λ h. behind_two (map (λ k. k.now) c.args.names.now.items) (map (λ k. k.now) c.push_names-in-At.new.names.items) _ (names_of c.get-in-At.result.now) (names_of c.get-in-At-2.result.now) _
    c.in_ok-push_names-in-At.ensures h e)
    c.push_names-in-At-2.ensures
