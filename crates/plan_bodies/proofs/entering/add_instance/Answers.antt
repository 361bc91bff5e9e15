use Rattle.std.proofs.Common.{◌≡◌, ℕ, ◌+◌, List, [], ◌∷◌, ◌++◌, length, ap, ◌∙◌, arith}
use Rattle.value_net.specs.Nets.{view}
use Rattle.plan_growth.specs.Entering.{Sown}
use Rattle.plan_bodies.proofs.Counts.{cells_more}
use Rattle.plan_bodies.proofs.Reach.{statements_moved}
use Rattle.plan_bodies.proofs.entering.add_instance.Goals as goal

pub add_statements-requires-clause-reached : goal.add_statements-requires-clause-reached
add_statements-requires-clause-reached c =
    let count : length (view c.add_cells.new.self).values ≡ length (view c.args.entered.now.net).values + c.args.layout.now.cells =
    ap (λ (v : Sown). length v.values) c.in_ok-first.ensures.cells ∙ cells_more (view c.args.entered.now.net) c.args.layout.now.cells in
    let bases : c.as_slice.result.now ≡ c.args.outer.now ++ length (view c.args.entered.now.net).values ∷ [] =
    c.as_slice.ensures ∙ c.in_ok-push.ensures.ok ∙ ap (λ (xs : List ℕ). xs ++ c.in_ok-first.first ∷ []) c.in_ok-bases.ensures ∙ ap (λ (n : ℕ). c.args.outer.now ++ n ∷ []) c.in_ok-first.ensures.first in
    statements_moved (length (view c.add_cells.new.self).values) (length (view c.args.entered.now.net).values + c.args.layout.now.cells) c.as_slice.result.now (c.args.outer.now ++ length (view c.args.entered.now.net).values ∷ [])
    c.as_slice-statements.result.now c.args.layout.now.statements count bases c.as_slice-statements.ensures (c.requires.room.reached (length (view c.args.entered.now.net).values) (omega arith))
