use Rattle.std.proofs.Common.{rules, ◌+◌, ◌<◌, ◌≤◌, List, drop, length, map, subst}
use Rattle.wdl_ast.specs.declared.expr.Expr.{Expr}
use Rattle.wdl_ast.specs.declared.leaf.Attribute.{Attribute}
use Rattle.wdl_check_decls.specs.Expressions.{world}
use Rattle.wdl_check_decls.proofs.ListLaws.{Leads, leads_done, leads_on}
use Rattle.wdl_check_task.specs.Runtime.{each_typed, value_typed}
use Rattle.wdl_check_task.proofs.Loops.{ended, turn}
use Rattle.wdl_check_task.proofs.runtime.check_each.Goals as goal

pub loop-attribute-preserved : goal.loop-attribute-preserved
loop-attribute-preserved c =
    let w = world c.args.seeing.now in
    let names = c.args.names.now in
    let xs = c.args.attributes.now in
    let i = c.loop-attribute.attribute-index in
    let a = c.attribute-item.result in
    let l : i < length xs = search rules in
    leads_on (value_typed w names a.now) (λ x. each_typed w names (map (λ a. a.now) (drop (i + 1) xs)))
    (each_typed w names (map (λ a. a.now) xs)) _ c.in_ok-check_in.ensures
    (subst (λ (as_ : List (Attribute Expr)). Leads (each_typed w names as_) (each_typed w names (map (λ a. a.now) xs)))
    (turn (λ a. a.now) xs i a l c.attribute-item.is) c.loop-attribute.invariant)

pub returns : goal.returns
returns c =
    let w = world c.args.seeing.now in
    let names = c.args.names.now in
    let xs = c.args.attributes.now in
    let i = c.loop-attribute.attribute-index in
    let l : length xs ≤ i = search rules in
    leads_done tt (each_typed w names (map (λ a. a.now) xs))
    (subst (λ (as_ : List (Attribute Expr)). Leads (each_typed w names as_) (each_typed w names (map (λ a. a.now) xs)))
    (ended (λ a. a.now) xs i l) c.loop-attribute.invariant)
