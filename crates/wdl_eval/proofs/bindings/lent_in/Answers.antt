use Rattle.std.proofs.Common.{◌≡◌, Option, Some, None, sym, ap, ◌∙◌, subst, rules}
use Rattle.std.specs.Option.{option_map}
use Rattle.wdl_value.specs.declared.env.Bind.{Bind}
use Rattle.wdl_value.specs.declared.value.Value.{Value}
use Rattle.wdl_typed.specs.Evaluation.{found}
use Rattle.wdl_typed.specs.Scope.{lookup}
use Rattle.wdl_eval.specs.Meets.{Lends}
use Rattle.wdl_eval.specs.Nodes.{within}
use Rattle.wdl_eval.proofs.Found.{lookup-find}
use Rattle.wdl_eval.proofs.bindings.lent_in.Goals as goal

pub returns-in-Some : goal.returns-in-Some
returns-in-Some c =
    let is = c.in-Some.is in
    let view = c.bind.view_is in
    let looked : lookup c.args.env.now c.args.key.now ≡ Some c.bind.inside.value.now = lookup-find c.args.env.now c.args.key.now ∙ ap (option_map (λ (b : Bind). b.value)) (sym c.find.ensures) ∙ search rules in
    subst (λ (o : Option Value). Lends (within (found o)) c.offered.result) (sym looked) c.offered.ensures

pub returns-in-None : goal.returns-in-None
returns-in-None c h =
    let is = c.in-None.is in
    let looked : lookup c.args.env.now c.args.key.now ≡ None = lookup-find c.args.env.now c.args.key.now ∙ ap (option_map (λ (b : Bind). b.value)) (sym c.find.ensures) ∙ search rules in
    ap (λ (o : Option Value). within (found o)) looked
