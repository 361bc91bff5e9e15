use Rattle.std.proofs.Common.{rules, ◌+◌, ◌<◌, ◌≤◌, length, drop, sym, ap, ◌∙◌}
use Rattle.std.proofs.lemmas.List.{drop_all, drop_more}
use Rattle.wdl_flow.specs.Given.{all_names, both, names_in}
use Rattle.wdl_flow.specs.Views.{given_of}
use Rattle.wdl_flow.proofs.GivenNames.{both_end, both_more}
use Rattle.wdl_flow.proofs.yielded.Yielded.+given.Goals as goal

pub add_body-loop-statement-preserved : goal.add_body-loop-statement-preserved
add_body-loop-statement-preserved t c =
    let l : c.loop-statement.statement-index < length c.args.body.now = search rules in
    both_more (given_of c.loop-statement.self) (given_of c.add_statement.new.self) (given_of c.args.self.now)
    (names_in c.args.checked.now.tasks c.args.checked.now.flows c.statement-item.result)
    (all_names c.args.checked.now.tasks c.args.checked.now.flows (drop (c.loop-statement.statement-index + 1) c.args.body.now))
    (all_names c.args.checked.now.tasks c.args.checked.now.flows (drop c.loop-statement.statement-index c.args.body.now))
    (all_names c.args.checked.now.tasks c.args.checked.now.flows c.args.body.now)
    c.in_ok-add_statement.ensures
    (ap (all_names c.args.checked.now.tasks c.args.checked.now.flows) (drop_more c.args.body.now c.loop-statement.statement-index c.statement-item.result l)
    ∙ ap (λ x. both (names_in c.args.checked.now.tasks c.args.checked.now.flows x) (all_names c.args.checked.now.tasks c.args.checked.now.flows (drop (c.loop-statement.statement-index + 1) c.args.body.now))) (sym c.statement-item.is))
    c.loop-statement.invariant

pub add_body-returns : goal.add_body-returns
add_body-returns t c =
    let l : length c.args.body.now ≤ c.loop-statement.statement-index = search rules in
    both_end (given_of c.loop-statement.self) (given_of c.args.self.now)
    (all_names c.args.checked.now.tasks c.args.checked.now.flows (drop c.loop-statement.statement-index c.args.body.now))
    (all_names c.args.checked.now.tasks c.args.checked.now.flows c.args.body.now)
    (ap (all_names c.args.checked.now.tasks c.args.checked.now.flows) (drop_all c.loop-statement.statement-index c.args.body.now l))
    c.loop-statement.invariant
