use Rattle.std.proofs.Common.{sym, ap, ◌∙◌}
use Rattle.wdl_typed.specs.Flow as flow
use Rattle.wdl_flow.specs.Given.{all_names, both}
use Rattle.wdl_plain.specs.Views.{run_of}
use Rattle.wdl_flow.proofs.GivenNames.{bodies_same}
use Rattle.wdl_plain.proofs.blocks.body_names.Goals as goal

pub returns : goal.returns
returns c depth =
    c.in_ok-add_body.ensures
    ∙ ap (λ n. both n (all_names c.args.ground.now.checked.now.tasks c.args.ground.now.checked.now.flows c.args.body.now)) c.empty-given.ensures
    ∙ sym (bodies_same (run_of c.args.ground.now) (flow.flow (run_of c.args.ground.now) depth) c.args.body.now)
