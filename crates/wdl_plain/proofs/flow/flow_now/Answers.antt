use Rattle.std.proofs.Common.{rules, ◌≡◌, Some, Ok, sym, ap, ◌∙◌}
use Rattle.std.specs.List.{slice_get}
use Rattle.wdl_typed.specs.Flow as flow
use Rattle.wdl_typed.specs.Journal.{flow_over, inputs_fit}
use Rattle.wdl_typed.specs.Kept.{is_checked}
use Rattle.wdl_plain.specs.Views.{env_in}
use Rattle.wdl_plain.specs.Shown.{library_of}
use Rattle.wdl_plain.proofs.Shows.{is_shown, over_is, refuses, shows}
use Rattle.wdl_plain.proofs.Statements.{as_flow}
use Rattle.flow_soundness.proofs.WholeFlow.{main_ready}
use Rattle.wdl_plain.proofs.flow.flow_now.Goals as goal

pub flow_of-requires : goal.flow_of-requires
flow_of-requires g c =
    let d = c.args.checked.now in
    record {
      ready =
          main_ready (library_of d) c.in-Some.k (env_in c.in_ok-given.given) (ap (is_checked (library_of d)) (sym c.in-Some.is) ∙ d.kept)
          (λ f there. ap (inputs_fit d.structs f.inputs) (c.in_ok-given.ensures ∙ c.as_slice.ensures) ∙ c.requires.fit c.in-Some.k f c.in-Some.is there);
    }

pub returns-in_err-flow-clause-shown : goal.returns-in_err-flow-clause-shown
returns-in_err-flow-clause-shown g c =
    let d = c.args.checked.now in
    let there : slice_get d.flows c.in-Some.k ≡ Some c.in-Some-get.main.now = search rules in
    let over = over_is (library_of d) c.in-Some.k c.args.site.now c.in_ok-new.field-0 c.args.journal.now (env_in c.in_ok-given.given) c.args.inputs.now c.new-2.result c.in_ok-new.ensures (c.in_ok-given.ensures ∙ c.as_slice.ensures) c.new-2.ensures in
    is_shown d c.args.inputs.now c.args.site.now c.args.journal.now c.from_residual-in_err-flow.result c.in-Some.k c.in-Some-get.main.now c.in-Some.is there
    (refuses (flow_over (library_of d) c.in-Some.k c.args.inputs.now c.args.site.now c.args.journal.now) c.in-Some-get.main.now c.from_residual-in_err-flow.result c.in_err-flow.field-0.0
    c.from_residual-in_err-flow.ensures (λ is. sym (ap flow.too_many over) ∙ c.in_err-flow.ensures is))

pub returns-clause-shown : goal.returns-clause-shown
returns-clause-shown g c =
    let d = c.args.checked.now in
    let there : slice_get d.flows c.in-Some.k ≡ Some c.in-Some-get.main.now = search rules in
    let over = over_is (library_of d) c.in-Some.k c.args.site.now c.in_ok-new.field-0 c.args.journal.now (env_in c.in_ok-given.given) c.args.inputs.now c.new-2.result c.in_ok-new.ensures (c.in_ok-given.ensures ∙ c.as_slice.ensures) c.new-2.ensures in
    is_shown d c.args.inputs.now c.args.site.now c.args.journal.now (Ok c.in_ok-shown.field-0) c.in-Some.k c.in-Some-get.main.now c.in-Some.is there
    (shows (flow_over (library_of d) c.in-Some.k c.args.inputs.now c.args.site.now c.args.journal.now) c.in-Some-get.main.now c.in_ok-flow.flow c.in_ok-shown.field-0
    (as_flow _ _ (Ok c.in_ok-flow.flow) (sym over) c.in_ok-flow.ensures) c.in_ok-shown.ensures.shown)
