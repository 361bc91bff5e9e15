use Rattle.std.proofs.Common.{◌∙◌, subst}
use Rattle.wdl_typed.specs.Requests as spec
use Rattle.wdl_task.specs.Views.{Prepares, made_of}
use Rattle.wdl_task.proofs.Preparing.{kept_asks, kept_inputs, kept_names, kept_privates}
use Rattle.wdl_task.proofs.request.prepare.Goals as goal

pub with_inputs-requires : goal.with_inputs-requires
with_inputs-requires g c = record { ready = kept_inputs c.args.task.now c.args.given.now c.requires.kept c.as_slice-2.result.now c.in_ok-env.env c.as_slice-2.ensures (c.in_ok-env.ensures ∙ c.as_slice.ensures) }

pub with_privates-requires-clause-ready : goal.with_privates-requires-clause-ready
with_privates-requires-clause-ready g c =
    kept_privates c.args.task.now c.args.given.now c.requires.kept c.as_slice-2.result.now c.in_ok-env.env c.as_slice-2.ensures (c.in_ok-env.ensures ∙ c.as_slice.ensures) c.in_ok-env-2.env c.in_ok-env-2.ensures.value c.as_slice-3.result.now c.new-files.result c.as_slice-3.ensures c.new-files.ensures

pub requested-requires-clause-ready : goal.requested-requires-clause-ready
requested-requires-clause-ready g c =
    kept_names c.args.task.now c.args.given.now c.requires.kept c.as_slice-2.result.now c.in_ok-env.env c.as_slice-2.ensures (c.in_ok-env.ensures ∙ c.as_slice.ensures) c.in_ok-env-2.env c.in_ok-env-2.ensures.value c.as_slice-3.result.now c.new-files.result c.as_slice-3.ensures c.new-files.ensures (made_of c.in_ok-made.made) c.in_ok-made.ensures.value

pub returns-clause-value : goal.returns-clause-value
returns-clause-value g c =
    subst (λ (o : spec.Tried spec.Asked). Prepares o c.args.site.now c.args.place.now c.args.attempt c.requested.result)
    (kept_asks c.args.task.now c.args.given.now c.requires.kept c.as_slice-2.result.now c.in_ok-env.env c.as_slice-2.ensures (c.in_ok-env.ensures ∙ c.as_slice.ensures) c.in_ok-env-2.env c.in_ok-env-2.ensures.value c.as_slice-3.result.now c.new-files.result c.as_slice-3.ensures c.new-files.ensures (made_of c.in_ok-made.made) c.in_ok-made.ensures.value)
    c.requested.ensures.value
