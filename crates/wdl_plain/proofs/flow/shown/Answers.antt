use Rattle.std.proofs.Common.{List, map, ap, ◌∙◌, refl}
use Rattle.std.proofs.lemmas.Simd.{map-map}
use Rattle.wdl_base.specs.declared.request.Request.{Request}
use Rattle.wdl_typed.specs.declared.success.Success.{Success}
use Rattle.wdl_typed.specs.Statuses.{successes_of}
use Rattle.wdl_plain.specs.Views.{env_in, knowns_of}
use Rattle.wdl_plain.specs.Shown.{outputs_where, statuses_of}
use Rattle.wdl_plain.proofs.flow.shown.Goals as goal

pub returns-clause-shown : goal.returns-clause-shown
returns-clause-shown c = record {
  known = c.in_ok-known.ensures ∙ ap env_in c.as_slice.ensures;
  jobs = ap (λ (s : List Request × List Success). s.0) c.in_ok-jobs.ensures;
  codes = ap (λ (s : List Request × List Success). map successes_of s.1) c.in_ok-jobs.ensures ∙ map-map successes_of statuses_of c.args.flow.jobs;
  faults = refl;
  waits = refl;
  outputs = c.in_ok-outputs.ensures ∙ ap (λ b. outputs_where b (knowns_of c.args.flow.names) c.args.main.now) c.is_clean-clean.ensures;
}
