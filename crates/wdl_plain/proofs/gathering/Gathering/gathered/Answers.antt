use Rattle.std.proofs.Common.{map, ap, ◌∙◌}
use Rattle.wdl_plain.specs.Gathered.{gathered_call, gathered_name}
use Rattle.wdl_flow.specs.Views.{given_of}
use Rattle.wdl_plain.proofs.Gatherings.{gathered_is}
use Rattle.wdl_plain.proofs.gathering.Gathering.gathered.Goals as goal

pub returns : goal.returns
returns c fs is =
    gathered_is c.args.self (given_of c.args.given.now) c.in_ok-gathered_names.field-0 c.in_ok-gathered_calls.field-0 fs is
    (c.in_ok-gathered_names.ensures ∙ ap (λ keys. map (gathered_name c.as_slice-2.result.now) keys) c.as_slice.ensures ∙ ap (λ items. map (gathered_name items) c.args.given.now.keys) c.as_slice-2.ensures)
    (c.in_ok-gathered_calls.ensures ∙ ap (λ calls. map (gathered_call c.as_slice-4.result.now) calls) c.as_slice-3.ensures ∙ ap (λ items. map (gathered_call items) c.args.given.now.calls) c.as_slice-4.ensures)
