use Rattle.std.proofs.Common.{[], ◌∷◌, ◌++◌, length, slice_get, sym, ap, ◌∙◌}
use Rattle.std.proofs.lemmas.Option.{slice_get_read}
use Rattle.scatter_plan.specs.Calls.{row}
use Rattle.scatter_plan.specs.Plans.{ready_in}
use Rattle.scatter_plan_tests.proofs.Waits.{of_ok, waits_at}
use Rattle.scatter_plan_tests.proofs.running.tell.Goals as goal

pub arrive-arrived-requires-clause-waits : goal.arrive-arrived-requires-clause-waits
arrive-arrived-requires-clause-waits g c =
    let ready = ready_in c.args.plan.now in
    let same = c.ready.ensures.ready in
    let there = slice_get_read c.ready.result.now (length ready) c.args.at c.index-ready-at.result (ap length (sym same)) c.requires.at c.index-ready-at.is in
    waits_at c.in_ok-entry.entry.request ready c.args.at c.index-ready-at.result (ap (λ ps. slice_get ps c.args.at) (sym same) ∙ there) (c.in_ok-entry.ensures ∙ ap (λ p. p.request) (sym c.index-ready-at.is))

pub returns-clause-told : goal.returns-clause-told
returns-clause-told g c =
    let h = c.requires.told in
    let entry = c.in_ok-entry.entry in
    λ within. (
      h.0 ++ row entry.request.place entry.request.attempt entry.answer ∷ [],
      (of_ok c.arrive-arrived.result (c.arrive-arrived.ensures.arrives h.0 h.1) (sym c.is_ok.ensures.value ∙ within)).told,
    )
