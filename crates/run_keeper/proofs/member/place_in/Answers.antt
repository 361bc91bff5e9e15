use Rattle.std.proofs.Common.{◌≡◌, Ok, inl, ap, ◌∙◌, arith}
use Rattle.wdl_base.specs.Places.{place_text}
use Rattle.wdl_base.proofs.PlaceLemmas.{same_place}
use Rattle.run_keeper.proofs.member.place_in.Goals as goal

pub returns-in-Ok : goal.returns-in-Ok
returns-in-Ok c = λ p h e.
    let read = c.in-Ok.ensures.value in
    let text : c.in-Some.s.now ≡ place_text p = grind (arith, e) in
    inl (ap Ok (same_place c.in-Ok.place p read.0 h (read.1 ∙ text)))
