use Rattle.std.proofs.Common.{map}
use Rattle.wdl_check_flow.specs.Given.{seen_of}
use Rattle.wdl_check_flow.specs.Targets.{place_of}
use Rattle.wdl_check_flow.proofs.BodyLaws.{Runs, in_order}
use Rattle.wdl_check_flow.proofs.body.check_body.Given as goal

abbrev pub invariant-loop-position : goal.invariant-loop-position
invariant-loop-position l =
    Runs (place_of l.context) (map (λ s. s.now) l.body) l.numbers l.position-items (seen_of l.initial.visible) l.position-index (seen_of l.visible) l.done
    (in_order (place_of l.context) (map (λ s. s.now) l.body) l.numbers (seen_of l.initial.visible) l.position-items)
