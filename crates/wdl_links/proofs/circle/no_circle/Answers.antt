use Rattle.std.proofs.Common.{ap, sym, ◌∙◌}
use Rattle.wdl_links.specs.Circles.{is_marked}
use Rattle.wdl_links.proofs.CircleLemmas.{no_circle}
use Rattle.wdl_links.proofs.circle.no_circle.Goals as goal

pub returns-then-is_marked : goal.returns-then-is_marked
returns-then-is_marked c =
    let marks = c.in_ok-marks.marks in
    no_circle c.args.docs.now marks c.requires.reached
    (ap (λ m. is_marked m 0) (sym c.as_slice.ensures) ∙ sym c.is_marked.ensures ∙ c.if-is_marked.true) c.in_ok-marks.ensures.ends
