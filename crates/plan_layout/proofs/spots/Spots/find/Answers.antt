use Rattle.std.proofs.Common.{ap, ◌∙◌}
use Rattle.plan_layout.specs.Spots.{find_spot}
use Rattle.plan_layout.proofs.Finding.{find-spot}
use Rattle.plan_layout.proofs.spots.Spots.find.Goals as goal

pub returns : goal.returns
returns c =
    c.find.ensures ∙ find-spot c.args.key.now c.self.inside.spots ∙ ap (λ ss. find_spot ss c.args.key.now) c.self.view_is
