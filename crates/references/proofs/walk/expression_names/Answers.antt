use Rattle.std.proofs.Common.{map, ap}
use Rattle.references.proofs.Behind.{from_none}
use Rattle.references.proofs.walk.expression_names.Goals as goal

pub returns : goal.returns
returns c = from_none _ _ _ c.in_ok-push_names.ensures (ap (λ xs. map (λ k. k.now) xs) c.new-names.ensures.items)
