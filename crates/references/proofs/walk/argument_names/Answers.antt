use Rattle.std.proofs.Common.{map, ap}
use Rattle.references.proofs.Behind.{from_none}
use Rattle.references.proofs.walk.argument_names.Goals as goal

pub returns : goal.returns
returns c = from_none _ _ _ c.in_ok-push_fields.ensures (ap (λ xs. map (λ k. k.now) xs) c.new-names.ensures.items)
