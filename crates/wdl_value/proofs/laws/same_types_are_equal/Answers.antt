use Rattle.std.proofs.Common.{◌≡◌, true, subst}
use Rattle.wdl_value.specs.SameType.{same_type}
use Rattle.wdl_value.proofs.SameTypeLemmas.{same_type-true, same_type-refl}
use Rattle.wdl_value.proofs.laws.same_types_are_equal.Goals as goal

pub returns : goal.returns
returns c = record { law = λ t u. (same_type-true t u, λ e. subst (λ w. same_type t w ≡ true) e (same_type-refl t)) }
