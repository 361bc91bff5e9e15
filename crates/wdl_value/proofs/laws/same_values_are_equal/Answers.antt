use Rattle.std.proofs.Common.{◌≡◌, true, subst}
use Rattle.wdl_value.specs.SameValue.{same_value}
use Rattle.wdl_value.proofs.SameValueLemmas.{same_value-true, same_value-refl}
use Rattle.wdl_value.proofs.laws.same_values_are_equal.Goals as goal

pub returns : goal.returns
returns c = record { law = λ x y. (same_value-true x y, λ e. subst (λ w. same_value x w ≡ true) e (same_value-refl x)) }
