-- The order of a list, or where its members stand if they have none.
use Rattle.std.specs.Prelude.{ℕ, List, [], ◌∷◌}
use Rattle.wdl_base.specs.declared.span.Span.{Span}
use Rattle.wdl_check_rules.specs.declared.fault.CheckFault.TheVariants.{Bad}
use Rattle.wdl_check_rules.specs.Conditions.{Conditions, unless}
use Rattle.wdl_check_types.specs.Outcome.{Outcome}
use Rattle.wdl_typed.specs.Order.{Needing}
use Rattle.wdl_order.specs.Least.{least_order}

-- 320: the place of a member
abbrev pub circular : List Span → Conditions
circular [] = []
circular (s ∷ spans) = Bad 320 s ∷ circular spans

abbrev pub ordered : List Needing → List Span → Outcome (List ℕ)
ordered all spans = record { typed = least_order all; conditions = unless (least_order all) (circular spans) }
