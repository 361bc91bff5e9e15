-- The error for a list that has no order.
use Rattle.std.specs.Prelude.{◌≡◌, ℕ, List, Some, slice_get}
use Rattle.wdl_base.specs.declared.span.Span.{Span}
use Rattle.statement_order.specs.declared.fault.OrderFault.{OrderFault}
use Rattle.statement_order.specs.declared.fault.OrderFault.TheVariants.{Circular, NoMemory}
use Rattle.wdl_typed.specs.Order.{Needing, HasNoOrder}

-- There is no order, and the span is that of a member; or memory failed.
abbrev pub IsFault : {A : Type 0} → (A → Needing) → (A → Span) → List A → OrderFault → Type 0
IsFault {A} needing span_of list (Circular span) =
    HasNoOrder needing list × (at : ℕ) × (member : A) × (slice_get list at ≡ Some member) × (span ≡ span_of member)
IsFault needing span_of list NoMemory = Unit {0}
