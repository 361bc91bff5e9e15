-- Equality of operators, functions and options of placeholders, as tests.
use Rattle.std.specs.Prelude.{Bool, true, false, ◌&&◌}
use Rattle.std.specs.Str.{bytes_eq}
use denote.Enum.Bare.{sameb}
use Rattle.wdl_value.specs.declared.operator.Func.{Func}
use Rattle.wdl_value.specs.declared.operator.Op.{Op}
use Rattle.wdl_value.specs.contracts.operator.Func.{the_type as functions}
use Rattle.wdl_value.specs.contracts.operator.Op.{the_type as operators}
use Rattle.wdl_typed.specs.declared.expr.Choice.{Choice}
use Rattle.wdl_typed.specs.declared.expr.Choice.TheVariants as choice

-- `==` on operators
unfoldable pub same_op : Op → Op → Bool
same_op = sameb operators

-- `==` on functions
unfoldable pub same_func : Func → Func → Bool
same_func = sameb functions

abbrev pub same_choice : Choice → Choice → Bool
same_choice choice.Plain choice.Plain = true
same_choice (choice.Sep s) (choice.Sep t) = bytes_eq s t
same_choice (choice.Both s t) (choice.Both u w) = bytes_eq s u && bytes_eq t w
same_choice (choice.Default s) (choice.Default t) = bytes_eq s t
same_choice a b = false
