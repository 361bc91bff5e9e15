-- The type of a declaration's expression, by where the declaration stands.
use Rattle.std.specs.Prelude.{List, Option}
use Rattle.wdl_value.specs.declared.ty.Ty.{Ty}
use Rattle.wdl_value.specs.Fits.{Structs}
use Rattle.wdl_typed.specs.declared.expr.TExpr.{TExpr}
use Rattle.wdl_typed.specs.declared.scope.Bound.{Bound}
use Rattle.wdl_typed.specs.Declarations.{in_body, in_output, in_place}
use Rattle.wdl_typing.specs.declared.declarations.Standing.{Standing}
use Rattle.wdl_typing.specs.declared.declarations.Standing.TheVariants.{Private, Output, Body}

abbrev pub type_at : Standing → Structs → List Bound → TExpr → Option Ty
type_at Private structs = in_place structs
type_at Output structs = in_output structs
type_at Body structs = in_body structs
