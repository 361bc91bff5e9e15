-- What a body sees, in the words of the definitions.
use Rattle.std.specs.Prelude.{ℕ, List, Option}
use Rattle.wdl_base.specs.declared.span.Span.{Span}
use Rattle.wdl_value.specs.declared.ty.Ty.{Ty}
use Rattle.wdl_typed.specs.declared.expr.TExpr.{TExpr}
use Rattle.wdl_typed.specs.declared.task.TInput.{TInput}
use Rattle.struct_leaves.specs.declared.arguments.Callee.{Callee as Called}
use Rattle.struct_leaves.specs.declared.arguments.Own.{Own as Owned}
use Rattle.struct_leaves.specs.declared.expanding.Setting.{Setting as Set}
use Rattle.leaf_image.specs.Records.{Callee, Own, Setting}

abbrev pub own_of : Owned → Own
own_of o = record { inputs = o.inputs.now; swaps = o.swaps.now }

abbrev pub callee_of : Called → Callee
callee_of c = record { inputs = c.inputs.now; leaves = c.leaves.now }

abbrev pub setting_of : Set → Setting
setting_of s = record { flows = s.flows.now; leaves = s.leaves.now; own = own_of s.own.now }

abbrev pub input : List ℕ → Ty → Option TExpr → Span → TInput
input name t value span = record { name = name; ty = t; value = value; span = span }
