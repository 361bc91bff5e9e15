-- The form of a workflow's inputs.
use Rattle.std.specs.Prelude.{◌≡◌, ℕ, Bool, List, [], ◌∷◌, ◌++◌, Option, Some, None, if◌then◌else◌, map, codes}
use Rattle.std.specs.List.Sorted.{IsPermutation, IsSortedByKey, IsStableByKey}
use Rattle.std.specs.Ordering.{nat_cmp}
use Rattle.json.specs.Print.{quoted}
use Rattle.serde_json.specs.Written.{compact_text}
use Rattle.json_values.specs.Writing.{json_of}
use Rattle.wdl_value.specs.declared.ty.Ty.{Ty, out-Ty}
use Rattle.wdl_value.specs.Bare.{is_optional}
use Rattle.wdl_typed.specs.declared.expr.TExpr.{TExpr}
use Rattle.wdl_typed.specs.declared.flow.FlowDef.{FlowDef}
use Rattle.wdl_typed.specs.declared.task.TInput.{TInput}
use Rattle.wdl_json.specs.Inputs.{member_name}
use Rattle.input_form.specs.declared.line.Line.{Line}
use Rattle.input_form.specs.Literals.{is_literal, literal}
use Rattle.input_form.specs.Types.{type_text}

-- ---- one input

abbrev pub marked_optional : List ℕ → List ℕ
marked_optional ty = ty ++ codes " (optional)"

-- a literal as JSON
unfoldable pub literal_text : TExpr → List ℕ
literal_text e = compact_text (json_of (literal e))

abbrev pub with_literal : List ℕ → List ℕ → List ℕ
with_literal ty text = ty ++ codes " (optional, default " ++ text ++ codes ")"

abbrev pub with_default : List ℕ → TExpr → List ℕ
with_default ty e = if is_literal e then with_literal ty (literal_text e) else marked_optional ty

abbrev pub without_default : Bool → List ℕ → List ℕ
without_default optional ty = if optional then marked_optional ty else ty

abbrev pub described : Ty → Option TExpr → List ℕ
described t None = without_default (is_optional (out-Ty t)) (type_text t)
described t (Some e) = with_default (type_text t) e

-- what the form says of an input
abbrev pub input_text : TInput → List ℕ
input_text i = described i.ty i.value

-- the member of an input, behind two blanks
abbrev pub member_text : List ℕ → TInput → List ℕ
member_text flow i = codes "  " ++ quoted (member_name flow i.name) ++ codes ": " ++ quoted (input_text i)

-- ---- all inputs

-- The line of an input begins where the input does.
abbrev pub line_of : List ℕ → TInput → Line
line_of flow i = record { start = i.span.start; text = member_text flow i }

abbrev pub start : Line → ℕ
start l = l.start

-- The lines by where they begin; those that begin at one byte keep their order.
pub record IsInTextOrder (given ordered : List Line) : Type 0 where
  pub permuted : IsPermutation given ordered
  pub sorted : IsSortedByKey start nat_cmp ordered
  pub stable : IsStableByKey start nat_cmp given ordered

-- the lines behind the first, each behind a comma and a newline, and the closing brace
abbrev pub more_text : List Line → List ℕ
more_text [] = codes "\n}"
more_text (l ∷ ls) = codes ",\n" ++ l.text ++ more_text ls

-- one object, with a member a line
abbrev pub object_text : List Line → List ℕ
object_text [] = codes "{}"
object_text (l ∷ ls) = codes "{\n" ++ l.text ++ more_text ls

-- the object with the lines of all inputs, in the order of the document
abbrev pub IsForm : FlowDef → List ℕ → Type 0
IsForm f text = (lines : List Line) × IsInTextOrder (map (line_of f.name) f.inputs) lines × (text ≡ object_text lines)
