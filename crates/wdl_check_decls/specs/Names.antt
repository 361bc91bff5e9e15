-- Names that stand twice.
use Rattle.std.specs.Prelude.{ℕ, List, [], ◌∷◌, ◌++◌, Option, Some, None, if◌then◌else◌}
use Rattle.wdl_base.specs.declared.span.Span.{Span}
use Rattle.wdl_ast.specs.declared.leaf.Ident.{Ident}
use Rattle.wdl_typed.specs.Lists.{has_name}

-- where the first name stands that is among these, or stands before
abbrev pub first_repeated : List (List ℕ) → List Ident → Option Span
first_repeated before [] = None
first_repeated before (n ∷ ns) = if has_name n.name before then Some n.span else first_repeated (before ++ n.name ∷ []) ns
