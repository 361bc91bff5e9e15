-- Expressions with the names of structs as the library has them (OpenWDL 1.1, "Struct Literals" and "Import Statements").
use Rattle.std.specs.Prelude.{ℕ, List, Option, Some, None}
use Rattle.wdl_ast.specs.declared.expr.Expr.{Expr, Expr-F, fold-Expr, roll-Expr}
use Rattle.wdl_ast.specs.declared.expr.Expr.TheOpen as layer
use Rattle.wdl_ast.specs.declared.expr.Expr.TheVariants as form
use Rattle.wdl_ast.specs.declared.leaf.Ident.{Ident}
use Rattle.wdl_check_rules.specs.Locals.{Naming}

abbrev pub or_same : List ℕ → Option (List ℕ) → List ℕ
or_same name None = name
or_same name (Some other) = other

abbrev pub renamed_ident : Naming → Ident → Ident
renamed_ident locals n = record { name = or_same n.name (locals n.name); span = n.span }

abbrev pub renamed_step : Naming → Expr-F Expr → Expr
renamed_step locals (layer.Struct n o members c) = form.Struct (renamed_ident locals n) o members c
renamed_step locals y = roll-Expr y

unfoldable pub renamed : Naming → Expr → Expr
renamed locals = fold-Expr Expr (renamed_step locals)
