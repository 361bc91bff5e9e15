-- Commands (OpenWDL 1.1, "Command Section"): dedented, with typed placeholders.
use Rattle.std.specs.Prelude.{ℕ, ◌+◌, false, true, List, [], ◌∷◌, ◌++◌, Option, Some, slice_get}
use Rattle.wdl_base.specs.declared.template.Part.{Part}
use Rattle.wdl_base.specs.declared.template.Part.TheVariants as template
use Rattle.wdl_base.specs.Templates.{dedented}
use Rattle.wdl_ast.specs.declared.expr.Expr.{Expr}
use Rattle.wdl_ast.specs.declared.string.Placeholder.{Placeholder}
use Rattle.wdl_ast.specs.declared.string.PlaceholderOptions.{PlaceholderOptions}
use Rattle.wdl_ast.specs.declared.string.PlaceholderOptions.TheVariants as options
use Rattle.wdl_ast.specs.declared.string.StringPart.{StringPart}
use Rattle.wdl_ast.specs.declared.string.StringPart.TheVariants as part
use Rattle.wdl_typed.specs.declared.expr.TExpr.{TExpr}
use Rattle.wdl_typed.specs.declared.expr.TPart.{TPart}
use Rattle.wdl_typed.specs.declared.expr.TPart.TheVariants as tp
use Rattle.wdl_typed.specs.declared.scope.Bound.{Bound}
use Rattle.wdl_check_rules.specs.declared.typed.Typed.{Typed}
use Rattle.wdl_check_rules.specs.Rules.{choice_of, hole_of}
use Rattle.wdl_check_rules.specs.Spans.{span_of}
use Rattle.wdl_check_types.specs.Outcome.{Outcome, done, then_, or_refused}
use Rattle.wdl_check_decls.specs.Expressions.{World, expr_typed}
use Rattle.wdl_check_decls.specs.Writes.{placed_typed}

-- ---- placeholders

-- A file may be written in a placeholder without options.
abbrev pub hole_value : World → List Bound → PlaceholderOptions → Expr → Outcome Typed
hole_value w names options.Plain e = placed_typed w names true e
hole_value w names o e = expr_typed w names false true e

-- 308: a type that the placeholder or its option does not take
abbrev pub hole_from : Placeholder Expr → Typed → Outcome (TPart TExpr)
hole_from h x = or_refused 308 (span_of h.expr) (hole_of (choice_of h.options) x)

abbrev pub hole_typed : World → List Bound → Placeholder Expr → Outcome (TPart TExpr)
hole_typed w names h = then_ (hole_value w names h.options h.expr) (hole_from h)

-- ---- the text round them

-- a placeholder as the hole with this number
abbrev pub template_part : ℕ → StringPart Expr → Part
template_part k (part.Chars c) = template.Chars c.text
template_part k (part.Placeholder h) = template.Hole k

-- the parts as a template: a hole has the number of its part
abbrev pub template_from : ℕ → List (StringPart Expr) → List Part
template_from k [] = []
template_from k (p ∷ ps) = template_part k p ∷ template_from (k + 1) ps

-- The part behind a hole is a placeholder.
abbrev pub placeholder_typed : World → List Bound → Option (StringPart Expr) → Outcome (TPart TExpr)
placeholder_typed w names (Some (part.Placeholder h)) = hole_typed w names h
placeholder_typed w names p = done (tp.Chars [])

-- a part of the dedented command, whose text has these parts
abbrev pub part_typed : World → List Bound → List (StringPart Expr) → Part → Outcome (TPart TExpr)
part_typed w names ps (template.Chars t) = done (tp.Chars t)
part_typed w names ps (template.Hole k) = placeholder_typed w names (slice_get ps k)

abbrev pub parts_behind : World → List Bound → List (StringPart Expr) → List (TPart TExpr) → List Part → Outcome (List (TPart TExpr))
parts_behind w names ps before [] = done before
parts_behind w names ps before (t ∷ ts) =
    then_ (part_typed w names ps t) (λ q. parts_behind w names ps (before ++ q ∷ []) ts)

abbrev pub parts_typed : World → List Bound → List (StringPart Expr) → List Part → Outcome (List (TPart TExpr))
parts_typed w names ps = parts_behind w names ps []

abbrev pub command_typed : World → List Bound → List (StringPart Expr) → Outcome (List (TPart TExpr))
command_typed w names ps = parts_typed w names ps (dedented (template_from 0 ps))
