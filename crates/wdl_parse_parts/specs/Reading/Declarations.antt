-- Reads declarations and commands.
use Rattle.std.specs.Prelude.{[], ◌∷◌, Option, Some, None, Ok}
use Rattle.wdl_base.specs.declared.span.Span.{Span}
use Rattle.wdl_ast.specs.declared.token.Mark.TheVariants as mark
use Rattle.wdl_ast.specs.declared.token.Fence.{Fence}
use Rattle.wdl_ast.specs.declared.token.Kind.{Kind}
use Rattle.wdl_ast.specs.declared.token.Kind.TheVariants as kind
use Rattle.wdl_ast.specs.declared.section.Declaration.{Declaration}
use Rattle.wdl_ast.specs.declared.section.Assigned.{Assigned}
use Rattle.wdl_ast.specs.declared.section.InputDeclaration.{InputDeclaration}
use Rattle.wdl_ast.specs.declared.task.CommandSection.{CommandSection}
use Rattle.token_reading.specs.Outcome.{Parser, missing, then_, found, eat}
use Rattle.wdl_parse_expr.specs.Contract.{read_expr, read_type, read_parts}
use Rattle.wdl_parse_parts.specs.Reading.Parts.{mark_at, name_at}

unfoldable pub declaration : Parser Declaration
declaration ts = then_ (read_type ts) (λ t rest. then_ (name_at rest) (λ n more. then_ (mark_at mark.Assign more) (λ s after. then_ (read_expr after)
    (λ v last. Ok (record { ty = t; name = n; assign = s; value = v }, last)))))

-- `= expr`, if it stands there
unfoldable pub assigned : Parser (Option Assigned)
assigned ts = found (eat mark.Assign ts) (λ s rest. then_ (read_expr rest) (λ v more. Ok (Some (record { assign = s; value = v }), more))) (Ok (None, ts))

unfoldable pub input : Parser InputDeclaration
input ts = then_ (read_type ts) (λ t rest. then_ (name_at rest) (λ n more. then_ (assigned more) (λ v after. Ok (record { ty = t; name = n; preset = v }, after))))

abbrev pub fence_of : Kind → Span → Parser (Fence × Span)
fence_of (kind.CommandOpen f) s ts = Ok ((f, s), ts)
fence_of _ s ts = missing

-- the opening of a command
unfoldable pub fence_at : Parser (Fence × Span)
fence_at [] = missing
fence_at (t ∷ ts) = fence_of t.kind t.span ts

abbrev pub fence_end_of : Kind → Span → Parser Span
fence_end_of kind.CommandClose s ts = Ok (s, ts)
fence_end_of _ s ts = missing

unfoldable pub fence_end_at : Parser Span
fence_end_at [] = missing
fence_end_at (t ∷ ts) = fence_end_of t.kind t.span ts

unfoldable pub command : Span → Parser CommandSection
command k ts = then_ (fence_at ts) (λ f rest. then_ (read_parts rest) (λ ps more. then_ (fence_end_at more)
    (λ c after. Ok (record { keyword = k; fence = f.0; opening = f.1; parts = ps; closing = c }, after))))
