-- Reads calls.
use Rattle.std.specs.Prelude.{if◌then◌else◌, List, Option, Some, None, Ok, codes}
use Rattle.wdl_base.specs.declared.span.Span.{Span}
use Rattle.wdl_ast.specs.declared.token.Mark.TheVariants as mark
use Rattle.wdl_ast.specs.declared.leaf.Ident.{Ident}
use Rattle.wdl_ast.specs.declared.leaf.ListItem.{ListItem}
use Rattle.wdl_ast.specs.declared.workflow.CallTarget.{CallTarget}
use Rattle.wdl_ast.specs.declared.workflow.TargetMember.{TargetMember}
use Rattle.wdl_ast.specs.declared.workflow.Renaming.{Renaming}
use Rattle.wdl_ast.specs.declared.workflow.After.{After}
use Rattle.wdl_ast.specs.declared.workflow.Argument.{Argument}
use Rattle.wdl_ast.specs.declared.workflow.CallInputs.{CallInputs}
use Rattle.wdl_ast.specs.declared.workflow.CallBody.{CallBody}
use Rattle.wdl_ast.specs.declared.workflow.Call.{Call}
use Rattle.wdl_ast.specs.Words.{Words}
use Rattle.token_reading.specs.Outcome.{Parser, missing, then_, found, sees, eat, eat_word, ident_at}
use Rattle.wdl_parse_parts.specs.Grammar.{commas_fit}
use Rattle.wdl_parse_parts.specs.Reading.Parts.{mark_at, name_at, many, until, item}
use Rattle.wdl_parse_parts.specs.Reading.Declarations.{assigned}

-- `.name`, if it stands there
unfoldable pub target_member : Parser (Option TargetMember)
target_member ts = found (eat mark.Dot ts) (λ d rest. then_ (name_at rest) (λ n more. Ok (Some (record { dot = d; name = n }), more))) (Ok (None, ts))

unfoldable pub target : Parser CallTarget
target ts = then_ (name_at ts) (λ n rest. then_ (target_member rest) (λ m more. Ok (record { first = n; second = m }, more)))

-- `as name`, if it stands there
unfoldable pub renaming : Parser (Option Renaming)
renaming ts = found (eat_word (codes "as") ts) (λ s rest. then_ (name_at rest) (λ n more. Ok (Some (record { as_word = s; name = n }), more))) (Ok (None, ts))

-- a part of the call, unless a declaration of a struct named `after` stands there
abbrev pub after_by : Span → Ident → Words → Parser (Option After)
after_by s n rest ts = if sees mark.Assign rest then Ok (None, ts) else Ok (Some (record { keyword = s; name = n }), rest)

-- `after name`, if it stands there
unfoldable pub after_at : Parser (Option After)
after_at ts = found (eat_word (codes "after") ts) (λ s rest. found (ident_at rest) (λ n more. after_by s n more ts) (Ok (None, ts))) (Ok (None, ts))

unfoldable pub argument : Parser Argument
argument ts = then_ (name_at ts) (λ n rest. then_ (assigned rest) (λ v more. Ok (record { name = n; value = v }, more)))

abbrev pub fitting : Span → Span → List (ListItem Argument) → Parser (Option CallInputs)
fitting k c xs ts = if commas_fit xs then Ok (Some (record { keyword = k; colon = c; arguments = xs }), ts) else missing

-- `input: ..`, if it stands there
unfoldable pub call_inputs : Parser (Option CallInputs)
call_inputs ts = found (eat_word (codes "input") ts) (λ k rest. then_ (mark_at mark.Colon rest) (λ c more. then_ (many (until mark.CloseBrace (item argument)) more) (λ xs after. fitting k c xs after))) (Ok (None, ts))

-- `{ .. }`, if it stands there
unfoldable pub call_body : Parser (Option CallBody)
call_body ts = found (eat mark.OpenBrace ts) (λ o rest. then_ (call_inputs rest) (λ i more. then_ (mark_at mark.CloseBrace more) (λ c after. Ok (Some (record { opening = o; inputs = i; closing = c }), after)))) (Ok (None, ts))

-- behind its word
unfoldable pub call : Span → Parser Call
call k ts = then_ (target ts) (λ t rest. then_ (renaming rest) (λ n more. then_ (many after_at more) (λ xs after. then_ (call_body after)
    (λ b last. Ok (record { keyword = k; target = t; alias = n; after = xs; body = b }, last)))))
