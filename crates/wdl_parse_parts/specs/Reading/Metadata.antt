-- Reads values of metadata.
use Rattle.std.specs.Prelude.{ℕ, zero, suc, if◌then◌else◌, List, [], ◌∷◌, Option, Some, None, Ok, codes}
use Rattle.wdl_base.specs.declared.span.Span.{Span}
use Rattle.wdl_ast.specs.declared.token.Mark.TheVariants as mark
use Rattle.wdl_ast.specs.declared.token.Kind.{Kind}
use Rattle.wdl_ast.specs.declared.token.Kind.TheVariants as kind
use Rattle.wdl_ast.specs.declared.leaf.ListItem.{ListItem}
use Rattle.wdl_ast.specs.declared.meta.Number.{Number}
use Rattle.wdl_ast.specs.declared.meta.Number.TheVariants as number
use Rattle.wdl_ast.specs.declared.meta.MetaValue.{MetaValue}
use Rattle.wdl_ast.specs.declared.meta.MetaValue.TheVariants as meta
use Rattle.wdl_ast.specs.Words.{Words}
use Rattle.token_reading.specs.Outcome.{Parser, missing, then_, found, too_deep, eat, eat_word}
use Rattle.token_reading.specs.Strings.{plain}
use Rattle.wdl_parse_parts.specs.Grammar.{commas_fit}
use Rattle.wdl_parse_parts.specs.Reading.Parts.{need, mark_at, many, until, item, attribute}

abbrev pub number_of : Kind → Span → Words → Option (Number × Words)
number_of (kind.Int n) s ts = Some (number.Int n s, ts)
number_of (kind.Frac w) s ts = Some (number.Frac w s, ts)
number_of _ s ts = None

abbrev pub number_at : Words → Option (Number × Words)
number_at [] = None
number_at (t ∷ ts) = number_of t.kind t.span ts

unfoldable pub negative : Span → Parser MetaValue
negative s ts = then_ (need (number_at ts)) (λ n rest. Ok (meta.Number (Some s) n, rest))

-- a number or a string
unfoldable pub meta_leaf : Parser MetaValue
meta_leaf ts = found (number_at ts) (λ n rest. Ok (meta.Number None n, rest)) (then_ (plain ts) (λ p rest. Ok (meta.Str p, rest)))

-- what begins with a word
unfoldable pub meta_word : Parser MetaValue
meta_word ts = found (eat_word (codes "null") ts) (λ s rest. Ok (meta.Null s, rest))
    (found (eat_word (codes "true") ts) (λ s rest. Ok (meta.True s, rest))
    (found (eat_word (codes "false") ts) (λ s rest. Ok (meta.False s, rest))
    (meta_leaf ts)))

-- inner reads a value, one level deeper
module _ (inner : Parser MetaValue) where
  unfoldable pub meta_object : Span → Parser MetaValue
  meta_object o ts = then_ (many (until mark.CloseBrace (attribute inner)) ts) (λ xs rest. then_ (mark_at mark.CloseBrace rest) (λ c more. Ok (meta.Object o xs c, more)))

  abbrev pub fitting : Span → List (ListItem MetaValue) → Span → Parser MetaValue
  fitting o xs c ts = if commas_fit xs then Ok (meta.List o xs c, ts) else missing

  unfoldable pub meta_list : Span → Parser MetaValue
  meta_list o ts = then_ (many (until mark.CloseBracket (item inner)) ts) (λ xs rest. then_ (mark_at mark.CloseBracket rest) (λ c more. fitting o xs c more))

  unfoldable pub meta_over : Parser MetaValue
  meta_over ts = found (eat mark.OpenBrace ts) meta_object
      (found (eat mark.OpenBracket ts) meta_list
      (found (eat mark.Minus ts) negative
      (meta_word ts)))

-- a value of at most that depth
unfoldable pub meta_at : ℕ → Parser MetaValue
meta_at zero = too_deep
meta_at (suc d) = meta_over (meta_at d)
