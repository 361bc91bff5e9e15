-- Reads strings without placeholders, and the options of placeholders.
use Rattle.std.specs.Prelude.{ℕ, Bool, true, false, if◌then◌else◌, List, [], ◌∷◌, Option, Some, None, Ok, codes}
use Rattle.std.specs.Str.{bytes_eq}
use Rattle.wdl_base.specs.declared.span.Span.{Span}
use Rattle.wdl_ast.specs.declared.token.Mark.TheVariants as mark
use Rattle.wdl_ast.specs.declared.token.Quote.{Quote}
use Rattle.wdl_ast.specs.declared.token.Kind.{Kind}
use Rattle.wdl_ast.specs.declared.token.Kind.TheVariants as kind
use Rattle.wdl_ast.specs.declared.leaf.Chars.{Chars}
use Rattle.wdl_ast.specs.declared.leaf.PlainString.{PlainString}
use Rattle.wdl_ast.specs.declared.string.PlaceholderOption.{PlaceholderOption}
use Rattle.wdl_ast.specs.declared.string.PlaceholderOptions.{PlaceholderOptions}
use Rattle.wdl_ast.specs.declared.string.PlaceholderOptions.TheVariants as options
use Rattle.wdl_ast.specs.Words.{Words, at}
use Rattle.token_reading.specs.declared.operator.OptionWord.{OptionWord}
use Rattle.token_reading.specs.declared.operator.OptionWord.TheVariants as word
use Rattle.token_reading.specs.Outcome.{Parser, missing, then_, found, is_str_close, eat_if, eat}

-- ---- plain strings

abbrev pub quote_of : Kind → Span → Words → Option ((Quote × Span) × Words)
quote_of (kind.StrOpen q) s ts = Some ((q, s), ts)
quote_of _ s ts = None

abbrev pub quote_at : Words → Option ((Quote × Span) × Words)
quote_at [] = None
quote_at (t ∷ ts) = quote_of t.kind t.span ts

abbrev pub chars_of : Kind → Span → Words → Option Chars × Words
chars_of (kind.Chars w) s ts = (Some (record { text = w; span = s }), ts)
chars_of k s ts = (None, at k s ∷ ts)

-- characters, if they stand there
abbrev pub chars_at : Words → Option Chars × Words
chars_at [] = (None, [])
chars_at (t ∷ ts) = chars_of t.kind t.span ts

abbrev pub plain_end : Quote × Span → Option Chars → Parser PlainString
plain_end q ch ts = found (eat_if is_str_close ts) (λ c rest. Ok (record { quote = q.0; opening = q.1; chars = ch; closing = c }, rest)) missing

unfoldable pub plain : Parser PlainString
plain ts = found (quote_at ts) (λ q rest. plain_end q (chars_at rest).0 (chars_at rest).1) missing

-- ---- the options of a placeholder

abbrev pub option_word : List ℕ → OptionWord
option_word w =
    if bytes_eq w (codes "sep") then word.Sep
    else if bytes_eq w (codes "default") then word.Default
    else if bytes_eq w (codes "true") then word.True
    else if bytes_eq w (codes "false") then word.False
    else word.Other

abbrev pub option_behind : OptionWord → Span → Words → Option ((OptionWord × (Span × Span)) × Words)
option_behind w s ts = found (eat mark.Assign ts) (λ a rest. Some ((w, (s, a)), rest)) None

abbrev pub option_from : Kind → Span → Words → Option ((OptionWord × (Span × Span)) × Words)
option_from (kind.Word w) s ts = option_behind (option_word w) s ts
option_from _ s ts = None

-- a word before `=`
abbrev pub option_start : Words → Option ((OptionWord × (Span × Span)) × Words)
option_start [] = None
option_start (t ∷ ts) = option_from t.kind t.span ts

unfoldable pub option_end : Span × Span → Parser PlaceholderOption
option_end s ts = then_ (plain ts) (λ v rest. Ok (record { word = s.0; assign = s.1; value = v }, rest))

abbrev pub same_option : OptionWord → OptionWord → Bool
same_option word.True word.True = true
same_option word.False word.False = true
same_option _ _ = false

-- the second of `true` and `false`
unfoldable pub other_option : OptionWord → Parser PlaceholderOption
other_option w ts = found (option_start ts) (λ o rest. if same_option o.0 w then option_end o.1 rest else missing) missing

abbrev pub options_by : OptionWord → Span × Span → Parser PlaceholderOptions
options_by word.Sep s ts = then_ (option_end s ts) (λ o rest. Ok (options.Sep o, rest))
options_by word.Default s ts = then_ (option_end s ts) (λ o rest. Ok (options.Default o, rest))
options_by word.True s ts = then_ (option_end s ts) (λ o rest. then_ (other_option word.False rest) (λ p more. Ok (options.TrueFalse o p, more)))
options_by word.False s ts = then_ (option_end s ts) (λ o rest. then_ (other_option word.True rest) (λ p more. Ok (options.FalseTrue o p, more)))
options_by word.Other s ts = missing

unfoldable pub options_at : Parser PlaceholderOptions
options_at ts = found (option_start ts) (λ o rest. options_by o.0 o.1 rest) (Ok (options.Plain, ts))
