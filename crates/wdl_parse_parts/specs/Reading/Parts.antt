-- Reads what stands at the front of a list of tokens, part by part.
use Rattle.std.specs.Prelude.{ℕ, zero, suc, if◌then◌else◌, List, [], ◌∷◌, ◌++◌, length, Option, Some, None, Ok}
use Rattle.wdl_base.specs.declared.span.Span.{Span}
use Rattle.wdl_ast.specs.declared.token.Mark.{Mark}
use Rattle.wdl_ast.specs.declared.token.Mark.TheVariants as mark
use Rattle.wdl_ast.specs.declared.token.Kind.{Kind}
use Rattle.wdl_ast.specs.declared.token.Kind.TheVariants as kind
use Rattle.wdl_ast.specs.declared.leaf.Ident.{Ident}
use Rattle.wdl_ast.specs.declared.leaf.Word.{Word}
use Rattle.wdl_ast.specs.declared.leaf.ListItem.{ListItem}
use Rattle.wdl_ast.specs.declared.leaf.Attribute.{Attribute}
use Rattle.wdl_ast.specs.Words.{Words}
use Rattle.token_reading.specs.Outcome.{Outcome, Parser, missing, then_, found, sees, eat, eat_word, ident_at, one_more}

-- ---- what has to stand there

unfoldable pub need : {A : Type 0} → Option (A × Words) → Outcome A
need (Some x) = Ok x
need None = missing

unfoldable pub mark_at : Mark → Parser Span
mark_at m ts = need (eat m ts)

unfoldable pub word_at : List ℕ → Parser Span
word_at w ts = need (eat_word w ts)

unfoldable pub name_at : Parser Ident
name_at ts = need (ident_at ts)

abbrev pub key_of : Kind → Span → Parser Word
key_of (kind.Word w) s ts = Ok (record { text = w; span = s }, ts)
key_of _ s ts = missing

-- any word
unfoldable pub key_at : Parser Word
key_at [] = missing
key_at (t ∷ ts) = key_of t.kind t.span ts

-- ---- what may stand there

unfoldable pub comma_at : Parser (Option Span)
comma_at ts = found (eat mark.Comma ts) (λ s rest. Ok (Some s, rest)) (Ok (None, ts))

-- ---- lists

module _ {A : Type 0} (one : Parser (Option A)) where
  -- part after part, as long as one stands there; the number bounds the turns, each of which takes a token
  unfoldable pub many_from : ℕ → List A → Parser (List A)
  many_from zero all ts = Ok (all, ts)
  many_from (suc n) all ts = then_ (one ts) (λ x rest. one_more x (λ y. many_from n (all ++ y ∷ []) rest) (Ok (all, rest)))

  abbrev pub many : Parser (List A)
  many ts = many_from (length ts) [] ts

-- a part, unless the mark stands there that ends the list
unfoldable pub until : {A : Type 0} → Mark → Parser A → Parser (Option A)
until close one ts = if sees close ts then Ok (None, ts) else then_ (one ts) (λ x rest. Ok (Some x, rest))

module _ {E : Type 0} (one : Parser E) where
  -- with the comma behind it
  unfoldable pub item : Parser (ListItem E)
  item ts = then_ (one ts) (λ x rest. then_ (comma_at rest) (λ m more. Ok (record { item = x; comma = m }, more)))

  -- `key: value` with the comma behind it
  unfoldable pub attribute : Parser (Attribute E)
  attribute ts = then_ (key_at ts) (λ k rest. then_ (mark_at mark.Colon rest) (λ c more. then_ (one more) (λ v after. then_ (comma_at after)
      (λ m last. Ok (record { key = k; colon = c; value = v; comma = m }, last)))))
