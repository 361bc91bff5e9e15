-- Reads the longest type at the front of a list of tokens.
use Rattle.std.specs.Prelude.{ℕ, zero, suc, if◌then◌else◌, List, [], ◌∷◌, ◌++◌, length, Option, Some, None, Ok, codes}
use Rattle.std.specs.Str.{bytes_eq}
use Rattle.wdl_base.specs.declared.span.Span.{Span}
use Rattle.wdl_base.specs.Names.{is_name}
use Rattle.wdl_ast.specs.declared.token.Mark.{Mark}
use Rattle.wdl_ast.specs.declared.token.Mark.TheVariants as mark
use Rattle.wdl_ast.specs.declared.token.Kind.{Kind}
use Rattle.wdl_ast.specs.declared.token.Kind.TheVariants as kind
use Rattle.wdl_ast.specs.declared.type_tree.BaseType.{BaseType}
use Rattle.wdl_ast.specs.declared.type_tree.BaseType.TheVariants as base
use Rattle.wdl_ast.specs.declared.type_tree.TypeTree.{TypeTree}
use Rattle.wdl_ast.specs.Words.{Words}
use Rattle.token_reading.specs.declared.type_reader.Two.{Two}
use Rattle.token_reading.specs.Outcome.{Parser, missing, bad, then_, found, too_deep, eat}
use Rattle.token_reading.specs.TypeGrammar.{type_tree}

-- a mark, if it stands there
unfoldable pub optional : Mark → Words → Option Span × Words
optional m ts = found (eat m ts) (λ s rest. (Some s, rest)) (None, ts)

-- the `?` behind a type; the number bounds the turns, each of which takes a token
unfoldable pub questions_from : ℕ → List Span → Words → List Span × Words
questions_from zero all ts = (all, ts)
questions_from (suc n) all ts = found (eat mark.Question ts) (λ s rest. questions_from n (all ++ s ∷ []) rest) (all, ts)

abbrev pub questions : Words → List Span × Words
questions ts = questions_from (length ts) [] ts

-- inner reads a type, one level deeper
module _ (inner : Parser TypeTree) where
  unfoldable pub array : Span → Parser (BaseType TypeTree)
  array w ts = found (eat mark.OpenBracket ts)
      (λ o rest. then_ (inner rest) (λ t more. found (eat mark.CloseBracket more)
      (λ c after. Ok (base.Array w o t c (optional mark.Plus after).0, (optional mark.Plus after).1))
      missing))
      missing

  -- two types in brackets
  unfoldable pub two : Parser (Two TypeTree)
  two ts = found (eat mark.OpenBracket ts)
      (λ o rest. then_ (inner rest) (λ l more. found (eat mark.Comma more)
      (λ m after. then_ (inner after) (λ r last. found (eat mark.CloseBracket last)
      (λ c end. Ok (record { opening = o; left = l; comma = m; right = r; closing = c }, end))
      missing))
      missing))
      missing

  abbrev pub map_type : Span → Parser (BaseType TypeTree)
  map_type w ts = then_ (two ts) (λ t rest. Ok (base.Map w t.opening t.left t.comma t.right t.closing, rest))

  abbrev pub pair_type : Span → Parser (BaseType TypeTree)
  pair_type w ts = then_ (two ts) (λ t rest. Ok (base.Pair w t.opening t.left t.comma t.right t.closing, rest))

  -- what begins with a reserved word
  unfoldable pub reserved : List ℕ → Span → Parser (BaseType TypeTree)
  reserved w s ts =
      if bytes_eq w (codes "Boolean") then Ok (base.Boolean s, ts)
      else if bytes_eq w (codes "Int") then Ok (base.Int s, ts)
      else if bytes_eq w (codes "String") then Ok (base.Str s, ts)
      else if bytes_eq w (codes "File") then Ok (base.File s, ts)
      else if bytes_eq w (codes "Array") then array s ts
      else if bytes_eq w (codes "Map") then map_type s ts
      else if bytes_eq w (codes "Pair") then pair_type s ts
      else if bytes_eq w (codes "Float") then bad 120 s
      else if bytes_eq w (codes "Object") then bad 121 s
      else missing

  unfoldable pub named_base : List ℕ → Span → Parser (BaseType TypeTree)
  named_base w s ts = if is_name w then Ok (base.Struct (record { name = w; span = s }), ts) else reserved w s ts

  abbrev pub base_of : Kind → Span → Parser (BaseType TypeTree)
  base_of (kind.Word w) s ts = named_base w s ts
  base_of _ s ts = missing

  unfoldable pub base_at : Parser (BaseType TypeTree)
  base_at [] = missing
  base_at (t ∷ ts) = base_of t.kind t.span ts

  unfoldable pub type_over : Parser TypeTree
  type_over ts = then_ (base_at ts) (λ b rest. Ok (type_tree b (questions rest).0, (questions rest).1))

-- a type of at most that depth
unfoldable pub type_at : ℕ → Parser TypeTree
type_at zero = too_deep
type_at (suc d) = type_over (type_at d)
