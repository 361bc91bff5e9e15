-- Reads the longest expression at the front of a list of tokens.
use Rattle.std.specs.Prelude.{ℕ, zero, suc, max, Bool, true, false, if◌then◌else◌, List, [], ◌∷◌, ◌++◌, length, Option, Some, None, Ok, Err, codes}
use Rattle.std.specs.Str.{bytes_eq}
use Rattle.wdl_base.specs.declared.span.Span.{Span}
use Rattle.wdl_base.specs.Names.{is_name}
use Rattle.wdl_ast.specs.declared.token.Mark.{Mark}
use Rattle.wdl_ast.specs.declared.token.Mark.TheVariants as mark
use Rattle.wdl_ast.specs.declared.token.Quote.{Quote}
use Rattle.wdl_ast.specs.declared.token.HoleMark.{HoleMark}
use Rattle.wdl_ast.specs.declared.token.Kind.{Kind}
use Rattle.wdl_ast.specs.declared.token.Kind.TheVariants as kind
use Rattle.wdl_ast.specs.declared.leaf.Ident.{Ident}
use Rattle.wdl_ast.specs.declared.leaf.ListItem.{ListItem}
use Rattle.wdl_ast.specs.declared.string.StringPart.{StringPart}
use Rattle.wdl_ast.specs.declared.string.StringPart.TheVariants as part
use Rattle.wdl_ast.specs.declared.expr.MapEntry.{MapEntry}
use Rattle.wdl_ast.specs.declared.expr.MemberEntry.{MemberEntry}
use Rattle.wdl_ast.specs.declared.expr.Expr.{Expr}
use Rattle.wdl_ast.specs.declared.expr.Expr.TheVariants as e
use Rattle.wdl_ast.specs.Words.{Words, at}
use Rattle.token_reading.specs.declared.tall.Tall.{Tall}
use Rattle.token_reading.specs.declared.tall.Closed.{Closed}
use Rattle.token_reading.specs.declared.tall.Chain.{Chain}
use Rattle.token_reading.specs.declared.tall.Rule.{Rule}
use Rattle.token_reading.specs.declared.tall.Rule.TheVariants as rule
use Rattle.token_reading.specs.Outcome.{Outcome, Parser, missing, bad, then_, attempt, found, too_deep, is_hole_close, is_str_close, eat_if, eat, eat_word, ident_at, tall, grown, linked, one_more}
use Rattle.token_reading.specs.Operators.{binary_at, unary_at}
use Rattle.token_reading.specs.Strings.{options_at}
use Rattle.token_reading.specs.Forms.{left_out}
use Rattle.wdl_parse_expr.specs.Grammar.{ends_bare, ends_in_choice}

-- ---- lists that commas separate

abbrev pub list_item : {E : Type 0} → E → Option Span → ListItem E
list_item x c = record { item = x; comma = c }

abbrev pub closed : {E : Type 0} → List (ListItem E) → ℕ → Span → Closed E
closed its n c = record { items = its; inside = n; closing = c }

module _ {E : Type 0} (one : Parser (Tall E)) (close : Mark) where
  unfoldable pub ended : List (ListItem E) → ℕ → Parser (Closed E)
  ended all i ts = found (eat close ts) (λ c rest. Ok (closed all i c, rest)) missing

  -- The elements up to the closing mark. The first number bounds the turns, each of which takes a token.
  unfoldable pub list_from : ℕ → List (ListItem E) → ℕ → Parser (Closed E)
  list_from zero all i ts = missing
  list_from (suc n) all i ts = found (eat close ts)
      (λ c rest. Ok (closed all i c, rest))
      (then_ (one ts) (λ x rest. found (eat mark.Comma rest)
      (λ m more. list_from n (all ++ list_item x.tree (Some m) ∷ []) (max i x.depth) more)
      (ended (all ++ list_item x.tree None ∷ []) (max i x.depth) rest)))

  abbrev pub list_of : Parser (Closed E)
  list_of ts = list_from (length ts) [] 0 ts

-- ---- expressions; inner reads one, one level deeper

abbrev pub chained : Tall Expr → Chain
chained x = record { left = x; links = 0; inside = x.depth }

abbrev pub leaf : {A : Type 0} → A → Parser (Tall A)
leaf x ts = Ok (tall x 1, ts)

module _ (inner : Rule → Parser (Tall Expr)) where
  unfoldable pub entry : Parser (Tall (MapEntry Expr))
  entry ts = then_ (inner rule.Expr ts) (λ k rest. found (eat mark.Colon rest)
      (λ c more. then_ (inner rule.Expr more) (λ v after. Ok (tall (record { key = k.tree; colon = c; value = v.tree }) (max k.depth v.depth), after)))
      missing)

  unfoldable pub member : Parser (Tall (MemberEntry Expr))
  member ts = found (ident_at ts) (λ n rest. found (eat mark.Colon rest)
      (λ c more. then_ (inner rule.Expr more) (λ v after. Ok (tall (record { name = n; colon = c; value = v.tree }) v.depth, after)))
      missing)
      missing

  unfoldable pub hole : HoleMark → Span → Parser (Tall (StringPart Expr))
  hole m o ts = then_ (options_at ts) (λ os rest. then_ (inner rule.Expr rest) (λ x more. found (eat_if is_hole_close more)
      (λ c after. Ok (tall (part.Placeholder (record { mark = m; opening = o; options = os; expr = x.tree; closing = c })) x.depth, after))
      missing))

  abbrev pub part_of : Kind → Span → Parser (Option (Tall (StringPart Expr)))
  part_of (kind.Chars w) s ts = Ok (Some (tall (part.Chars (record { text = w; span = s })) 0), ts)
  part_of (kind.HoleOpen m) s ts = then_ (hole m s ts) (λ x rest. Ok (Some x, rest))
  part_of k s ts = Ok (None, at k s ∷ ts)

  abbrev pub part_at : Parser (Option (Tall (StringPart Expr)))
  part_at [] = Ok (None, [])
  part_at (t ∷ ts) = part_of t.kind t.span ts

  -- the parts of a string or a command up to its end
  unfoldable pub parts_from : ℕ → List (StringPart Expr) → ℕ → Parser (Tall (List (StringPart Expr)))
  parts_from zero all i ts = Ok (tall all i, ts)
  parts_from (suc n) all i ts = then_ (part_at ts) (λ x rest. one_more x (λ x. parts_from n (all ++ x.tree ∷ []) (max i x.depth) rest) (Ok (tall all i, rest)))

  abbrev pub parts : Parser (Tall (List (StringPart Expr)))
  parts ts = parts_from (length ts) [] 0 ts

abbrev pub Step : Type 0
Step = Outcome (Option Chain)

-- with one more link
abbrev pub step : Outcome Chain → Step
step (Ok x) = Ok (Some x.0, x.1)
step (Err f) = Err f

-- Link after link, as long as one stands there. The number bounds the turns, each of which takes a token.
unfoldable pub turns : (Chain → Words → Step) → ℕ → Chain → Parser (Tall Expr)
turns next zero left ts = Ok (left.left, ts)
turns next (suc n) left ts = then_ (next left ts) (λ x rest. one_more x (λ x. turns next n x rest) (Ok (left.left, rest)))

-- what a step gives, with whether a link stood there
abbrev pub told : Chain → Step → Outcome (Chain × Bool)
told left (Ok x) = Ok (one_more x.0 (λ y. (y, true)) (left, false), x.1)
told left (Err f) = Err f

module _ (depth : ℕ) (inner : Rule → Parser (Tall Expr)) where
  -- a call, or the name alone before ts, where its arguments do not follow
  unfoldable pub arguments : Ident → Span → Words → Parser (Tall Expr)
  arguments n o rest ts = attempt (list_of (inner rule.Expr) mark.CloseParen rest)
      (λ l after. if ends_bare l.items then grown depth o 0 l.inside (e.Call n o l.items l.closing) after else leaf (e.Name n) ts)
      (leaf (e.Name n) ts)

  abbrev pub call_by : Option ℕ → Ident → Span → Words → Parser (Tall Expr)
  call_by (Some c) n o rest ts = bad c n.span
  call_by None n o rest ts = arguments n o rest ts

  unfoldable pub call : Ident → Span → Words → Parser (Tall Expr)
  call n = call_by (left_out n.name) n

  unfoldable pub struct_literal : Ident → Span → Words → Parser (Tall Expr)
  struct_literal n o rest ts = attempt (list_of (member inner) mark.CloseBrace rest)
      (λ l after. grown depth o 0 l.inside (e.Struct n o l.items l.closing) after)
      (leaf (e.Name n) ts)

  -- what begins with a name
  unfoldable pub named : Ident → Parser (Tall Expr)
  named n ts = found (eat mark.OpenParen ts) (λ o rest. call n o rest ts)
      (found (eat mark.OpenBrace ts) (λ o rest. struct_literal n o rest ts) (leaf (e.Name n) ts))

  -- the second part of a pair
  unfoldable pub pair_end : Span → Tall Expr → Span → Parser (Tall Expr)
  pair_end o x k ts = then_ (inner rule.Expr ts) (λ y rest. found (eat mark.CloseParen rest)
      (λ c after. grown depth o 0 (max x.depth y.depth) (e.Pair o x.tree k y.tree c) after)
      missing)

  -- an expression in parentheses, or a pair
  unfoldable pub paren : Span → Parser (Tall Expr)
  paren o ts = then_ (inner rule.Expr ts) (λ x rest. found (eat mark.CloseParen rest)
      (λ c after. grown depth o 0 x.depth (e.Group o x.tree c) after)
      (found (eat mark.Comma rest) (λ k more. pair_end o x k more) missing))

  unfoldable pub list : Span → Parser (Tall Expr)
  list o ts = then_ (list_of (inner rule.Expr) mark.CloseBracket ts) (λ l rest. grown depth o 0 l.inside (e.List o l.items l.closing) rest)

  unfoldable pub map_literal : Span → Parser (Tall Expr)
  map_literal o ts = then_ (list_of (entry inner) mark.CloseBrace ts) (λ l rest. grown depth o 0 l.inside (e.Map o l.items l.closing) rest)

  unfoldable pub text : Quote → Span → Parser (Tall Expr)
  text q o ts = then_ (parts inner ts) (λ ps rest. found (eat_if is_str_close rest)
      (λ c after. grown depth o 0 ps.depth (e.Str (record { quote = q; opening = o; parts = ps.tree; closing = c })) after)
      missing)

  -- what begins with a reserved word
  unfoldable pub literal : List ℕ → Span → Parser (Tall Expr)
  literal w s ts =
      if bytes_eq w (codes "true") then leaf (e.True s) ts
      else if bytes_eq w (codes "false") then leaf (e.False s) ts
      else if bytes_eq w (codes "None") then leaf (e.None s) ts
      else if bytes_eq w (codes "object") then bad 121 s
      else missing

  unfoldable pub worded : List ℕ → Span → Parser (Tall Expr)
  worded w s ts = if is_name w then named (record { name = w; span = s }) ts else literal w s ts

  abbrev pub primary_of : Kind → Span → Parser (Tall Expr)
  primary_of (kind.Int n) s ts = leaf (e.Int n s) ts
  primary_of (kind.Frac w) s ts = bad 120 s
  primary_of (kind.Word w) s ts = worded w s ts
  primary_of (kind.Mark mark.OpenParen) s ts = paren s ts
  primary_of (kind.Mark mark.OpenBracket) s ts = list s ts
  primary_of (kind.Mark mark.OpenBrace) s ts = map_literal s ts
  primary_of (kind.StrOpen q) s ts = text q s ts
  primary_of _ s ts = missing

  unfoldable pub primary : Parser (Tall Expr)
  primary [] = missing
  primary (t ∷ ts) = primary_of t.kind t.span ts

  -- ---- members and indices

  -- a member or an index behind an expression, if one stands there
  unfoldable pub suffix : Chain → Words → Step
  suffix left ts = found (eat mark.Dot ts)
      (λ dot rest. found (ident_at rest) (λ n after. step (linked depth dot left.links left.inside (e.Member left.left.tree dot n) after)) (Ok (None, ts)))
      (found (eat mark.OpenBracket ts)
      (λ o rest. attempt (inner rule.Expr rest)
      (λ i more. found (eat mark.CloseBracket more) (λ c after. step (linked depth o left.links (max left.inside i.depth) (e.Index left.left.tree o i.tree c) after)) (Ok (None, ts)))
      (Ok (None, ts)))
      (Ok (None, ts)))

  unfoldable pub post : Parser (Tall Expr)
  post ts = then_ (primary ts) (λ x rest. turns suffix (length rest) (chained x) rest)

  -- ---- choices

  -- the branch behind `else`
  unfoldable pub other_choice : Span → Tall Expr → Span → Tall Expr → Span → Parser (Tall Expr)
  other_choice i c t a s ts = then_ (inner rule.Expr ts) (λ r rest. grown depth i 0 (max (max c.depth a.depth) r.depth) (e.If i c.tree t a.tree s r.tree) rest)

  unfoldable pub choice : Span → Parser (Tall Expr)
  choice i ts = then_ (inner rule.Expr ts) (λ c rest. found (eat_word (codes "then") rest)
      (λ t more. then_ (inner rule.Expr more) (λ a after. found (eat_word (codes "else") after)
      (λ s last. other_choice i c t a s last)
      missing))
      missing)

  -- ---- operators

  unfoldable pub unary : Parser (Tall Expr)
  unary ts = found (unary_at ts) (λ o rest. then_ (inner rule.Unary rest) (λ x after. grown depth o.1 0 x.depth (e.Unary o.0 o.1 x.tree) after))
      (found (eat_word (codes "if") ts) choice (post ts))

  -- one more operand behind its operator, if one stands there
  unfoldable pub operation : Parser (Tall Expr) → ℕ → Chain → Words → Step
  operation lower k left ts =
      if ends_in_choice left.left.tree then Ok (None, ts)
      else found (binary_at k ts)
      (λ o rest. attempt (lower rest)
      (λ right more. step (linked depth o.1 left.links (max left.inside right.depth) (e.Binary left.left.tree o.0 o.1 right.tree) more))
      (Ok (None, ts)))
      (Ok (None, ts))

  unfoldable pub rule_at : ℕ → Parser (Tall Expr)
  rule_at zero = unary
  rule_at (suc k) = λ ts. then_ (rule_at k ts) (λ x rest. turns (operation (rule_at k) k) (length rest) (chained x) rest)

  abbrev pub of_rule : Rule → Parser (Tall Expr)
  of_rule rule.Unary = unary
  of_rule rule.Expr = rule_at 6

-- an expression of at most that depth
unfoldable pub expr : ℕ → Rule → Parser (Tall Expr)
expr zero k = too_deep
expr (suc d) k = of_rule d (expr d) k
