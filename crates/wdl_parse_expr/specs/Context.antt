-- Where expressions and types stand: the tokens in front of one, and how many of the constructs that they open count.
use Rattle.std.specs.Prelude.{◌≡◌, ◌⊎◌, ◌<◌, ◌≤◌, ℕ, zero, suc, ◌+◌, true, false, [], ◌∷◌, ◌++◌, None, codes}
use Rattle.wdl_base.specs.declared.span.Span.{Span}
use Rattle.wdl_base.specs.Names.{is_name}
use Rattle.wdl_ast.specs.declared.token.Mark.TheVariants as mark
use Rattle.wdl_ast.specs.declared.token.Quote.{Quote}
use Rattle.wdl_ast.specs.declared.token.HoleMark.{HoleMark}
use Rattle.wdl_ast.specs.declared.token.Kind.TheVariants as kind
use Rattle.wdl_ast.specs.declared.token.Token.{Token}
use Rattle.wdl_ast.specs.declared.leaf.Ident.{Ident}
use Rattle.wdl_ast.specs.declared.leaf.Chars.{Chars}
use Rattle.wdl_ast.specs.declared.string.Placeholder.{Placeholder}
use Rattle.wdl_ast.specs.declared.string.PlaceholderOptions.{PlaceholderOptions}
use Rattle.wdl_ast.specs.declared.string.StringPart.TheVariants as part
use Rattle.wdl_ast.specs.declared.expr.BinaryOperator.{BinaryOperator}
use Rattle.wdl_ast.specs.declared.expr.UnaryOperator.{UnaryOperator}
use Rattle.wdl_ast.specs.declared.expr.MapEntry.{MapEntry}
use Rattle.wdl_ast.specs.declared.expr.MemberEntry.{MemberEntry}
use Rattle.wdl_ast.specs.declared.expr.Expr.{Expr}
use Rattle.wdl_ast.specs.declared.expr.Expr.TheVariants as e
use Rattle.wdl_ast.specs.declared.type_tree.TypeTree.{TypeTree}
use Rattle.wdl_ast.specs.Words.{Words, at, marked, keyword, ident, entry_words, member_words, options_words, part_words, binary_mark, unary_mark, words, type_words}
use Rattle.token_reading.specs.declared.tall.Rule.TheVariants as rule
use Rattle.token_reading.specs.Forms.{left_out, expr_form, type_form}
use Rattle.token_reading.specs.Operators.{looseness}
use Rattle.wdl_parse_expr.specs.Grammar.{ends_in_choice, IsEntry, IsMember, IsPost, IsRule, Tree}
use Rattle.token_reading.specs.TypeGrammar.{TypeWithin, max_type_depth}

-- What may stand behind some tokens: an expression of a rule, as IsRule counts them, an item of a list or of arguments, an entry of a map, a
-- member of a struct literal, or a part of a string or a command.
pub data Part : Type 0 where
  a_rule : ℕ → Part
  an_item : Part
  an_entry : Part
  a_member : Part
  a_part : Part

-- any expression
abbrev pub an_expr : Part
an_expr = a_rule 6

-- one that is no operand of its own operators
abbrev pub an_operand : Part
an_operand = a_rule 0

-- Behind these tokens such a part stands, in an expression that opened so many constructs there. Root says behind which tokens a whole expression
-- stands, or a part of a command. What counts: anything in brackets or quotes, a sign and an `if` once, operators, members and indices once each.
module _ (Root : Part → Words → Type 0) where
  pub data Open : Part → ℕ → Words → Type 0 where
    root : (p : Part) (ws : Words) → Root p ws → Open p 0 ws
    tighter : (k n : ℕ) (ws : Words) → Open (a_rule (suc k)) n ws → Open (a_rule k) n ws
    group : (n : ℕ) (ws : Words) (o : Span) → Open an_operand n ws → Open an_expr (suc n) (ws ++ marked mark.OpenParen o ∷ [])
    second : (n : ℕ) (ws : Words) (o : Span) (d a : ℕ) (x : Expr) (k : Span) → Tree d rule.Expr a x → Open an_operand n ws → Open an_expr (suc n) (ws ++ marked mark.OpenParen o ∷ (words x ++ marked mark.Comma k ∷ []))
    list : (n : ℕ) (ws : Words) (o : Span) → Open an_operand n ws → Open an_item (suc n) (ws ++ marked mark.OpenBracket o ∷ [])
    call : (n : ℕ) (ws : Words) (f : Ident) (o : Span) → is_name f.name ≡ true → left_out f.name ≡ None → Open an_operand n ws → Open an_item (suc n) (ws ++ ident f ∷ marked mark.OpenParen o ∷ [])
    item : (n : ℕ) (ws : Words) (d a : ℕ) (x : Expr) (c : Span) → Tree d rule.Expr a x → Open an_item n ws → Open an_item n (ws ++ (words x ++ marked mark.Comma c ∷ []))
    of_item : (n : ℕ) (ws : Words) → Open an_item n ws → Open an_expr n ws
    map : (n : ℕ) (ws : Words) (o : Span) → Open an_operand n ws → Open an_entry (suc n) (ws ++ marked mark.OpenBrace o ∷ [])
    entry : (n : ℕ) (ws : Words) (d a : ℕ) (x : MapEntry Expr) (c : Span) → IsEntry (Tree d) a x → Open an_entry n ws → Open an_entry n (ws ++ (entry_words words x ++ marked mark.Comma c ∷ []))
    key : (n : ℕ) (ws : Words) → Open an_entry n ws → Open an_expr n ws
    value : (n : ℕ) (ws : Words) (d a : ℕ) (x : Expr) (c : Span) → Tree d rule.Expr a x → Open an_entry n ws → Open an_expr n (ws ++ (words x ++ marked mark.Colon c ∷ []))
    struct_ : (n : ℕ) (ws : Words) (s : Ident) (o : Span) → is_name s.name ≡ true → Open an_operand n ws → Open a_member (suc n) (ws ++ ident s ∷ marked mark.OpenBrace o ∷ [])
    member : (n : ℕ) (ws : Words) (d a : ℕ) (x : MemberEntry Expr) (c : Span) → IsMember (Tree d) a x → Open a_member n ws → Open a_member n (ws ++ (member_words words x ++ marked mark.Comma c ∷ []))
    of_member : (n : ℕ) (ws : Words) (m : Ident) (c : Span) → is_name m.name ≡ true → Open a_member n ws → Open an_expr n (ws ++ ident m ∷ marked mark.Colon c ∷ [])
    str : (n : ℕ) (ws : Words) (q : Quote) (o : Span) → Open an_operand n ws → Open a_part (suc n) (ws ++ at (kind.StrOpen q) o ∷ [])
    chars : (n : ℕ) (ws : Words) (c : Chars) → Open a_part n ws → Open a_part n (ws ++ part_words words (part.Chars c))
    placeholder : (n : ℕ) (ws : Words) (d a : ℕ) (h : Placeholder Expr) → Tree d rule.Expr a h.expr → Open a_part n ws → Open a_part n (ws ++ part_words words (part.Placeholder h))
    hole : (n : ℕ) (ws : Words) (m : HoleMark) (o : Span) (os : PlaceholderOptions) → Open a_part n ws → Open an_expr n (ws ++ at (kind.HoleOpen m) o ∷ options_words os)
    sign : (n : ℕ) (ws : Words) (u : UnaryOperator) (s : Span) → Open an_operand n ws → Open an_operand (suc n) (ws ++ marked (unary_mark u) s ∷ [])
    condition : (n : ℕ) (ws : Words) (i : Span) → Open an_operand n ws → Open an_expr (suc n) (ws ++ keyword (codes "if") i ∷ [])
    accepted : (n : ℕ) (ws : Words) (i : Span) (d a : ℕ) (x : Expr) (t : Span) → Tree d rule.Expr a x → Open an_operand n ws → Open an_expr (suc n) (ws ++ keyword (codes "if") i ∷ (words x ++ keyword (codes "then") t ∷ []))
    refused : (n : ℕ) (ws : Words) (i : Span) (d a b : ℕ) (x : Expr) (t : Span) (y : Expr) (s : Span) → Tree d rule.Expr a x → Tree d rule.Expr b y → Open an_operand n ws
        → Open an_expr (suc n) (ws ++ keyword (codes "if") i ∷ (words x ++ keyword (codes "then") t ∷ (words y ++ keyword (codes "else") s ∷ [])))
    index : (n : ℕ) (ws : Words) (d m i : ℕ) (x : Expr) (o : Span) → IsPost (Tree d) m i x → Open an_operand n ws → Open an_expr (suc m + n) (ws ++ (words x ++ marked mark.OpenBracket o ∷ []))
    operand : (n : ℕ) (ws : Words) (d k m i : ℕ) (x : Expr) (o : BinaryOperator) (s : Span) → looseness o ≡ k → ends_in_choice x ≡ false → IsRule (Tree d) (suc k) m i x → Open (a_rule (suc k)) n ws
        → Open (a_rule k) (suc m + n) (ws ++ (words x ++ marked (binary_mark o) s ∷ []))

-- Behind these tokens a type stands, in a type that opened so many types there. Root says behind which tokens a whole type stands.
module _ (Root : Words → Type 0) where
  pub data OpenType : ℕ → Words → Type 0 where
    type_root : (ws : Words) → Root ws → OpenType 0 ws
    array : (n : ℕ) (ws : Words) (w o : Span) → OpenType n ws → OpenType (suc n) (ws ++ keyword (codes "Array") w ∷ marked mark.OpenBracket o ∷ [])
    map_key : (n : ℕ) (ws : Words) (w o : Span) → OpenType n ws → OpenType (suc n) (ws ++ keyword (codes "Map") w ∷ marked mark.OpenBracket o ∷ [])
    map_value : (n : ℕ) (ws : Words) (w o : Span) (d : ℕ) (t : TypeTree) (c : Span) → TypeWithin d t → OpenType n ws
        → OpenType (suc n) (ws ++ keyword (codes "Map") w ∷ marked mark.OpenBracket o ∷ (type_words t ++ marked mark.Comma c ∷ []))
    pair_left : (n : ℕ) (ws : Words) (w o : Span) → OpenType n ws → OpenType (suc n) (ws ++ keyword (codes "Pair") w ∷ marked mark.OpenBracket o ∷ [])
    pair_right : (n : ℕ) (ws : Words) (w o : Span) (d : ℕ) (t : TypeTree) (c : Span) → TypeWithin d t → OpenType n ws
        → OpenType (suc n) (ws ++ keyword (codes "Pair") w ∷ marked mark.OpenBracket o ∷ (type_words t ++ marked mark.Comma c ∷ []))

-- ---- causes

-- One of the tokens has that span, and stands so between those before it and those behind it.
abbrev pub Points : (Words → Token → Words → Type 0) → Words → Span → Type 0
Points P ts s = (before : Words) × (t : Token) × (after : Words) × (ts ≡ before ++ t ∷ after) × (t.span ≡ s) × P before t after

-- a node with members and indices, or with operators of a rule, which is as deep as their number and its deepest part together
abbrev pub IsNode : ℕ → ℕ → ℕ → ℕ → Expr → Type 0
IsNode d zero m i x = IsPost (Tree d) m i x
IsNode d (suc k) m i x = IsRule (Tree d) (suc k) m i x

-- what stands in front of the last operator, member or index of a node, and its token
pub data Link : Expr → Words → Token → Type 0 where
  by_member : (x : Expr) (dot : Span) (n : Ident) → Link (e.Member x dot n) (words x) (marked mark.Dot dot)
  by_index : (x : Expr) (o : Span) (i : Expr) (c : Span) → Link (e.Index x o i c) (words x) (marked mark.OpenBracket o)
  by_operator : (l : Expr) (o : BinaryOperator) (s : Span) (x : Expr) → Link (e.Binary l o s x) (words l) (marked (binary_mark o) s)

-- Behind these tokens an expression stands, and as many constructs are open there as the limit says, or more.
abbrev pub AtLimit : ℕ → (Part → Words → Type 0) → Words → Type 0
AtLimit limit Root before = (n : ℕ) × Open Root an_operand n before × (limit ≤ n)

-- This token is the last operator, member or index of a node that is, with what is open in front of it, deeper than it may be.
pub record IsTooDeep (limit : ℕ) (Root : Part → Words → Type 0) (before : Words) (t : Token) (after : Words) : Type 0 where
  pub front : Words
  pub open_ : ℕ
  pub level : ℕ
  pub stands : Open Root (a_rule level) open_ front
  pub node : Expr
  pub within : ℕ
  pub links : ℕ
  pub inside : ℕ
  pub is : IsNode within level links inside node
  pub left : Words
  pub link : Link node left t
  pub rest : Words
  pub placed : before ≡ front ++ left
  pub spelled : left ++ t ∷ after ≡ words node ++ rest
  pub deep : limit < open_ + (links + inside)

-- 111 where an expression is deeper than that limit, or a form of that code where one stands
abbrev pub ExprCause : ℕ → (Part → Words → Type 0) → ℕ → Words → Token → Words → Type 0
ExprCause limit Root c before t after =
    ((c ≡ 111) × (AtLimit limit Root before ⊎ IsTooDeep limit Root before t after))
    ⊎ ((n : ℕ) × Open Root an_operand n before × (expr_form c t.kind after ≡ true))

-- 111 where a type stands and as many are open as may be, or a form of that code where a type stands
abbrev pub TypeCause : (Words → Type 0) → ℕ → Words → Token → Words → Type 0
TypeCause Root c before t after = ((c ≡ 111) × OpenType Root max_type_depth before) ⊎ ((n : ℕ) × OpenType Root n before × (type_form c t.kind ≡ true))
