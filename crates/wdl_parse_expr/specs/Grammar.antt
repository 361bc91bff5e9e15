-- Which trees are derivations of the grammar of expressions, and how deep they are.
use Rattle.std.specs.Prelude.{◌≡◌, ℕ, ℤ, zero, suc, ◌+◌, ◌≤◌, max, Bool, true, false, List, [], ◌∷◌, Option, Some, None, is_none}
use Rattle.wdl_base.specs.declared.span.Span.{Span}
use Rattle.wdl_base.specs.Names.{is_name}
use Rattle.wdl_ast.specs.declared.token.Quote.{Quote}
use Rattle.wdl_ast.specs.declared.leaf.Ident.{Ident}
use Rattle.wdl_ast.specs.declared.leaf.ListItem.{ListItem}
use Rattle.wdl_ast.specs.declared.string.StringPart.{StringPart}
use Rattle.wdl_ast.specs.declared.string.StringPart.TheVariants as part
use Rattle.wdl_ast.specs.declared.expr.BinaryOperator.{BinaryOperator}
use Rattle.wdl_ast.specs.declared.expr.UnaryOperator.{UnaryOperator}
use Rattle.wdl_ast.specs.declared.expr.MapEntry.{MapEntry}
use Rattle.wdl_ast.specs.declared.expr.MemberEntry.{MemberEntry}
use Rattle.wdl_ast.specs.declared.expr.Expr.{Expr, Expr-F, fold-Expr}
use Rattle.wdl_ast.specs.declared.expr.Expr.TheOpen as layer
use Rattle.wdl_ast.specs.declared.expr.Expr.TheVariants as e
use Rattle.token_reading.specs.declared.tall.Rule.{Rule}
use Rattle.token_reading.specs.declared.tall.Rule.TheVariants as rule
use Rattle.token_reading.specs.Forms.{left_out}
use Rattle.token_reading.specs.Operators.{looseness}

-- ---- lists that commas separate

-- only the last may lack its comma
abbrev pub CommaFits : {E : Type 0} → Option Span → List (ListItem E) → Type 0
CommaFits (Some s) more = Unit {0}
CommaFits None more = more ≡ []

-- the last has none
abbrev pub ends_bare : {E : Type 0} → List (ListItem E) → Bool
ends_bare [] = true
ends_bare (x ∷ []) = is_none x.comma
ends_bare (x ∷ y ∷ more) = ends_bare (y ∷ more)

-- Each element is a P of some depth; together with what came before, of the first depth, the deepest has the second.
abbrev pub Listed : {E : Type 0} → (ℕ → E → Type 0) → List (ListItem E) → ℕ → ℕ → Type 0
Listed P [] i n = n ≡ i
Listed P (x ∷ more) i n = (a : ℕ) × P a x.item × CommaFits x.comma more × Listed P more (max i a) n

-- ---- choices

abbrev pub last_step : Expr-F Bool → Bool
last_step (layer.If i c t a e r) = true
last_step (layer.Binary l o s r) = r
last_step (layer.Unary o s x) = x
last_step _ = false

-- Whether the last operand is an `if`. What stands behind its `else` takes all that goes on, so such an expression is no left operand.
unfoldable pub ends_in_choice : Expr → Bool
ends_in_choice = fold-Expr Bool last_step

-- ---- expressions

-- In says which trees are derivations of a rule, and of which depth, one level deeper in brackets, placeholders, `if` or signs.
module _ (In : Rule → ℕ → Expr → Type 0) where
  abbrev pub IsEntry : ℕ → MapEntry Expr → Type 0
  IsEntry n m = (a b : ℕ) × In rule.Expr a m.key × In rule.Expr b m.value × (n ≡ max a b)

  abbrev pub IsMember : ℕ → MemberEntry Expr → Type 0
  IsMember n m = (is_name m.name.name ≡ true) × In rule.Expr n m.value

  -- the parts of a string or a command; the depths as in Listed
  abbrev pub Parts : List (StringPart Expr) → ℕ → ℕ → Type 0
  Parts [] i n = n ≡ i
  Parts (part.Chars c ∷ more) i n = Parts more i n
  Parts (part.Placeholder h ∷ more) i n = (a : ℕ) × In rule.Expr a h.expr × Parts more (max i a) n

  pub data IsPrimary : ℕ → Expr → Type 0 where
    yes_ : (s : Span) → IsPrimary 1 (e.True s)
    no_ : (s : Span) → IsPrimary 1 (e.False s)
    none : (s : Span) → IsPrimary 1 (e.None s)
    int : (v : ℤ) (s : Span) → IsPrimary 1 (e.Int v s)
    str : (q : Quote) (o : Span) (ps : List (StringPart Expr)) (c : Span) (n : ℕ) → Parts ps 0 n → IsPrimary (suc n) (e.Str (record { quote = q; opening = o; parts = ps; closing = c }))
    name : (n : Ident) → is_name n.name ≡ true → IsPrimary 1 (e.Name n)
    call : (n : Ident) (o : Span) (its : List (ListItem Expr)) (c : Span) (d : ℕ) → is_name n.name ≡ true → left_out n.name ≡ None → Listed (In rule.Expr) its 0 d → ends_bare its ≡ true → IsPrimary (suc d) (e.Call n o its c)
    group : (o : Span) (x : Expr) (c : Span) (n : ℕ) → In rule.Expr n x → IsPrimary (suc n) (e.Group o x c)
    pair : (o : Span) (l : Expr) (k : Span) (r : Expr) (c : Span) (a b : ℕ) → In rule.Expr a l → In rule.Expr b r → IsPrimary (suc (max a b)) (e.Pair o l k r c)
    list : (o : Span) (its : List (ListItem Expr)) (c : Span) (n : ℕ) → Listed (In rule.Expr) its 0 n → IsPrimary (suc n) (e.List o its c)
    map : (o : Span) (es : List (ListItem (MapEntry Expr))) (c : Span) (n : ℕ) → Listed IsEntry es 0 n → IsPrimary (suc n) (e.Map o es c)
    struct_ : (n : Ident) (o : Span) (ms : List (ListItem (MemberEntry Expr))) (c : Span) (d : ℕ) → is_name n.name ≡ true → Listed IsMember ms 0 d → IsPrimary (suc d) (e.Struct n o ms c)

  -- a primary with members and indices: how many, and the depth of its deepest part
  pub data IsPost : ℕ → ℕ → Expr → Type 0 where
    primary : (n : ℕ) (x : Expr) → IsPrimary n x → IsPost 0 n x
    member : (m i : ℕ) (x : Expr) (dot : Span) (n : Ident) → is_name n.name ≡ true → IsPost m i x → IsPost (suc m) i (e.Member x dot n)
    index : (m i a : ℕ) (x : Expr) (o : Span) (y : Expr) (c : Span) → IsPost m i x → In rule.Expr a y → IsPost (suc m) (max i a) (e.Index x o y c)

  pub data IsUnary : ℕ → Expr → Type 0 where
    post : (m i : ℕ) (x : Expr) → IsPost m i x → IsUnary (m + i) x
    signed : (n : ℕ) (o : UnaryOperator) (s : Span) (x : Expr) → In rule.Unary n x → IsUnary (suc n) (e.Unary o s x)
    choice : (i : Span) (c : Expr) (t : Span) (a : Expr) (s : Span) (r : Expr) (p q w : ℕ) → In rule.Expr p c → In rule.Expr q a → In rule.Expr w r → IsUnary (suc (max (max p q) w)) (e.If i c t a s r)

  -- Operands with operators that bind so loosely: how many, and the depth of the deepest operand. Rule 0 is a unary expression, 1 a product, 2 a sum,
  -- 3 an order, 4 an equality, 5 a conjunction, 6 a disjunction.
  pub data IsRule : ℕ → ℕ → ℕ → Expr → Type 0 where
    unary : (n : ℕ) (x : Expr) → IsUnary n x → IsRule 0 0 n x
    tighter : (k m i : ℕ) (x : Expr) → IsRule k m i x → IsRule (suc k) 0 (m + i) x
    binary : (k m i p j : ℕ) (l : Expr) (o : BinaryOperator) (s : Span) (r : Expr) → looseness o ≡ k → ends_in_choice l ≡ false → IsRule (suc k) m i l → IsRule k p j r
        → IsRule (suc k) (suc m) (max i (p + j)) (e.Binary l o s r)

  pub data IsWhole : ℕ → Expr → Type 0 where
    or : (m i : ℕ) (x : Expr) → IsRule 6 m i x → IsWhole (m + i) x

  abbrev pub IsOf : Rule → ℕ → Expr → Type 0
  IsOf rule.Unary n x = IsUnary n x
  IsOf rule.Expr n x = IsWhole n x

-- a derivation of the rule that is n deep, where n is at most d
abbrev pub Tree : ℕ → Rule → ℕ → Expr → Type 0
Tree zero k n x = ⊥
Tree (suc d) k n x = IsOf (Tree d) k n x × (n ≤ suc d)

abbrev pub max_depth : ℕ
max_depth = 64

-- an expression whose depth is within the limit, without a form that is left out
abbrev pub IsExpr : Expr → Type 0
IsExpr x = (n : ℕ) × Tree max_depth rule.Expr n x

-- the parts of a command, the expressions in its placeholders within the limit
abbrev pub AreParts : List (StringPart Expr) → Type 0
AreParts ps = (n : ℕ) × Parts (Tree max_depth) ps 0 n
