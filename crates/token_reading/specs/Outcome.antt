-- What reading at the front of a list of tokens gives: a tree and the tokens behind it, or a refusal.
use Rattle.std.specs.Prelude.{◌≡◌, ℕ, suc, ◌+◌, Bool, true, false, if◌then◌else◌, nat_le, List, [], ◌∷◌, Option, Some, None, Result, Ok, Err}
use denote.Enum.Bare.{sameb}
use Rattle.std.specs.Str.{bytes_eq}
use Rattle.wdl_base.specs.declared.span.Span.{Span}
use Rattle.wdl_base.specs.Names.{is_name}
use Rattle.wdl_ast.specs.contracts.token.Mark.{the_type}
use Rattle.wdl_ast.specs.declared.token.Mark.{Mark}
use Rattle.wdl_ast.specs.declared.token.Kind.{Kind}
use Rattle.wdl_ast.specs.declared.token.Kind.TheVariants as kind
use Rattle.wdl_ast.specs.declared.leaf.Ident.{Ident}
use Rattle.wdl_ast.specs.declared.expr.Expr.{Expr}
use Rattle.wdl_ast.specs.Words.{Words}
use Rattle.token_reading.specs.declared.fault.Refusal.{Refusal}
use Rattle.token_reading.specs.declared.fault.Refusal.TheVariants.{Missing, Bad}
use Rattle.token_reading.specs.declared.fault.RuleStop.{RuleStop}
use Rattle.token_reading.specs.declared.fault.RuleStop.TheVariants.{NoMemory, Refused}
use Rattle.token_reading.specs.declared.tall.Tall.{Tall}
use Rattle.token_reading.specs.declared.tall.Chain.{Chain}

abbrev pub Outcome : Type 0 → Type 0
Outcome A = Result (A × Words) Refusal

abbrev pub Parser : Type 0 → Type 0
Parser A = Words → Outcome A

abbrev pub missing : {A : Type 0} → Outcome A
missing = Err Missing

abbrev pub bad : {A : Type 0} → ℕ → Span → Outcome A
bad c s = Err (Bad (record { code = c; span = s }))

-- the limit of depth is met
abbrev pub too_deep : {A : Type 0} → Parser A
too_deep [] = missing
too_deep (t ∷ ts) = bad 111 t.span

-- goes on with what was read
unfoldable pub then_ : {A B : Type 0} → Outcome A → (A → Parser B) → Outcome B
then_ (Ok x) f = f x.0 x.1
then_ (Err s) f = Err s

-- goes on with what was read, or takes the other way where nothing was
unfoldable pub attempt : {A B : Type 0} → Outcome A → (A → Parser B) → Outcome B → Outcome B
attempt (Ok x) f other = f x.0 x.1
attempt (Err Missing) f other = other
attempt (Err (Bad f)) g other = Err (Bad f)

unfoldable pub found : {A B : Type 0} → Option (A × Words) → (A → Words → B) → B → B
found (Some x) f other = f x.0 x.1
found None f other = other

-- goes on with what may be there
abbrev pub one_more : {A B : Type 0} → Option A → (A → B) → B → B
one_more (Some x) f other = f x
one_more None f other = other

-- ---- the next token

-- `==` on marks
abbrev pub same_mark : Mark → Mark → Bool
same_mark = sameb the_type

abbrev pub is_mark : Mark → Kind → Bool
is_mark m (kind.Mark k) = same_mark k m
is_mark m _ = false

abbrev pub sees : Mark → Words → Bool
sees m [] = false
sees m (t ∷ ts) = is_mark m t.kind

abbrev pub is_word : List ℕ → Kind → Bool
is_word w (kind.Word v) = bytes_eq v w
is_word w _ = false

abbrev pub is_hole_close : Kind → Bool
is_hole_close kind.HoleClose = true
is_hole_close _ = false

abbrev pub is_str_close : Kind → Bool
is_str_close kind.StrClose = true
is_str_close _ = false

abbrev pub eat_if : (Kind → Bool) → Words → Option (Span × Words)
eat_if test [] = None
eat_if test (t ∷ ts) = if test t.kind then Some (t.span, ts) else None

abbrev pub eat : Mark → Words → Option (Span × Words)
eat m = eat_if (is_mark m)

abbrev pub eat_word : List ℕ → Words → Option (Span × Words)
eat_word w = eat_if (is_word w)

abbrev pub ident_of : Kind → Span → Words → Option (Ident × Words)
ident_of (kind.Word w) s ts = if is_name w then Some (record { name = w; span = s }, ts) else None
ident_of _ s ts = None

-- a name
abbrev pub ident_at : Words → Option (Ident × Words)
ident_at [] = None
ident_at (t ∷ ts) = ident_of t.kind t.span ts

abbrev pub span_at : Words → Option Span
span_at [] = None
span_at (t ∷ ts) = Some t.span

-- ---- depths

abbrev pub tall : {A : Type 0} → A → ℕ → Tall A
tall x n = record { tree = x; depth = n }

-- A node with so many links over parts of that depth, of which each link but the last counts once, and the node once. Parts may be as deep as
-- the first number; the span is that of the token that makes it too deep.
unfoldable pub grown : {A : Type 0} → ℕ → Span → ℕ → ℕ → A → Parser (Tall A)
grown depth s links inside x ts = if nat_le (links + inside) depth then Ok (tall x (suc (links + inside)), ts) else bad 111 s

-- one more link
unfoldable pub linked : ℕ → Span → ℕ → ℕ → Expr → Parser Chain
linked depth s links inside x ts = if nat_le (links + inside) depth then Ok (record { left = tall x (suc (links + inside)); links = suc links; inside = inside }, ts) else bad 111 s

-- ---- what a function that reads ensures: what reading gives, unless memory runs out

abbrev pub Fails : {A : Type 0} → Outcome A → RuleStop → Type 0
Fails outcome NoMemory = Unit {0}
Fails outcome (Refused f) = outcome ≡ Err f

abbrev pub Reads : {A : Type 0} → Outcome A → Result A RuleStop → Words → Type 0
Reads outcome (Ok a) new = outcome ≡ Ok (a, new)
Reads outcome (Err s) new = Fails outcome s
