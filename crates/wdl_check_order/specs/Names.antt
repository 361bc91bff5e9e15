-- The names that a written expression refers to.
use Rattle.std.specs.Prelude.{ℕ, List, [], ◌∷◌, ◌++◌}
use Rattle.wdl_ast.specs.declared.expr.Expr.{Expr, Expr-F, fold-Expr}
use Rattle.wdl_ast.specs.declared.expr.Expr.TheOpen as layer
use Rattle.wdl_ast.specs.declared.expr.MapEntry.{MapEntry}
use Rattle.wdl_ast.specs.declared.expr.MemberEntry.{MemberEntry}
use Rattle.wdl_ast.specs.declared.leaf.ListItem.{ListItem}
use Rattle.wdl_ast.specs.declared.string.StringPart.{StringPart}
use Rattle.wdl_ast.specs.declared.string.StringPart.TheVariants as part

abbrev pub Words : Type 0
Words = List (List ℕ)

abbrev pub item_names : {E : Type 0} → (E → Words) → List (ListItem E) → Words
item_names f [] = []
item_names f (i ∷ is) = f i.item ++ item_names f is

abbrev pub entry_names : {E : Type 0} → (E → Words) → List (ListItem (MapEntry E)) → Words
entry_names f [] = []
entry_names f (i ∷ is) = f i.item.key ++ (f i.item.value ++ entry_names f is)

abbrev pub member_names : {E : Type 0} → (E → Words) → List (ListItem (MemberEntry E)) → Words
member_names f [] = []
member_names f (i ∷ is) = f i.item.value ++ member_names f is

abbrev pub part_names : {E : Type 0} → (E → Words) → List (StringPart E) → Words
part_names f [] = []
part_names f (part.Chars c ∷ ps) = part_names f ps
part_names f (part.Placeholder h ∷ ps) = f h.expr ++ part_names f ps

abbrev pub same : Words → Words
same ws = ws

abbrev pub names_step : Expr-F Words → Words
names_step (layer.If i c t a e r) = c ++ (a ++ r)
names_step (layer.Binary l o s r) = l ++ r
names_step (layer.Unary o s x) = x
names_step (layer.Member x d n) = x
names_step (layer.Index x o i c) = x ++ i
names_step (layer.True s) = []
names_step (layer.False s) = []
names_step (layer.None s) = []
names_step (layer.Int n s) = []
names_step (layer.Str s) = part_names same s.parts
names_step (layer.Name n) = n.name ∷ []
names_step (layer.Call n o items c) = item_names same items
names_step (layer.Group o x c) = x
names_step (layer.Pair o l m r c) = l ++ r
names_step (layer.List o items c) = item_names same items
names_step (layer.Map o entries c) = entry_names same entries
names_step (layer.Struct n o members c) = member_names same members

-- the names, from left to right; `call.output` refers to the call
unfoldable pub names_of : Expr → Words
names_of = fold-Expr Words names_step
