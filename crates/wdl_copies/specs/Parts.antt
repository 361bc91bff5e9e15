-- Lists of parts of expressions, with something else in the place of each expression.
use Rattle.std.specs.Prelude.{List, [], ◌∷◌}
use Rattle.wdl_ast.specs.declared.expr.MapEntry.{MapEntry}
use Rattle.wdl_ast.specs.declared.expr.MemberEntry.{MemberEntry}
use Rattle.wdl_ast.specs.declared.leaf.ListItem.{ListItem}
use Rattle.wdl_ast.specs.declared.string.Placeholder.{Placeholder}
use Rattle.wdl_ast.specs.declared.string.StringPart.{StringPart}
use Rattle.wdl_ast.specs.declared.string.StringPart.TheVariants as part

abbrev pub items_with : {D E : Type 0} → (D → E) → List (ListItem D) → List (ListItem E)
items_with f [] = []
items_with f (i ∷ is) = record { item = f i.item; comma = i.comma } ∷ items_with f is

abbrev pub entry_with : {D E : Type 0} → (D → E) → MapEntry D → MapEntry E
entry_with f e = record { key = f e.key; colon = e.colon; value = f e.value }

abbrev pub entries_with : {D E : Type 0} → (D → E) → List (ListItem (MapEntry D)) → List (ListItem (MapEntry E))
entries_with f [] = []
entries_with f (i ∷ is) = record { item = entry_with f i.item; comma = i.comma } ∷ entries_with f is

abbrev pub member_with : {D E : Type 0} → (D → E) → MemberEntry D → MemberEntry E
member_with f m = record { name = m.name; colon = m.colon; value = f m.value }

abbrev pub members_with : {D E : Type 0} → (D → E) → List (ListItem (MemberEntry D)) → List (ListItem (MemberEntry E))
members_with f [] = []
members_with f (i ∷ is) = record { item = member_with f i.item; comma = i.comma } ∷ members_with f is

abbrev pub hole_with : {D E : Type 0} → (D → E) → Placeholder D → Placeholder E
hole_with f h = record { mark = h.mark; opening = h.opening; options = h.options; expr = f h.expr; closing = h.closing }

abbrev pub parts_with : {D E : Type 0} → (D → E) → List (StringPart D) → List (StringPart E)
parts_with f [] = []
parts_with f (part.Chars c ∷ ps) = part.Chars c ∷ parts_with f ps
parts_with f (part.Placeholder h ∷ ps) = part.Placeholder (hole_with f h) ∷ parts_with f ps
