-- Each typing is well typed: by induction over the expression.
use Rattle.std.proofs.Common.{◌≡◌, ℕ, Bool, true, List, [], ◌∷◌, Option, Some, None, option_map, option_and_then, refl, ap, sym, ◌∙◌, subst}
use Rattle.std.proofs.lemmas.Option.{same_Some}
use Rattle.wdl_base.specs.declared.span.Span.{Span}
use Rattle.wdl_value.specs.declared.ty.Ty.{Ty}
use Rattle.wdl_ast.specs.declared.expr.Expr.{Expr, Expr-F, roll-Expr, map-Expr, ind-Expr, para-roll-Expr}
use Rattle.wdl_ast.specs.declared.expr.Expr.TheOpen as layer
use Rattle.wdl_ast.specs.declared.expr.Expr.TheShapes.{former-Expr-Str-0, former-Expr-Call-2, former-Expr-Map-1, former-Expr-Struct-2}
use Rattle.wdl_ast.specs.declared.expr.MapEntry.{MapEntry}
use Rattle.wdl_ast.specs.declared.expr.MemberEntry.{MemberEntry}
use Rattle.wdl_ast.specs.declared.leaf.ListItem.{ListItem}
use Rattle.wdl_ast.specs.declared.string.StringPart.{StringPart}
use Rattle.wdl_ast.specs.declared.string.StringPart.TheVariants as part
use Rattle.wdl_ast.specs.declared.string.StringTree.{StringTree}
use Rattle.wdl_ast.specs.declared.token.Quote.{Quote}
use Rattle.wdl_typed.specs.declared.expr.TExpr.{TExpr}
use Rattle.wdl_typed.specs.declared.expr.TPair.{TPair}
use Rattle.wdl_typed.specs.declared.expr.TPart.{TPart}
use Rattle.wdl_typed.specs.declared.expr.TPart.TheVariants as tp
use Rattle.wdl_typed.specs.Typing.{type_of}
use Rattle.wdl_check_rules.specs.Scopes.{Scope}
use Rattle.wdl_check_rules.specs.declared.literal_members.MemberValue.{MemberValue}
use Rattle.wdl_check_rules.specs.declared.typed.Typed.{Typed}
use Rattle.wdl_check_rules.specs.Functions.{func_of}
use Rattle.wdl_check_rules.specs.Locals.{struct_named}
use Rattle.wdl_check_laws.specs.Laws.{context, WellTyped, WellCast}
use Rattle.wdl_check_rules.specs.Rules.{key_of, output_named, or_else, member_of, item_of, unary_of, binary_of, condition_of, choose_of, list_of, map_of, pair_of, choice_of, hole_of, plain_text, strung, coerced}
use Rattle.wdl_check_rules.specs.Spans.{name_of, span_of}
use Rattle.wdl_check_rules.specs.Typed.{Typing, Part, both, idents, items_typed, entries_typed, members_typed, parts_typed, string_typed, row, given, typed_step, typed_at}
use Rattle.wdl_check_rules.proofs.FindLemmas.{named_members}
use Rattle.wdl_check_laws.proofs.TreeLaws.{Each, Has, Fine, HasRow, HasGiven, PartFine, some_fine, and_fine, bool_has, absent_has, str_has, int_fine, named_fine, output_fine, member_fine, item_fine, unary_fine, binary_fine, choose_fine, pair_has, list_fine, map_fine, call_fine, struct_fine, hole_fine, strung_has, both_fine, coerced_has}
use Rattle.wdl_base.proofs.Options.{then_parts, map_parts}

both_some : {A B C : Type 0} (f : A → B → C) (o : Option A) (u : Option B) (c : C) → both (λ a b. Some (f a b)) o u ≡ Some c → (a : A) × (b : B) × (o ≡ Some a) × (u ≡ Some b) × (f a b ≡ c)
both_some f None u c h = cc
both_some f (Some a) None c h = cc
both_some f (Some a) (Some b) c h = (a, b, refl, refl, same_Some (f a b) c h)

row_some : (o u : Option Typed) (rest : Option (List (TPair Typed))) (c : List (TPair Typed)) → both (λ x y. option_map (λ rows. row x y ∷ rows) rest) o u ≡ Some c → (x : Typed) × (y : Typed) × (rows : List (TPair Typed)) × (o ≡ Some x) × (u ≡ Some y) × (rest ≡ Some rows) × (row x y ∷ rows ≡ c)
row_some None u rest c h = cc
row_some (Some x) None rest c h = cc
row_some (Some x) (Some y) None c h = cc
row_some (Some x) (Some y) (Some rows) c h = (x, y, rows, refl, refl, refl, same_Some (row x y ∷ rows) c h)

module _ (s : Scope) where
  abbrev Holds : Expr → Type 0
  Holds e = (p : Bool) → Fine s p (typed_at s e p)

  abbrev Known : Type 0
  Known = (e : Expr) × Holds e

  abbrev bare : Known → Expr
  bare k = k.0

  abbrev with_typing : Expr → Part Typing
  with_typing e = (e, typed_at s e)

  abbrev typing : Part Typing → Typing
  typing x = x.1

  abbrev place : Part Typing → Span
  place x = span_of x.0

  -- ---- lists of parts

  abbrev items : List (ListItem Known) → List (ListItem (Part Typing))
  items is = (former-Expr-Call-2).map Expr (Part Typing) with_typing ((former-Expr-Call-2).map Known Expr bare is)

  items_fine : (is : List (ListItem Known)) (p : Bool) (xs : List Typed) → items_typed typing (items is) p ≡ Some xs → Each (Has s p) xs
  items_fine [] p xs h = subst (λ (z : List Typed). Each (Has s p) z) (same_Some [] xs h) tt
  items_fine (i ∷ is) p xs h =
      let q = both_some (λ (x : Typed) (xs : List Typed). x ∷ xs) (typed_at s i.item.0 p) (items_typed typing (items is) p) xs h in
      subst (λ (z : List Typed). Each (Has s p) z) q.4 (i.item.1 p q.0 q.2, items_fine is p q.1 q.3)

  abbrev entries : List (ListItem (MapEntry Known)) → List (ListItem (MapEntry (Part Typing)))
  entries is = (former-Expr-Map-1).map Expr (Part Typing) with_typing ((former-Expr-Map-1).map Known Expr bare is)

  entries_fine : (is : List (ListItem (MapEntry Known))) (p : Bool) (rows : List (TPair Typed)) → entries_typed typing (entries is) p ≡ Some rows → Each (HasRow s p) rows
  entries_fine [] p rows h = subst (λ (z : List (TPair Typed)). Each (HasRow s p) z) (same_Some [] rows h) tt
  entries_fine (i ∷ is) p rows h =
      let q = row_some (typed_at s i.item.key.0 p) (typed_at s i.item.value.0 p) (entries_typed typing (entries is) p) rows h in
      subst (λ (z : List (TPair Typed)). Each (HasRow s p) z) q.6 ((i.item.key.1 p q.0 q.3, i.item.value.1 p q.1 q.4), entries_fine is p q.2 q.5)

  abbrev members : List (ListItem (MemberEntry Known)) → List (ListItem (MemberEntry (Part Typing)))
  members is = (former-Expr-Struct-2).map Expr (Part Typing) with_typing ((former-Expr-Struct-2).map Known Expr bare is)

  members_fine : (is : List (ListItem (MemberEntry Known))) (p : Bool) (gs : List MemberValue) → members_typed place typing (members is) p ≡ Some gs → Each (HasGiven s p) gs
  members_fine [] p gs h = subst (λ (z : List MemberValue). Each (HasGiven s p) z) (same_Some [] gs h) tt
  members_fine (i ∷ is) p gs h =
      let q = both_some (λ (x : Typed) (gs : List MemberValue). given i.item.name.name (span_of i.item.value.0) x ∷ gs) (typed_at s i.item.value.0 p) (members_typed place typing (members is) p) gs h in
      subst (λ (z : List MemberValue). Each (HasGiven s p) z) q.4 (i.item.value.1 p q.0 q.2, members_fine is p q.1 q.3)

  abbrev string : StringTree Known → StringTree (Part Typing)
  string t = (former-Expr-Str-0).map Expr (Part Typing) with_typing ((former-Expr-Str-0).map Known Expr bare t)

  abbrev tree : Quote → Span → Span → List (StringPart Known) → StringTree Known
  tree q o c ps = record { quote = q; opening = o; parts = ps; closing = c }

  parts_fine : (q : Quote) (o c : Span) (ps : List (StringPart Known)) (qs : List (TPart TExpr)) (p : Bool) → parts_typed typing (string (tree q o c ps)).parts ≡ Some qs → Each (PartFine s p) qs
  parts_fine q o c [] qs p h = subst (λ (z : List (TPart TExpr)). Each (PartFine s p) z) (same_Some [] qs h) tt
  parts_fine q o c (part.Chars k ∷ ps) qs p h =
      let r = map_parts (λ (more : List (TPart TExpr)). tp.Chars k.text ∷ more) (parts_typed typing (string (tree q o c ps)).parts) qs h in
      subst (λ (z : List (TPart TExpr)). Each (PartFine s p) z) r.2 (tt, parts_fine q o c ps r.0 p r.1)
  parts_fine q o c (part.Placeholder k ∷ ps) qs p h =
      let r = both_some (λ (i : TPart TExpr) (more : List (TPart TExpr)). i ∷ more) (option_and_then (hole_of (choice_of k.options)) (typed_at s k.expr.0 true)) (parts_typed typing (string (tree q o c ps)).parts) qs h in
      let w = then_parts (hole_of (choice_of k.options)) (typed_at s k.expr.0 true) r.0 r.2 in
      subst (λ (z : List (TPart TExpr)). Each (PartFine s p) z) r.4 (hole_fine s p (choice_of k.options) w.0 r.0 (k.expr.1 true w.0 w.1) w.2, parts_fine q o c ps r.1 p r.3)

  -- ---- forms

  string_fine : (t : StringTree Known) (p : Bool) → Fine s p (string_typed (plain_text (string t).parts) typing (string t).parts)
  string_fine t p x e = by_text (plain_text (string t).parts) e
    where
      by_text : (z : Option (List ℕ)) → string_typed z typing (string t).parts ≡ Some x → Has s p x
      by_text (Some text) e = some_fine s p _ (str_has s p text) x e
      by_text None e =
          let r = map_parts strung (parts_typed typing (string t).parts) x e in
          subst (λ (z : Typed). Has s p z) r.2 (strung_has s p r.0 (parts_fine t.quote t.opening t.closing t.parts r.0 p r.1))

  if_fine : (p : Bool) (c a r : Option Typed) → Fine s p c → Fine s p a → Fine s p r → Fine s p (option_and_then (λ b. both (choose_of b) a r) (option_and_then condition_of c))
  if_fine p None a r g h k x e = cc
  if_fine p (Some c) a r g h k x e =
      let q = then_parts (λ b. both (choose_of b) a r) (condition_of c) x e in
      both_fine s p (choose_of q.0) a r h k (λ y z. choose_fine s p c y z q.0 q.1 (g c refl)) x q.2

  member_or : (p : Bool) (o : Option (List ℕ)) (m : List ℕ) (t : Option Typed) → Fine s p t → Fine s p (or_else (output_named s.names o m) (option_and_then (member_of s.structs m) t))
  member_or p o m t h x e = by_name (output_named s.names o m) refl e
    where
      by_name : (q : Option Typed) → output_named s.names o m ≡ q → or_else q (option_and_then (member_of s.structs m) t) ≡ Some x → Has s p x
      by_name (Some y) i e = output_fine s p o m x (i ∙ e)
      by_name None i e = and_fine s p (member_of s.structs m) t h (member_fine s p m) x e

  list_or : (p : Bool) (o : Option (List Typed)) → ((xs : List Typed) → o ≡ Some xs → Each (Has s p) xs) → Fine s p (option_and_then list_of o)
  list_or p None h x e = cc
  list_or p (Some xs) h x e = list_fine s p xs (h xs refl) x e

  map_or : (p : Bool) (o : Option (List (TPair Typed))) → ((rows : List (TPair Typed)) → o ≡ Some rows → Each (HasRow s p) rows) → Fine s p (option_and_then map_of o)
  map_or p None h x e = cc
  map_or p (Some rows) h x e = map_fine s p rows (h rows refl) x e

  layer_fine : (y : Expr-F Known) (p : Bool) → Fine s p (typed_step s (map-Expr Expr (Part Typing) with_typing (map-Expr Known Expr bare y)) p)
  layer_fine (layer.If i c t a w r) p = if_fine p (typed_at s c.0 p) (typed_at s a.0 p) (typed_at s r.0 p) (c.1 p) (a.1 p) (r.1 p)
  layer_fine (layer.Binary l o sign r) p = both_fine s p (binary_of o p) (typed_at s l.0 p) (typed_at s r.0 p) (l.1 p) (r.1 p) (binary_fine s p o)
  layer_fine (layer.Unary o sign x) p = and_fine s p (unary_of o) (typed_at s x.0 p) (x.1 p) (unary_fine s p o)
  layer_fine (layer.Member x dot n) p = member_or p (name_of x.0) n.name (typed_at s x.0 p) (x.1 p)
  layer_fine (layer.Index x o i c) p = both_fine s p item_of (typed_at s x.0 p) (typed_at s i.0 p) (x.1 p) (i.1 p) (item_fine s p)
  layer_fine (layer.True at) p = some_fine s p _ (bool_has s p true)
  layer_fine (layer.False at) p = some_fine s p _ (bool_has s p _)
  layer_fine (layer.None at) p = some_fine s p _ (absent_has s p)
  layer_fine (layer.Int n at) p = int_fine s p n
  layer_fine (layer.Str t) p = string_fine t p
  layer_fine (layer.Name n) p = named_fine s p (key_of n.name None)
  layer_fine (layer.Call n o is c) p = call_fine s p (func_of n.name) (items_typed typing (items is) p) (items_fine is p)
  layer_fine (layer.Group o x c) p = x.1 p
  layer_fine (layer.Pair o l m r c) p = both_fine s p (λ x y. Some (pair_of x y)) (typed_at s l.0 p) (typed_at s r.0 p) (l.1 p) (r.1 p) (λ y z h k. some_fine s p (pair_of y z) (pair_has s p y z h k))
  layer_fine (layer.List o is c) p = list_or p (items_typed typing (items is) p) (items_fine is p)
  layer_fine (layer.Map o es c) p = map_or p (entries_typed typing (entries es) p) (entries_fine es p)
  layer_fine (layer.Struct n o ms c) p =
      struct_fine s p (struct_named s.structs s.locals n.name) (idents (members ms)) (members_typed place typing (members ms) p) (named_members s.structs s.locals n.name) (members_fine ms p)

  typed_roll : (x : Expr-F Expr) (p : Bool) → typed_at s (roll-Expr x) p ≡ typed_step s (map-Expr Expr (Part Typing) with_typing x) p
  unfolding typed_at
  typed_roll x p = ap (λ (f : Typing). f p) (para-roll-Expr Typing (typed_step s) x)

  all_fine : (e : Expr) → Holds e
  all_fine = ind-Expr Holds (λ x y is. subst (λ (z : Expr-F Expr). Holds (roll-Expr z)) is (λ p.
      subst (λ (o : Option Typed). Fine s p o) (sym (typed_roll (map-Expr Known Expr bare y) p)) (layer_fine y p)))

  cast_fine : (p : Bool) (o : Option Typed) (t : Ty) (x : TExpr) → Fine s p o → option_and_then (λ y. coerced y t) o ≡ Some x → type_of (context s) x p ≡ Some t
  cast_fine p None t x h e = cc
  cast_fine p (Some y) t x h e = coerced_has s p y t x (h y refl) e

pub well_typed : WellTyped
well_typed s e p = all_fine s e p

pub well_cast : WellCast
well_cast s e t x h = cast_fine s s.placeholder (typed_at s e s.placeholder) t x (all_fine s e s.placeholder) h
