-- What the checker finds is what `typed` and `conditions` say: by induction over the expression.
use Rattle.std.proofs.Common.{◌≡◌, ℕ, Bool, true, List, [], ◌∷◌, ◌++◌, Option, Some, None, Ok, option_map, option_and_then, refl, ap, sym, ◌∙◌, subst}
use Rattle.wdl_base.specs.declared.span.Span.{Span}
use Rattle.wdl_ast.specs.declared.expr.Expr.{Expr, Expr-F, out-Expr, roll-Expr, roll-out-Expr, map-Expr, ind-Expr, para-roll-Expr}
use Rattle.wdl_ast.specs.declared.expr.Expr.TheOpen as layer
use Rattle.wdl_ast.specs.declared.expr.Expr.TheShapes.{former-Expr-Str-0, former-Expr-Call-2, former-Expr-Map-1, former-Expr-Struct-2}
use Rattle.wdl_ast.specs.declared.expr.MapEntry.{MapEntry}
use Rattle.wdl_ast.specs.declared.expr.MemberEntry.{MemberEntry}
use Rattle.wdl_ast.specs.declared.leaf.Ident.{Ident}
use Rattle.wdl_ast.specs.declared.leaf.ListItem.{ListItem}
use Rattle.wdl_ast.specs.declared.string.StringPart.{StringPart}
use Rattle.wdl_ast.specs.declared.string.StringPart.TheVariants as part
use Rattle.wdl_ast.specs.declared.string.StringTree.{StringTree}
use Rattle.wdl_ast.specs.declared.token.Quote.{Quote}
use Rattle.wdl_typed.specs.declared.expr.TExpr.{TExpr}
use Rattle.wdl_typed.specs.declared.expr.TPair.{TPair}
use Rattle.wdl_typed.specs.declared.expr.TPart.{TPart}
use Rattle.wdl_typed.specs.declared.expr.TPart.TheVariants as tp
use Rattle.wdl_check_rules.specs.declared.literal_members.MemberValue.{MemberValue}
use Rattle.wdl_check_rules.specs.Scopes.{Scope}
use Rattle.wdl_check_rules.specs.declared.typed.Typed.{Typed}
use Rattle.wdl_check_rules.specs.Checked.{Checked, Checking, checked, checked_step, then_, or_bad, items_checked, entries_checked, members_checked, parts_checked, list_checked, rows_checked, map_checked, string_checked, struct_checked, call_checked}
use Rattle.wdl_check_rules.specs.Conditions.{Conditions, function_conditions, argument_conditions, at, unless, given_that, is_call_alone, items_conditions, entries_conditions, members_conditions, parts_conditions, struct_conditions, map_conditions, conditions_step, conditions_at}
use Rattle.wdl_check_rules.specs.Functions.{func_of}
use Rattle.wdl_check_rules.specs.Locals.{struct_named}
use Rattle.wdl_check_rules.specs.Rules.{int_literal, named, key_of, output_named, item_of, unary_of, binary_of, list_of, map_of, pair_of, choice_of, hole_of, plain_text, strung}
use Rattle.wdl_check_rules.specs.Spans.{joined, name_at, name_of, span_of}
use Rattle.wdl_check_rules.specs.Typed.{Typing, Part, both, idents, items_typed, entries_typed, members_typed, parts_typed, string_typed, call_typed, struct_typed, row, given, typed_step, typed_at}
use Rattle.wdl_check_laws.proofs.Agreeing.{Agrees, then_agrees, or_bad_agrees, bind_agrees, two_agree, map_agrees, both_agree}
use Rattle.wdl_check_laws.proofs.FormsAgree.{name_agrees, member_agrees, alone_is_none, if_agrees, call_agrees, rows_agree, struct_agrees}

abbrev Conditioning : Type 0
Conditioning = Bool → Conditions

module _ (s : Scope) where
  abbrev Holds : Expr → Type 0
  Holds e = (p : Bool) → Agrees (checked s e p) (typed_at s e p) (conditions_at s e p)

  abbrev Known : Type 0
  Known = (e : Expr) × Holds e

  abbrev bare : Known → Expr
  bare k = k.0

  abbrev with_outcome : Expr → Part Checking
  with_outcome e = (e, checked s e)

  abbrev with_typing : Expr → Part Typing
  with_typing e = (e, typed_at s e)

  abbrev with_conditions : Expr → Part Conditioning
  with_conditions e = (e, conditions_at s e)

  -- ---- a name has the typing of its key

  typed_roll : (x : Expr-F Expr) (p : Bool) → typed_at s (roll-Expr x) p ≡ typed_step s (map-Expr Expr (Part Typing) with_typing x) p
  unfolding typed_at
  typed_roll x p = ap (λ (f : Typing). f p) (para-roll-Expr Typing (typed_step s) x)

  name_typed : (e : Expr) (x : List ℕ) (p : Bool) → name_of e ≡ Some x → typed_at s e p ≡ named s.names (key_of x None)
  name_typed e x p h = ap (λ (y : Expr). typed_at s y p) (sym (roll-out-Expr e)) ∙ by_layer (out-Expr e) h
    where
      by_layer : (y : Expr-F Expr) → name_at y ≡ Some x → typed_at s (roll-Expr y) p ≡ named s.names (key_of x None)
      by_layer (layer.Name n) h = typed_roll (layer.Name n) p ∙ ap (λ (z : Option (List ℕ)). named_some z) h
        where
          named_some : Option (List ℕ) → Option Typed
          named_some (Some z) = named s.names (key_of z None)
          named_some None = None
      by_layer y h = cc

  alone_has_none : (e : Expr) (p : Bool) → is_call_alone s.names s.calls (name_of e) ≡ true → typed_at s e p ≡ None
  alone_has_none e p h = by_name (name_of e) refl h
    where
      by_name : (o : Option (List ℕ)) → name_of e ≡ o → is_call_alone s.names s.calls o ≡ true → typed_at s e p ≡ None
      by_name None is h = cc
      by_name (Some x) is h = name_typed e x p is ∙ alone_is_none s.names s.calls x h

  -- ---- lists of parts; each part with its outcome, its typing or its conditions

  abbrev outcome : Part Checking → Checking
  outcome x = x.1

  abbrev typing : Part Typing → Typing
  typing x = x.1

  abbrev conditioned : Part Conditioning → Conditioning
  conditioned x = x.1

  abbrev typing_of : Part Conditioning → Typing
  typing_of x = typed_at s x.0

  abbrev outcome_place : Part Checking → Span
  outcome_place x = span_of x.0

  abbrev typing_place : Part Typing → Span
  typing_place x = span_of x.0

  abbrev condition_place : Part Conditioning → Span
  condition_place x = span_of x.0

  -- the items of a list
  abbrev Items : Type 0 → Type 0
  Items E = List (ListItem E)

  abbrev items : (A : Type 0) → (Expr → A) → Items Known → Items A
  items A f is = (former-Expr-Call-2).map Expr A f ((former-Expr-Call-2).map Known Expr bare is)

  items_agree : (is : Items Known) (p : Bool) → Agrees (items_checked outcome (items (Part Checking) with_outcome is) p) (items_typed typing (items (Part Typing) with_typing is) p) (items_conditions conditioned (items (Part Conditioning) with_conditions is) p)
  items_agree [] p = refl
  items_agree (i ∷ is) p =
      both_agree (checked s i.item.0 p) (items_checked outcome (items (Part Checking) with_outcome is) p) (typed_at s i.item.0 p) (items_typed typing (items (Part Typing) with_typing is) p) (conditions_at s i.item.0 p) (items_conditions conditioned (items (Part Conditioning) with_conditions is) p)
      (λ x xs. x ∷ xs) (i.item.1 p) (items_agree is p)

  items_same : (is : Items Known) (p : Bool) → items_typed typing (items (Part Typing) with_typing is) p ≡ items_typed typing_of (items (Part Conditioning) with_conditions is) p
  items_same [] p = refl
  items_same (i ∷ is) p = ap (λ (z : Option (List Typed)). both (λ x xs. Some (x ∷ xs)) (typed_at s i.item.0 p) z) (items_same is p)

  -- the entries of a map literal
  abbrev Entries : Type 0 → Type 0
  Entries E = List (ListItem (MapEntry E))

  abbrev entries : (A : Type 0) → (Expr → A) → Entries Known → Entries A
  entries A f is = (former-Expr-Map-1).map Expr A f ((former-Expr-Map-1).map Known Expr bare is)

  entries_agree : (is : Entries Known) (p : Bool) → Agrees (entries_checked outcome (entries (Part Checking) with_outcome is) p) (entries_typed typing (entries (Part Typing) with_typing is) p) (entries_conditions conditioned (entries (Part Conditioning) with_conditions is) p)
  entries_agree [] p = refl
  entries_agree (i ∷ is) p =
      then_agrees (checked s i.item.key.0 p) (typed_at s i.item.key.0 p) (conditions_at s i.item.key.0 p) (conditions_at s i.item.value.0 p ++ entries_conditions conditioned (entries (Part Conditioning) with_conditions is) p)
      (λ x. then_ (checked s i.item.value.0 p) (λ y. then_ (entries_checked outcome (entries (Part Checking) with_outcome is) p) (λ rows. Ok (row x y ∷ rows))))
      (λ x. option_and_then (λ y. option_map (λ rows. row x y ∷ rows) (entries_typed typing (entries (Part Typing) with_typing is) p)) (typed_at s i.item.value.0 p))
      (i.item.key.1 p)
      (λ x e. then_agrees (checked s i.item.value.0 p) (typed_at s i.item.value.0 p) (conditions_at s i.item.value.0 p) (entries_conditions conditioned (entries (Part Conditioning) with_conditions is) p)
      (λ y. then_ (entries_checked outcome (entries (Part Checking) with_outcome is) p) (λ rows. Ok (row x y ∷ rows)))
      (λ y. option_map (λ rows. row x y ∷ rows) (entries_typed typing (entries (Part Typing) with_typing is) p))
      (i.item.value.1 p)
      (λ y d. map_agrees (entries_checked outcome (entries (Part Checking) with_outcome is) p) (entries_typed typing (entries (Part Typing) with_typing is) p) (entries_conditions conditioned (entries (Part Conditioning) with_conditions is) p) (λ (rows : List (TPair Typed)). row x y ∷ rows) (entries_agree is p)))

  entries_same : (is : Entries Known) (p : Bool) → entries_typed typing (entries (Part Typing) with_typing is) p ≡ entries_typed typing_of (entries (Part Conditioning) with_conditions is) p
  entries_same [] p = refl
  entries_same (i ∷ is) p = ap (λ (z : Option (List (TPair Typed))). both (λ x y. option_map (λ rows. row x y ∷ rows) z) (typed_at s i.item.key.0 p) (typed_at s i.item.value.0 p)) (entries_same is p)

  -- the members of a struct literal
  abbrev Members : Type 0 → Type 0
  Members E = List (ListItem (MemberEntry E))

  abbrev members : (A : Type 0) → (Expr → A) → Members Known → Members A
  members A f is = (former-Expr-Struct-2).map Expr A f ((former-Expr-Struct-2).map Known Expr bare is)

  members_agree : (is : Members Known) (p : Bool) → Agrees (members_checked outcome_place outcome (members (Part Checking) with_outcome is) p) (members_typed typing_place typing (members (Part Typing) with_typing is) p) (members_conditions conditioned (members (Part Conditioning) with_conditions is) p)
  members_agree [] p = refl
  members_agree (i ∷ is) p =
      both_agree (checked s i.item.value.0 p) (members_checked outcome_place outcome (members (Part Checking) with_outcome is) p) (typed_at s i.item.value.0 p) (members_typed typing_place typing (members (Part Typing) with_typing is) p) (conditions_at s i.item.value.0 p) (members_conditions conditioned (members (Part Conditioning) with_conditions is) p)
      (λ x gs. given i.item.name.name (span_of i.item.value.0) x ∷ gs) (i.item.value.1 p) (members_agree is p)

  members_same : (is : Members Known) (p : Bool) → members_typed typing_place typing (members (Part Typing) with_typing is) p ≡ members_typed condition_place typing_of (members (Part Conditioning) with_conditions is) p
  members_same [] p = refl
  members_same (i ∷ is) p = ap (λ (z : Option (List MemberValue)). both (λ x gs. Some (given i.item.name.name (span_of i.item.value.0) x ∷ gs)) (typed_at s i.item.value.0 p) z) (members_same is p)

  names_same : (A B : Type 0) (f : Expr → A) (g : Expr → B) (is : Members Known) → idents (members A f is) ≡ idents (members B g is)
  names_same A B f g [] = refl
  names_same A B f g (i ∷ is) = ap (λ (z : List Ident). i.item.name ∷ z) (names_same A B f g is)

  -- the parts of a string
  abbrev string : (A : Type 0) → (Expr → A) → StringTree Known → StringTree A
  string A f t = (former-Expr-Str-0).map Expr A f ((former-Expr-Str-0).map Known Expr bare t)

  abbrev tree : Quote → Span → Span → List (StringPart Known) → StringTree Known
  tree q o c ps = record { quote = q; opening = o; parts = ps; closing = c }

  parts_agree : (q : Quote) (o c : Span) (ps : List (StringPart Known)) → Agrees (parts_checked outcome_place outcome (string (Part Checking) with_outcome (tree q o c ps)).parts) (parts_typed typing (string (Part Typing) with_typing (tree q o c ps)).parts) (parts_conditions condition_place typing_of conditioned (string (Part Conditioning) with_conditions (tree q o c ps)).parts)
  parts_agree q o c [] = refl
  parts_agree q o c (part.Chars k ∷ ps) =
      map_agrees (parts_checked outcome_place outcome (string (Part Checking) with_outcome (tree q o c ps)).parts) (parts_typed typing (string (Part Typing) with_typing (tree q o c ps)).parts) (parts_conditions condition_place typing_of conditioned (string (Part Conditioning) with_conditions (tree q o c ps)).parts)
      (λ (qs : List (TPart TExpr)). tp.Chars k.text ∷ qs) (parts_agree q o c ps)
  parts_agree q o c (part.Placeholder h ∷ ps) =
      both_agree (then_ (checked s h.expr.0 true) (λ x. or_bad 308 (span_of h.expr.0) (hole_of (choice_of h.options) x))) (parts_checked outcome_place outcome (string (Part Checking) with_outcome (tree q o c ps)).parts)
      (option_and_then (hole_of (choice_of h.options)) (typed_at s h.expr.0 true)) (parts_typed typing (string (Part Typing) with_typing (tree q o c ps)).parts)
      (conditions_at s h.expr.0 true ++ given_that (typed_at s h.expr.0 true) (λ x. unless (hole_of (choice_of h.options) x) (at 308 (span_of h.expr.0)))) (parts_conditions condition_place typing_of conditioned (string (Part Conditioning) with_conditions (tree q o c ps)).parts)
      (λ x qs. x ∷ qs)
      (bind_agrees (checked s h.expr.0 true) (typed_at s h.expr.0 true) (conditions_at s h.expr.0 true) (λ x. or_bad 308 (span_of h.expr.0) (hole_of (choice_of h.options) x)) (hole_of (choice_of h.options)) (λ x. unless (hole_of (choice_of h.options) x) (at 308 (span_of h.expr.0))) (h.expr.1 true) (λ x. or_bad_agrees 308 (span_of h.expr.0) (hole_of (choice_of h.options) x)))
      (parts_agree q o c ps)

  texts_same : (A B : Type 0) (f : Expr → A) (g : Expr → B) (q : Quote) (o c : Span) (ps : List (StringPart Known)) → plain_text (string A f (tree q o c ps)).parts ≡ plain_text (string B g (tree q o c ps)).parts
  texts_same A B f g q o c [] = refl
  texts_same A B f g q o c (part.Chars k ∷ ps) = ap (λ (z : Option (List ℕ)). option_map (λ t. k.text ++ t) z) (texts_same A B f g q o c ps)
  texts_same A B f g q o c (part.Placeholder h ∷ ps) = refl

  -- ---- forms

  string_agrees : (t : StringTree Known) → Agrees (string_checked (plain_text (string (Part Checking) with_outcome t).parts) outcome_place outcome (string (Part Checking) with_outcome t).parts) (string_typed (plain_text (string (Part Typing) with_typing t).parts) typing (string (Part Typing) with_typing t).parts) (parts_conditions condition_place typing_of conditioned (string (Part Conditioning) with_conditions t).parts)
  string_agrees t =
      subst (λ (z : Option (List ℕ)). Agrees (string_checked (plain_text (string (Part Checking) with_outcome t).parts) outcome_place outcome (string (Part Checking) with_outcome t).parts) (string_typed z typing (string (Part Typing) with_typing t).parts) (parts_conditions condition_place typing_of conditioned (string (Part Conditioning) with_conditions t).parts))
      (texts_same (Part Checking) (Part Typing) with_outcome with_typing t.quote t.opening t.closing t.parts)
      (by_text (plain_text (string (Part Checking) with_outcome t).parts))
    where
      by_text : (z : Option (List ℕ)) → Agrees (string_checked z outcome_place outcome (string (Part Checking) with_outcome t).parts) (string_typed z typing (string (Part Typing) with_typing t).parts) (parts_conditions condition_place typing_of conditioned (string (Part Conditioning) with_conditions t).parts)
      by_text (Some z) = refl
      by_text None =
          map_agrees (parts_checked outcome_place outcome (string (Part Checking) with_outcome t).parts) (parts_typed typing (string (Part Typing) with_typing t).parts) (parts_conditions condition_place typing_of conditioned (string (Part Conditioning) with_conditions t).parts)
          strung (parts_agree t.quote t.opening t.closing t.parts)

  layer_agrees : (y : Expr-F Known) (p : Bool) → Agrees (checked_step s (map-Expr Expr (Part Checking) with_outcome (map-Expr Known Expr bare y)) p) (typed_step s (map-Expr Expr (Part Typing) with_typing (map-Expr Known Expr bare y)) p) (conditions_step s (map-Expr Expr (Part Conditioning) with_conditions (map-Expr Known Expr bare y)) p)
  layer_agrees (layer.If i c t a w r) p =
      if_agrees (span_of c.0) (joined i (span_of r.0)) (checked s c.0 p) (checked s a.0 p) (checked s r.0 p) (typed_at s c.0 p) (typed_at s a.0 p) (typed_at s r.0 p) (conditions_at s c.0 p) (conditions_at s a.0 p) (conditions_at s r.0 p) (c.1 p) (a.1 p) (r.1 p)
  layer_agrees (layer.Binary l o sign r) p =
      let span = joined (span_of l.0) (span_of r.0) in
      two_agree (checked s l.0 p) (checked s r.0 p) (typed_at s l.0 p) (typed_at s r.0 p) (conditions_at s l.0 p) (conditions_at s r.0 p)
      (λ x y. or_bad 304 span (binary_of o p x y)) (binary_of o p) (λ x y. unless (binary_of o p x y) (at 304 span)) (l.1 p) (r.1 p) (λ x y. or_bad_agrees 304 span (binary_of o p x y))
  layer_agrees (layer.Unary o sign x) p =
      let span = joined sign (span_of x.0) in
      bind_agrees (checked s x.0 p) (typed_at s x.0 p) (conditions_at s x.0 p) (λ t. or_bad 304 span (unary_of o t)) (unary_of o) (λ t. unless (unary_of o t) (at 304 span)) (x.1 p) (λ t. or_bad_agrees 304 span (unary_of o t))
  layer_agrees (layer.Member x dot n) p =
      member_agrees s (output_named s.names (name_of x.0) n.name) (name_of x.0) n (joined (span_of x.0) n.span) (checked s x.0 p) (typed_at s x.0 p) (conditions_at s x.0 p) (alone_has_none x.0 p) (x.1 p)
  layer_agrees (layer.Index x o i c) p =
      let span = joined (span_of x.0) c in
      two_agree (checked s x.0 p) (checked s i.0 p) (typed_at s x.0 p) (typed_at s i.0 p) (conditions_at s x.0 p) (conditions_at s i.0 p)
      (λ t u. or_bad 304 span (item_of t u)) item_of (λ t u. unless (item_of t u) (at 304 span)) (x.1 p) (i.1 p) (λ t u. or_bad_agrees 304 span (item_of t u))
  layer_agrees (layer.True span) p = refl
  layer_agrees (layer.False span) p = refl
  layer_agrees (layer.None span) p = refl
  layer_agrees (layer.Int n span) p = or_bad_agrees 106 span (int_literal n)
  layer_agrees (layer.Str t) p = string_agrees t
  layer_agrees (layer.Name n) p = name_agrees s.names s.calls n
  layer_agrees (layer.Call n o is c) p =
      subst (λ (z : Option (List Typed)). Agrees (call_checked s n (joined n.span c) (items_checked outcome (items (Part Checking) with_outcome is) p)) (call_typed s (func_of n.name) (items_typed typing (items (Part Typing) with_typing is) p)) (function_conditions s.outputs (func_of n.name) n.span ++ (items_conditions conditioned (items (Part Conditioning) with_conditions is) p ++ argument_conditions (func_of n.name) z (joined n.span c))))
      (items_same is p)
      (call_agrees s n (joined n.span c) (items_checked outcome (items (Part Checking) with_outcome is) p) (items_typed typing (items (Part Typing) with_typing is) p) (items_conditions conditioned (items (Part Conditioning) with_conditions is) p) (items_agree is p))
  layer_agrees (layer.Group o x c) p = x.1 p
  layer_agrees (layer.Pair o l m r c) p =
      both_agree (checked s l.0 p) (checked s r.0 p) (typed_at s l.0 p) (typed_at s r.0 p) (conditions_at s l.0 p) (conditions_at s r.0 p) pair_of (l.1 p) (r.1 p)
  layer_agrees (layer.List o is c) p =
      subst (λ (z : Option (List Typed)). Agrees (list_checked (joined o c) (items_checked outcome (items (Part Checking) with_outcome is) p)) (option_and_then list_of (items_typed typing (items (Part Typing) with_typing is) p)) (items_conditions conditioned (items (Part Conditioning) with_conditions is) p ++ given_that z (λ xs. unless (list_of xs) (at 310 (joined o c)))))
      (items_same is p)
      (bind_agrees (items_checked outcome (items (Part Checking) with_outcome is) p) (items_typed typing (items (Part Typing) with_typing is) p) (items_conditions conditioned (items (Part Conditioning) with_conditions is) p)
      (λ xs. or_bad 310 (joined o c) (list_of xs)) list_of (λ xs. unless (list_of xs) (at 310 (joined o c))) (items_agree is p) (λ xs. or_bad_agrees 310 (joined o c) (list_of xs)))
  layer_agrees (layer.Map o es c) p =
      subst (λ (z : Option (List (TPair Typed))). Agrees (map_checked (joined o c) (entries_checked outcome (entries (Part Checking) with_outcome es) p)) (option_and_then map_of (entries_typed typing (entries (Part Typing) with_typing es) p)) (entries_conditions conditioned (entries (Part Conditioning) with_conditions es) p ++ given_that z (map_conditions (joined o c))))
      (entries_same es p)
      (bind_agrees (entries_checked outcome (entries (Part Checking) with_outcome es) p) (entries_typed typing (entries (Part Typing) with_typing es) p) (entries_conditions conditioned (entries (Part Conditioning) with_conditions es) p)
      (rows_checked (joined o c)) map_of (map_conditions (joined o c)) (entries_agree es p) (rows_agree (joined o c)))
  layer_agrees (layer.Struct n o ms c) p =
      let def = struct_named s.structs s.locals n.name in
      subst (λ (z : List Ident). Agrees (struct_checked n.span def z (members_checked outcome_place outcome (members (Part Checking) with_outcome ms) p)) (struct_typed def (idents (members (Part Typing) with_typing ms)) (members_typed typing_place typing (members (Part Typing) with_typing ms) p)) (members_conditions conditioned (members (Part Conditioning) with_conditions ms) p ++ struct_conditions n.span def (idents (members (Part Conditioning) with_conditions ms)) (members_typed condition_place typing_of (members (Part Conditioning) with_conditions ms) p)))
      (names_same (Part Typing) (Part Checking) with_typing with_outcome ms)
      (subst (λ (z : List Ident). Agrees (struct_checked n.span def (idents (members (Part Typing) with_typing ms)) (members_checked outcome_place outcome (members (Part Checking) with_outcome ms) p)) (struct_typed def (idents (members (Part Typing) with_typing ms)) (members_typed typing_place typing (members (Part Typing) with_typing ms) p)) (members_conditions conditioned (members (Part Conditioning) with_conditions ms) p ++ struct_conditions n.span def z (members_typed condition_place typing_of (members (Part Conditioning) with_conditions ms) p)))
      (names_same (Part Typing) (Part Conditioning) with_typing with_conditions ms)
      (subst (λ (z : Option (List MemberValue)). Agrees (struct_checked n.span def (idents (members (Part Typing) with_typing ms)) (members_checked outcome_place outcome (members (Part Checking) with_outcome ms) p)) (struct_typed def (idents (members (Part Typing) with_typing ms)) (members_typed typing_place typing (members (Part Typing) with_typing ms) p)) (members_conditions conditioned (members (Part Conditioning) with_conditions ms) p ++ struct_conditions n.span def (idents (members (Part Typing) with_typing ms)) z))
      (members_same ms p)
      (struct_agrees n.span def (idents (members (Part Typing) with_typing ms)) (members_checked outcome_place outcome (members (Part Checking) with_outcome ms) p) (members_typed typing_place typing (members (Part Typing) with_typing ms) p) (members_conditions conditioned (members (Part Conditioning) with_conditions ms) p) (members_agree ms p))))

  -- ---- any expression

  checked_roll : (x : Expr-F Expr) (p : Bool) → checked s (roll-Expr x) p ≡ checked_step s (map-Expr Expr (Part Checking) with_outcome x) p
  unfolding checked
  checked_roll x p = ap (λ (f : Checking). f p) (para-roll-Expr Checking (checked_step s) x)

  conditions_roll : (x : Expr-F Expr) (p : Bool) → conditions_at s (roll-Expr x) p ≡ conditions_step s (map-Expr Expr (Part Conditioning) with_conditions x) p
  unfolding conditions_at
  conditions_roll x p = ap (λ (f : Conditioning). f p) (para-roll-Expr Conditioning (conditions_step s) x)

  pub checked_agrees : (e : Expr) → Holds e
  checked_agrees = ind-Expr Holds (λ x y is. subst (λ (z : Expr-F Expr). Holds (roll-Expr z)) is (λ p.
      let x = map-Expr Known Expr bare y in
      subst (λ (z : Checked Typed). Agrees z (typed_at s (roll-Expr x) p) (conditions_at s (roll-Expr x) p)) (sym (checked_roll x p))
      (subst (λ (z : Option Typed). Agrees (checked_step s (map-Expr Expr (Part Checking) with_outcome x) p) z (conditions_at s (roll-Expr x) p)) (sym (typed_roll x p))
      (subst (λ (z : Conditions). Agrees (checked_step s (map-Expr Expr (Part Checking) with_outcome x) p) (typed_step s (map-Expr Expr (Part Typing) with_typing x) p) z) (sym (conditions_roll x p))
      (layer_agrees y p)))))
