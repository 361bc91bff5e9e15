-- Each written type can be written: by induction over the type as it stands in the text.
use Rattle.std.proofs.Common.{◌≡◌, ℕ, Bool, true, false, not, ◌&&◌, ◌||◌, List, [], ◌∷◌, Option, Some, None, option_and_then, option_map, refl, ap, sym, ◌∙◌, subst, cond}
use Rattle.std.proofs.lemmas.Bool.{and_from, false≢true}
use Rattle.std.proofs.lemmas.Option.{same_Some}
use Rattle.wdl_base.specs.declared.span.Span.{Span}
use Rattle.wdl_value.specs.declared.ty.Ty.{Ty, Ty-F, fold-Ty, fold-roll-Ty, fold_out-Ty, map-Ty, out-Ty}
use Rattle.wdl_value.specs.declared.ty.Ty.TheVariants as ty
use Rattle.wdl_value.specs.declared.ty.Ty.TheOpen as type
use Rattle.wdl_value.specs.Fits.{Structs, members_of}
use Rattle.wdl_value.specs.Kinds.{bool_at, file_at, int_at, is_scalar, str_at}
use Rattle.wdl_ast.specs.declared.type_tree.BaseType.{BaseType}
use Rattle.wdl_ast.specs.declared.type_tree.BaseType.TheVariants as base
use Rattle.wdl_ast.specs.declared.type_tree.TypeTree.{TypeTree, TypeTree-F, map-TypeTree, roll-TypeTree, ind-TypeTree, fold-roll-TypeTree}
use Rattle.wdl_typed.specs.KnownTypes.{Written, written_step as known_step, scalar, compound, is_some}
use Rattle.wdl_check_types.specs.Laws.{AreKnown, WrittenTypes}
use Rattle.wdl_check_rules.specs.Locals.{Naming}
use Rattle.wdl_check_rules.specs.Spans.{joined}
use Rattle.wdl_check_types.specs.Outcome.{Outcome, done, or_refused, refused}
use Rattle.wdl_check_types.specs.Written.{is_there, map_written, marked, written, written_step}
use Rattle.wdl_base.proofs.Options.{then_parts}

module _ (structs : Structs) where
  abbrev says : Ty → Written
  says = fold-Ty Written (known_step structs)

  -- a type that can be written and is not optional
  abbrev Fine : Ty → Type 0
  Fine t = ((says t).known ≡ true) × ((says t).optional ≡ false)

  fine_by : (t : Ty) (b : Bool) (sc : Bool) → says t ≡ record { known = b; scalar = sc; optional = false } → b ≡ true → Fine t
  fine_by t b sc e h = (ap (λ (w : Written). w.known) e ∙ h, ap (λ (w : Written). w.optional) e)

  bool_says : says ty.Bool ≡ scalar
  bool_says = ap says (sym ty.rolls-Bool) ∙ fold-roll-Ty Written (known_step structs) type.Bool

  int_says : says ty.Int ≡ scalar
  int_says = ap says (sym ty.rolls-Int) ∙ fold-roll-Ty Written (known_step structs) type.Int

  str_says : says ty.Str ≡ scalar
  str_says = ap says (sym ty.rolls-Str) ∙ fold-roll-Ty Written (known_step structs) type.Str

  file_says : says ty.File ≡ scalar
  file_says = ap says (sym ty.rolls-File) ∙ fold-roll-Ty Written (known_step structs) type.File

  array_says : (t : Ty) (some : Bool) → says (ty.Array t some) ≡ compound (says t).known
  array_says t some = ap says (sym (ty.rolls-Array t some)) ∙ fold-roll-Ty Written (known_step structs) (type.Array t some)

  map_says : (k t : Ty) → says (ty.Map k t) ≡ compound ((says k).known && (says k).scalar && (says t).known)
  map_says k t = ap says (sym (ty.rolls-Map k t)) ∙ fold-roll-Ty Written (known_step structs) (type.Map k t)

  pair_says : (t u : Ty) → says (ty.Pair t u) ≡ compound ((says t).known && (says u).known)
  pair_says t u = ap says (sym (ty.rolls-Pair t u)) ∙ fold-roll-Ty Written (known_step structs) (type.Pair t u)

  struct_says : (n : List ℕ) → says (ty.Struct n) ≡ compound (is_some (members_of structs n))
  struct_says n = ap says (sym (ty.rolls-Struct n)) ∙ fold-roll-Ty Written (known_step structs) (type.Struct n)

  opt_says : (t : Ty) → says (ty.Opt t) ≡ record { known = (says t).known && not (says t).optional; scalar = false; optional = true }
  opt_says t = ap says (sym (ty.rolls-Opt t)) ∙ fold-roll-Ty Written (known_step structs) (type.Opt t)

  scalar_at : (y : Ty-F Ty) → (bool_at y || int_at y || (str_at y || file_at y)) ≡ true → (known_step structs (map-Ty Ty Written says y)).scalar ≡ true
  scalar_at type.Bool h = refl
  scalar_at type.Int h = refl
  scalar_at type.Str h = refl
  scalar_at type.File h = refl
  scalar_at y h = absurd (false≢true h)

  scalar_says : (k : Ty) → is_scalar k ≡ true → (says k).scalar ≡ true
  scalar_says k h = ap (λ (w : Written). w.scalar) (fold_out-Ty Written (known_step structs) k) ∙ scalar_at (out-Ty k) h

  marked_known : (qs : List Span) (u : Ty) → Fine u → (says (marked qs u)).known ≡ true
  marked_known [] u f = f.0
  marked_known (q ∷ qs) u f =
      ap (λ (w : Written). w.known) (opt_says u) ∙ and_from (says u).known (not (says u).optional) f.0 (ap not f.1)

  finish : (o : Option Ty) (qs : List Span) (t : Ty) → ((u : Ty) → o ≡ Some u → Fine u)
      → option_and_then (λ u. Some (marked qs u)) o ≡ Some t → (says t).known ≡ true
  finish None qs t f h = cc
  finish (Some u) qs t f h = subst (λ (v : Ty). (says v).known ≡ true) (same_Some (marked qs u) t h) (marked_known qs u (f u refl))

  given : (a u : Ty) → Fine a → Some a ≡ Some u → Fine u
  given a u f h = subst Fine (same_Some a u h) f

  struct_fine : (o : Option (List ℕ)) (span : Span) (u : Ty) → ((n : List ℕ) → o ≡ Some n → is_some (members_of structs n) ≡ true)
      → (or_refused 329 span (option_map ty.Struct o)).typed ≡ Some u → Fine u
  struct_fine None span u f h = cc
  struct_fine (Some n) span u f h = given (ty.Struct n) u (fine_by (ty.Struct n) _ false (struct_says n) (f n refl)) h

  map_fine : (span : Span) (k t u : Ty) (b : Bool) → is_scalar k ≡ b → (says k).known ≡ true → (says t).known ≡ true
      → (cond b (done (ty.Map k t)) (refused 329 span)).typed ≡ Some u → Fine u
  map_fine span k t u false e f g h = cc
  map_fine span k t u true e f g h =
      given (ty.Map k t) u
      (fine_by (ty.Map k t) _ false (map_says k t)
      (and_from ((says k).known && (says k).scalar) (says t).known (and_from (says k).known (says k).scalar f (scalar_says k e)) g)) h

  module _ (locals : Naming) (are : AreKnown structs locals) where
    abbrev Holds : TypeTree → Type 0
    Holds tree = (t : Ty) → (written locals tree).typed ≡ Some t → (says t).known ≡ true

    abbrev Known : Type 0
    Known = (tree : TypeTree) × Holds tree

    abbrev plain : TypeTree-F Known → TypeTree-F TypeTree
    plain = map-TypeTree Known TypeTree (λ (k : Known). k.0)

    array_fine : (x : Known) (p : Bool) (u : Ty) → option_and_then (λ t. Some (ty.Array t p)) (written locals x.0).typed ≡ Some u → Fine u
    array_fine x p u h =
        let a = then_parts (λ t. Some (ty.Array t p)) (written locals x.0).typed u h in
        given (ty.Array a.0 p) u (fine_by (ty.Array a.0 p) _ false (array_says a.0 p) (x.1 a.0 a.1)) a.2

    pair_fine : (x y : Known) (u : Ty)
        → option_and_then (λ t. option_and_then (λ v. Some (ty.Pair t v)) (written locals y.0).typed) (written locals x.0).typed ≡ Some u → Fine u
    pair_fine x y u h =
        let a = then_parts (λ t. option_and_then (λ v. Some (ty.Pair t v)) (written locals y.0).typed) (written locals x.0).typed u h in
        let b = then_parts (λ v. Some (ty.Pair a.0 v)) (written locals y.0).typed u a.2 in
        given (ty.Pair a.0 b.0) u
        (fine_by (ty.Pair a.0 b.0) _ false (pair_says a.0 b.0) (and_from (says a.0).known (says b.0).known (x.1 a.0 a.1) (y.1 b.0 b.1))) b.2

    rows_fine : (span : Span) (x y : Known) (u : Ty)
        → option_and_then (λ k. option_and_then (λ t. (map_written span k t).typed) (written locals y.0).typed) (written locals x.0).typed ≡ Some u → Fine u
    rows_fine span x y u h =
        let a = then_parts (λ k. option_and_then (λ t. (map_written span k t).typed) (written locals y.0).typed) (written locals x.0).typed u h in
        let b = then_parts (λ t. (map_written span a.0 t).typed) (written locals y.0).typed u a.2 in
        map_fine span a.0 b.0 u (is_scalar a.0) refl (x.1 a.0 a.1) (y.1 b.0 b.1) b.2

    layer_known : (b : BaseType Known) (qs : List Span) (t : Ty)
        → (written_step locals (map-TypeTree TypeTree (Outcome Ty) (written locals) (plain (record { base = b; questions = qs })))).typed ≡ Some t
        → (says t).known ≡ true
    layer_known (base.Boolean s) qs t h = finish (Some ty.Bool) qs t (λ u e. given ty.Bool u (fine_by ty.Bool true true bool_says refl) e) h
    layer_known (base.Int s) qs t h = finish (Some ty.Int) qs t (λ u e. given ty.Int u (fine_by ty.Int true true int_says refl) e) h
    layer_known (base.Str s) qs t h = finish (Some ty.Str) qs t (λ u e. given ty.Str u (fine_by ty.Str true true str_says refl) e) h
    layer_known (base.File s) qs t h = finish (Some ty.File) qs t (λ u e. given ty.File u (fine_by ty.File true true file_says refl) e) h
    layer_known (base.Struct n) qs t h =
        finish (or_refused 329 n.span (option_map ty.Struct (locals n.name))).typed qs t
        (λ u e. struct_fine (locals n.name) n.span u (are n.name) e) h
    layer_known (base.Array w o x c p) qs t h =
        finish (option_and_then (λ v. Some (ty.Array v (is_there p))) (written locals x.0).typed) qs t (λ u e. array_fine x (is_there p) u e) h
    layer_known (base.Map w o x m y c) qs t h =
        finish (option_and_then (λ k. option_and_then (λ v. (map_written (joined w c) k v).typed) (written locals y.0).typed) (written locals x.0).typed) qs t
        (λ u e. rows_fine (joined w c) x y u e) h
    layer_known (base.Pair w o x m y c) qs t h =
        finish (option_and_then (λ a. option_and_then (λ v. Some (ty.Pair a v)) (written locals y.0).typed) (written locals x.0).typed) qs t
        (λ u e. pair_fine x y u e) h

    tree_known : (tree : TypeTree) → Holds tree
    tree_known = ind-TypeTree Holds (λ x y is. subst (λ (z : TypeTree-F TypeTree). Holds (roll-TypeTree z)) is (λ t h.
        layer_known y.base y.questions t
        (sym (ap (λ (o : Outcome Ty). o.typed) (fold-roll-TypeTree (Outcome Ty) (written_step locals) (plain y))) ∙ h)))

pub known : WrittenTypes
known structs locals tree t are h = tree_known structs locals are tree t h
