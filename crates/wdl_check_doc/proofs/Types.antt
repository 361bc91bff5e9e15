-- The type that a document writes is that of the member in the structs of the library.
use Rattle.std.proofs.Common.{◌≡◌, ℕ, Bool, true, false, cond, List, [], ◌∷◌, Option, Some, None, option_and_then, option_map, refl, ap, sym, ◌∙◌, subst}
use Rattle.std.proofs.lemmas.Option.{same_Some}
use Rattle.wdl_base.specs.declared.span.Span.{Span}
use Rattle.wdl_value.specs.declared.ty.Ty.{Ty}
use Rattle.wdl_value.specs.declared.ty.Ty.TheVariants as ty
use Rattle.wdl_value.specs.Kinds.{is_scalar}
use Rattle.wdl_ast.specs.declared.type_tree.BaseType.{BaseType}
use Rattle.wdl_ast.specs.declared.type_tree.BaseType.TheVariants as base
use Rattle.wdl_ast.specs.declared.type_tree.TypeTree.{TypeTree, TypeTree-F, map-TypeTree, roll-TypeTree, ind-TypeTree, fold-roll-TypeTree}
use Rattle.wdl_library.specs.Structs.{optional, type_step, written_type}
use Rattle.wdl_check_rules.specs.Spans.{joined}
use Rattle.wdl_check_rules.specs.Locals.{Naming}
use Rattle.wdl_check_types.specs.Outcome.{Outcome, done, or_refused, refused}
use Rattle.wdl_check_types.specs.Written.{map_written, marked, written, written_step}
use Rattle.wdl_base.proofs.Options.{then_parts}

module _ (stand : List ℕ → List ℕ) (locals : Naming) (fit : (n k : List ℕ) → locals n ≡ Some k → stand n ≡ k) where
  abbrev Holds : TypeTree → Type 0
  Holds tree = (t : Ty) → (written locals tree).typed ≡ Some t → t ≡ written_type stand tree

  abbrev Known : Type 0
  Known = (tree : TypeTree) × Holds tree

  abbrev plain : TypeTree-F Known → TypeTree-F TypeTree
  plain = map-TypeTree Known TypeTree (λ (k : Known). k.0)

  mark : (qs : List Span) (o : Option Ty) (v t : Ty) → ((u : Ty) → o ≡ Some u → u ≡ v) → option_and_then (λ u. Some (marked qs u)) o ≡ Some t → t ≡ optional qs v
  mark qs None v t f h = cc
  mark [] (Some u) v t f h = sym (same_Some u t h) ∙ f u refl
  mark (q ∷ qs) (Some u) v t f h = sym (same_Some (ty.Opt u) t h) ∙ ap ty.Opt (f u refl)

  struct_named : (o : Option (List ℕ)) (span : Span) (m : List ℕ) (u : Ty) → ((k : List ℕ) → o ≡ Some k → m ≡ k)
      → (or_refused 329 span (option_map ty.Struct o)).typed ≡ Some u → u ≡ ty.Struct m
  struct_named None span m u f h = cc
  struct_named (Some k) span m u f h = sym (same_Some (ty.Struct k) u h) ∙ ap ty.Struct (sym (f k refl))

  array_named : (x : Known) (b : Bool) (u : Ty) → option_and_then (λ t. Some (ty.Array t b)) (written locals x.0).typed ≡ Some u → u ≡ ty.Array (written_type stand x.0) b
  array_named x b u h =
      let a = then_parts (λ t. Some (ty.Array t b)) (written locals x.0).typed u h in
      sym (same_Some (ty.Array a.0 b) u a.2) ∙ ap (λ (t : Ty). ty.Array t b) (x.1 a.0 a.1)

  map_named : (b : Bool) (span : Span) (k t u : Ty) → (cond b (done (ty.Map k t)) (refused 329 span)).typed ≡ Some u → u ≡ ty.Map k t
  map_named false span k t u h = cc
  map_named true span k t u h = sym (same_Some (ty.Map k t) u h)

  rows_named : (span : Span) (x y : Known) (u : Ty)
      → option_and_then (λ k. option_and_then (λ t. (map_written span k t).typed) (written locals y.0).typed) (written locals x.0).typed ≡ Some u
      → u ≡ ty.Map (written_type stand x.0) (written_type stand y.0)
  rows_named span x y u h =
      let a = then_parts (λ k. option_and_then (λ t. (map_written span k t).typed) (written locals y.0).typed) (written locals x.0).typed u h in
      let b = then_parts (λ t. (map_written span a.0 t).typed) (written locals y.0).typed u a.2 in
      map_named (is_scalar a.0) span a.0 b.0 u b.2 ∙ ap (λ (k : Ty). ty.Map k b.0) (x.1 a.0 a.1) ∙ ap (ty.Map (written_type stand x.0)) (y.1 b.0 b.1)

  pair_named : (x y : Known) (u : Ty)
      → option_and_then (λ t. option_and_then (λ v. Some (ty.Pair t v)) (written locals y.0).typed) (written locals x.0).typed ≡ Some u
      → u ≡ ty.Pair (written_type stand x.0) (written_type stand y.0)
  pair_named x y u h =
      let a = then_parts (λ t. option_and_then (λ v. Some (ty.Pair t v)) (written locals y.0).typed) (written locals x.0).typed u h in
      let b = then_parts (λ v. Some (ty.Pair a.0 v)) (written locals y.0).typed u a.2 in
      sym (same_Some (ty.Pair a.0 b.0) u b.2) ∙ ap (λ (k : Ty). ty.Pair k b.0) (x.1 a.0 a.1) ∙ ap (ty.Pair (written_type stand x.0)) (y.1 b.0 b.1)

  layer_named : (b : BaseType Known) (qs : List Span) (t : Ty)
      → (written_step locals (map-TypeTree TypeTree (Outcome Ty) (written locals) (plain (record { base = b; questions = qs })))).typed ≡ Some t
      → t ≡ type_step stand (map-TypeTree TypeTree Ty (written_type stand) (plain (record { base = b; questions = qs })))
  layer_named (base.Boolean s) qs t h = mark qs (Some ty.Bool) ty.Bool t (λ u e. sym (same_Some ty.Bool u e)) h
  layer_named (base.Int s) qs t h = mark qs (Some ty.Int) ty.Int t (λ u e. sym (same_Some ty.Int u e)) h
  layer_named (base.Str s) qs t h = mark qs (Some ty.Str) ty.Str t (λ u e. sym (same_Some ty.Str u e)) h
  layer_named (base.File s) qs t h = mark qs (Some ty.File) ty.File t (λ u e. sym (same_Some ty.File u e)) h
  layer_named (base.Struct n) qs t h =
      mark qs (or_refused 329 n.span (option_map ty.Struct (locals n.name))).typed (ty.Struct (stand n.name)) t
      (λ u e. struct_named (locals n.name) n.span (stand n.name) u (fit n.name) e) h
  layer_named (base.Array w o x c None) qs t h =
      mark qs (option_and_then (λ v. Some (ty.Array v false)) (written locals x.0).typed) (ty.Array (written_type stand x.0) false) t (λ u e. array_named x false u e) h
  layer_named (base.Array w o x c (Some p)) qs t h =
      mark qs (option_and_then (λ v. Some (ty.Array v true)) (written locals x.0).typed) (ty.Array (written_type stand x.0) true) t (λ u e. array_named x true u e) h
  layer_named (base.Map w o x m y c) qs t h =
      mark qs (option_and_then (λ k. option_and_then (λ v. (map_written (joined w c) k v).typed) (written locals y.0).typed) (written locals x.0).typed)
      (ty.Map (written_type stand x.0) (written_type stand y.0)) t (λ u e. rows_named (joined w c) x y u e) h
  layer_named (base.Pair w o x m y c) qs t h =
      mark qs (option_and_then (λ a. option_and_then (λ v. Some (ty.Pair a v)) (written locals y.0).typed) (written locals x.0).typed)
      (ty.Pair (written_type stand x.0) (written_type stand y.0)) t (λ u e. pair_named x y u e) h

  pub type_is : (tree : TypeTree) → Holds tree
  type_is = ind-TypeTree Holds (λ x y is. subst (λ (z : TypeTree-F TypeTree). Holds (roll-TypeTree z)) is (λ t h.
      layer_named y.base y.questions t (sym (ap (λ (o : Outcome Ty). o.typed) (fold-roll-TypeTree (Outcome Ty) (written_step locals) (plain y))) ∙ h)
      ∙ sym (fold-roll-TypeTree Ty (type_step stand) (plain y))))
