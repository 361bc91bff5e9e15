-- A written type is its shape with its names of structs in it.
use Rattle.std.proofs.Common.{◌≡◌, List, [], ◌∷◌, ◌++◌, map, ℕ, Bool, Some, None, refl, sym, ap, ◌∙◌, subst}
use Rattle.std.proofs.lemmas.List.{append_assoc, map-append}
use Rattle.wdl_base.specs.declared.span.Span.{Span}
use Rattle.wdl_value.specs.declared.ty.Ty.{Ty, Ty-F, fold-Ty, fold-roll-Ty, ind-Ty, map-Ty, roll-Ty}
use Rattle.wdl_value.specs.declared.ty.Ty.TheOpen as type
use Rattle.wdl_value.specs.declared.ty.Ty.TheVariants as ty
use Rattle.wdl_ast.specs.declared.type_tree.BaseType.{BaseType}
use Rattle.wdl_ast.specs.declared.type_tree.BaseType.TheVariants as base
use Rattle.wdl_ast.specs.declared.type_tree.TypeTree.{TypeTree, TypeTree-F, fold-roll-TypeTree, ind-TypeTree, map-TypeTree, roll-TypeTree}
use Rattle.wdl_library.specs.Structs.{optional, type_step, written_type}
use Rattle.library_laws.specs.Relations.{names_step, shape, struct_names}

abbrev Names : Type 0
Names = List (List ℕ)

-- ---- types

-- the names of structs in a type, from left to right
abbrev type_names_step : Ty-F Names → Names
type_names_step (type.Struct n) = n ∷ []
type_names_step (type.Array ns some) = ns
type_names_step (type.Map ks vs) = ks ++ vs
type_names_step (type.Pair ls rs) = ls ++ rs
type_names_step (type.Opt ns) = ns
type_names_step y = []

abbrev pub type_names : Ty → Names
type_names = fold-Ty Names type_names_step

-- the layer with a blank for a name
abbrev blanked : Ty-F Ty → Ty-F Ty
blanked (type.Struct n) = type.Struct []
blanked y = y

abbrev blank_step : Ty-F Ty → Ty
blank_step y = roll-Ty (blanked y)

abbrev pub blank : Ty → Ty
blank = fold-Ty Ty blank_step

-- a type with blanks, filled with names from left to right, and the names that are left
abbrev Filling : Type 0
Filling = Names → Ty × Names

abbrev filled : List ℕ → Filling
filled n [] = (roll-Ty (type.Struct n), [])
filled n (m ∷ ms) = (roll-Ty (type.Struct m), ms)

abbrev one : (Ty → Ty-F Ty) → Filling → Filling
one form f ns = (roll-Ty (form (f ns).0), (f ns).1)

abbrev both : (Ty → Ty → Ty-F Ty) → Filling → Filling → Filling
both form f g ns = (roll-Ty (form (f ns).0 (g (f ns).1).0), (g (f ns).1).1)

abbrev fill_step : Ty-F Filling → Filling
fill_step type.Bool ns = (roll-Ty type.Bool, ns)
fill_step type.Int ns = (roll-Ty type.Int, ns)
fill_step type.Str ns = (roll-Ty type.Str, ns)
fill_step type.File ns = (roll-Ty type.File, ns)
fill_step (type.Array f some) ns = one (λ t. type.Array t some) f ns
fill_step (type.Map f g) ns = both type.Map f g ns
fill_step (type.Pair f g) ns = both type.Pair f g ns
fill_step (type.Struct n) ns = filled n ns
fill_step (type.Opt f) ns = one type.Opt f ns
fill_step type.Absent ns = (roll-Ty type.Absent, ns)
fill_step type.Empty ns = (roll-Ty type.Empty, ns)

abbrev fill : Ty → Filling
fill = fold-Ty Filling fill_step

abbrev Refills : Ty → Type 0
Refills t = (rest : Names) → fill (blank t) (type_names t ++ rest) ≡ (t, rest)

abbrev KnownTy : Type 0
KnownTy = (t : Ty) × Refills t

abbrev plain_ty : Ty-F KnownTy → Ty-F Ty
plain_ty = map-Ty KnownTy Ty (λ (k : KnownTy). k.0)

refill_both : (form : Ty → Ty → Ty-F Ty) (k v : KnownTy) (rest : Names)
    → both form (fill (blank k.0)) (fill (blank v.0)) ((type_names k.0 ++ type_names v.0) ++ rest) ≡ (roll-Ty (form k.0 v.0), rest)
refill_both form k v rest =
    ap (both form (fill (blank k.0)) (fill (blank v.0))) (append_assoc (type_names k.0) (type_names v.0) rest)
    ∙ ap (λ (r : Ty × Names). (roll-Ty (form r.0 (fill (blank v.0) r.1).0), (fill (blank v.0) r.1).1)) (k.1 (type_names v.0 ++ rest))
    ∙ ap (λ (r : Ty × Names). (roll-Ty (form k.0 r.0), r.1)) (v.1 rest)

refill_layer : (y : Ty-F KnownTy) (rest : Names)
    → fill_step (map-Ty Ty Filling fill (blanked (map-Ty Ty Ty blank (plain_ty y)))) (type_names_step (map-Ty Ty Names type_names (plain_ty y)) ++ rest) ≡ (roll-Ty (plain_ty y), rest)
refill_layer type.Bool rest = refl
refill_layer type.Int rest = refl
refill_layer type.Str rest = refl
refill_layer type.File rest = refl
refill_layer (type.Array k some) rest = ap (λ (r : Ty × Names). (roll-Ty (type.Array r.0 some), r.1)) (k.1 rest)
refill_layer (type.Map k v) rest = refill_both type.Map k v rest
refill_layer (type.Pair k v) rest = refill_both type.Pair k v rest
refill_layer (type.Struct n) rest = refl
refill_layer (type.Opt k) rest = ap (λ (r : Ty × Names). (roll-Ty (type.Opt r.0), r.1)) (k.1 rest)
refill_layer type.Absent rest = refl
refill_layer type.Empty rest = refl

refills : (t : Ty) → Refills t
refills = ind-Ty Refills (λ x y is. subst (λ (z : Ty-F Ty). Refills (roll-Ty z)) is (λ rest.
    ap (λ (t : Ty). fill t (type_names (roll-Ty (plain_ty y)) ++ rest)) (fold-roll-Ty Ty blank_step (plain_ty y))
    ∙ ap (λ (f : Filling). f (type_names (roll-Ty (plain_ty y)) ++ rest)) (fold-roll-Ty Filling fill_step (blanked (map-Ty Ty Ty blank (plain_ty y))))
    ∙ ap (λ (ns : Names). fill_step (map-Ty Ty Filling fill (blanked (map-Ty Ty Ty blank (plain_ty y)))) (ns ++ rest)) (fold-roll-Ty Names type_names_step (plain_ty y))
    ∙ refill_layer y rest))

-- Types of one shape with the same names are equal.
same_filled : (t u : Ty) → blank t ≡ blank u → type_names t ≡ type_names u → t ≡ u
same_filled t u b n =
    ap (λ (r : Ty × Names). r.0) (sym (refills t [])
    ∙ ap (λ (x : Ty). fill x (type_names t ++ [])) b ∙ ap (λ (ns : Names). fill (blank u) (ns ++ [])) n ∙ refills u [])

-- ---- written types

names_layer : (y : Ty-F Ty) → type_names (roll-Ty y) ≡ type_names_step (map-Ty Ty Names type_names y)
names_layer y = fold-roll-Ty Names type_names_step y

blank_layer : (y : Ty-F Ty) → blank (roll-Ty y) ≡ roll-Ty (blanked (map-Ty Ty Ty blank y))
blank_layer y = fold-roll-Ty Ty blank_step y

-- the shape and the names of a type, with names that stand for its own
abbrev IsFilled : (List ℕ → List ℕ) → Ty → Ty → Names → Type 0
IsFilled f t s ns = (type_names t ≡ map f ns) × (blank t ≡ s)

module _ (f : List ℕ → List ℕ) where
  abbrev Fills : TypeTree → Type 0
  Fills a = IsFilled f (written_type f a) (shape a) (struct_names a)

  abbrev KnownTree : Type 0
  KnownTree = (a : TypeTree) × Fills a

  abbrev plain_tree : TypeTree-F KnownTree → TypeTree-F TypeTree
  plain_tree = map-TypeTree KnownTree TypeTree (λ (k : KnownTree). k.0)

  opt_filled : (questions : List Span) (t s : Ty) (ns : Names) → IsFilled f t s ns → IsFilled f (optional questions t) (optional questions s) ns
  opt_filled [] t s ns h = h
  opt_filled (q ∷ qs) t s ns h = (
    ap type_names (sym (ty.rolls-Opt t)) ∙ names_layer (type.Opt t) ∙ h.0,
    ap blank (sym (ty.rolls-Opt t)) ∙ blank_layer (type.Opt t) ∙ ty.rolls-Opt (blank t) ∙ ap (λ (x : Ty). ty.Opt x) h.1,
  )

  array_filled : (some : Bool) (k : KnownTree) → IsFilled f (ty.Array (written_type f k.0) some) (ty.Array (shape k.0) some) (struct_names k.0)
  array_filled some k =
      let t = written_type f k.0 in (
        ap type_names (sym (ty.rolls-Array t some)) ∙ names_layer (type.Array t some) ∙ k.1.0,
        ap blank (sym (ty.rolls-Array t some)) ∙ blank_layer (type.Array t some) ∙ ty.rolls-Array (blank t) some ∙ ap (λ (x : Ty). ty.Array x some) k.1.1,
      )

  two_names : (k v : KnownTree) → type_names (written_type f k.0) ++ type_names (written_type f v.0) ≡ map f (struct_names k.0 ++ struct_names v.0)
  two_names k v =
      ap (λ (ns : Names). ns ++ type_names (written_type f v.0)) k.1.0 ∙ ap (λ (ns : Names). map f (struct_names k.0) ++ ns) v.1.0
      ∙ sym (map-append f (struct_names k.0) (struct_names v.0))

  map_filled : (k v : KnownTree) → IsFilled f (ty.Map (written_type f k.0) (written_type f v.0)) (ty.Map (shape k.0) (shape v.0)) (struct_names k.0 ++ struct_names v.0)
  map_filled k v =
      let t = written_type f k.0 in
      let u = written_type f v.0 in (
        ap type_names (sym (ty.rolls-Map t u)) ∙ names_layer (type.Map t u) ∙ two_names k v,
        ap blank (sym (ty.rolls-Map t u)) ∙ blank_layer (type.Map t u) ∙ ty.rolls-Map (blank t) (blank u)
            ∙ ap (λ (x : Ty). ty.Map x (blank u)) k.1.1 ∙ ap (λ (x : Ty). ty.Map (shape k.0) x) v.1.1,
      )

  pair_filled : (k v : KnownTree) → IsFilled f (ty.Pair (written_type f k.0) (written_type f v.0)) (ty.Pair (shape k.0) (shape v.0)) (struct_names k.0 ++ struct_names v.0)
  pair_filled k v =
      let t = written_type f k.0 in
      let u = written_type f v.0 in (
        ap type_names (sym (ty.rolls-Pair t u)) ∙ names_layer (type.Pair t u) ∙ two_names k v,
        ap blank (sym (ty.rolls-Pair t u)) ∙ blank_layer (type.Pair t u) ∙ ty.rolls-Pair (blank t) (blank u)
            ∙ ap (λ (x : Ty). ty.Pair x (blank u)) k.1.1 ∙ ap (λ (x : Ty). ty.Pair (shape k.0) x) v.1.1,
      )

  -- a type without structs
  plain_filled : (t : Ty) (y : Ty-F Ty) → roll-Ty y ≡ t → type_names_step (map-Ty Ty Names type_names y) ≡ [] → blanked (map-Ty Ty Ty blank y) ≡ y → IsFilled f t t []
  plain_filled t y e n b = (
    ap type_names (sym e) ∙ names_layer y ∙ n,
    ap blank (sym e) ∙ blank_layer y ∙ ap roll-Ty b ∙ e,
  )

  struct_filled : (n : List ℕ) → IsFilled f (ty.Struct (f n)) (ty.Struct []) (n ∷ [])
  struct_filled n = (
    ap type_names (sym (ty.rolls-Struct (f n))) ∙ names_layer (type.Struct (f n)),
    ap blank (sym (ty.rolls-Struct (f n))) ∙ blank_layer (type.Struct (f n)) ∙ ty.rolls-Struct [],
  )

  -- a layer, with its parts by the names that stand for its own, by blanks, and by its names
  abbrev LayerFills : TypeTree-F KnownTree → Type 0
  LayerFills y =
      IsFilled f (type_step f (map-TypeTree TypeTree Ty (written_type f) (plain_tree y))) (type_step (λ n. []) (map-TypeTree TypeTree Ty shape (plain_tree y)))
      (names_step (map-TypeTree TypeTree Names struct_names (plain_tree y)).base)

  layer_filled : (b : BaseType KnownTree) (questions : List Span) → LayerFills (record { base = b; questions = questions })
  layer_filled (base.Boolean s) qs = opt_filled qs ty.Bool ty.Bool [] (plain_filled ty.Bool type.Bool ty.rolls-Bool refl refl)
  layer_filled (base.Int s) qs = opt_filled qs ty.Int ty.Int [] (plain_filled ty.Int type.Int ty.rolls-Int refl refl)
  layer_filled (base.Str s) qs = opt_filled qs ty.Str ty.Str [] (plain_filled ty.Str type.Str ty.rolls-Str refl refl)
  layer_filled (base.File s) qs = opt_filled qs ty.File ty.File [] (plain_filled ty.File type.File ty.rolls-File refl refl)
  layer_filled (base.Struct n) qs = opt_filled qs (ty.Struct (f n.name)) (ty.Struct []) (n.name ∷ []) (struct_filled n.name)
  layer_filled (base.Array w o k c None) qs = opt_filled qs _ _ _ (array_filled _ k)
  layer_filled (base.Array w o k c (Some p)) qs = opt_filled qs _ _ _ (array_filled _ k)
  layer_filled (base.Map w o k m v c) qs = opt_filled qs _ _ _ (map_filled k v)
  layer_filled (base.Pair w o k m v c) qs = opt_filled qs _ _ _ (pair_filled k v)

  pub fills : (a : TypeTree) → Fills a
  fills = ind-TypeTree Fills (λ x y is. subst (λ (z : TypeTree-F TypeTree). Fills (roll-TypeTree z)) is
      (subst (λ (t : Ty). IsFilled f t (shape (roll-TypeTree (plain_tree y))) (struct_names (roll-TypeTree (plain_tree y)))) (sym (fold-roll-TypeTree Ty (type_step f) (plain_tree y)))
      (subst (λ (s : Ty). IsFilled f (type_step f (map-TypeTree TypeTree Ty (written_type f) (plain_tree y))) s (struct_names (roll-TypeTree (plain_tree y)))) (sym (fold-roll-TypeTree Ty (type_step (λ n. [])) (plain_tree y)))
      (subst (λ (ns : Names). IsFilled f (type_step f (map-TypeTree TypeTree Ty (written_type f) (plain_tree y))) (type_step (λ n. []) (map-TypeTree TypeTree Ty shape (plain_tree y))) ns)
      (sym (fold-roll-TypeTree Names (λ (z : TypeTree-F Names). names_step z.base) (plain_tree y))) (layer_filled y.base y.questions)))))

-- Types of one shape, whose names stand for the same, are equal.
pub written_same : (f g : List ℕ → List ℕ) (a b : TypeTree) → shape a ≡ shape b → map f (struct_names a) ≡ map g (struct_names b) → written_type f a ≡ written_type g b
written_same f g a b s n =
    let p = fills f a in
    let q = fills g b in
    same_filled (written_type f a) (written_type g b) (p.1 ∙ s ∙ sym q.1) (p.0 ∙ n ∙ sym q.0)

-- Equal types have one shape, and their names stand for the same.
pub same_written : (f g : List ℕ → List ℕ) (a b : TypeTree) → written_type f a ≡ written_type g b → (shape a ≡ shape b) × (map f (struct_names a) ≡ map g (struct_names b))
same_written f g a b e =
    let p = fills f a in
    let q = fills g b in
    (sym p.1 ∙ ap blank e ∙ q.1, sym p.0 ∙ ap type_names e ∙ q.0)
