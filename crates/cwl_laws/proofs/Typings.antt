-- Types of the subset, of what is given out of calls and of blocks.
use Rattle.std.proofs.Common.{◌≡◌, ℕ, suc, zero, Bool, true, false, cond, List, [], ◌∷◌, map, Option, Some, None, Contains, sym, ap, ◌∙◌, refl}
use Rattle.std.specs.List.{list_all}
use Rattle.std.proofs.lemmas.Bool.{false≢true, and_parts}
use Rattle.std.proofs.lemmas.Option.{none-some, same_Some}
use Rattle.wdl_base.specs.declared.name.Key.{Key}
use Rattle.wdl_value.specs.declared.ty.Ty.{Ty, Ty-F, fold-roll-Ty, out-Ty, roll-Ty, roll-out-Ty}
use Rattle.wdl_value.specs.declared.ty.Ty.TheOpen as type
use Rattle.wdl_value.specs.declared.ty.Ty.TheVariants as ty
use Rattle.wdl_value.specs.Bare.{is_optional}
use Rattle.wdl_value.specs.Fits.{Structs}
use Rattle.wdl_value.specs.Kinds.{bool_at, is_bool}
use Rattle.wdl_typed.specs.declared.expr.TExpr.{TExpr, fold-roll-TExpr}
use Rattle.wdl_typed.specs.declared.expr.TExpr.TheOpen as layer
use Rattle.wdl_typed.specs.declared.expr.TExpr.TheVariants as e
use Rattle.wdl_typed.specs.declared.flow.FlowDef.{FlowDef}
use Rattle.wdl_typed.specs.declared.flow.Statement.{Statement, Statement-F, out-Statement}
use Rattle.wdl_typed.specs.declared.scope.Bound.{Bound}
use Rattle.wdl_typed.specs.declared.task.TDecl.{TDecl}
use Rattle.wdl_typed.specs.Bodies.{is_decl, nests, nests_at, optional, output_bound}
use Rattle.wdl_typed.specs.Declarations.{context, in_body, output_context}
use Rattle.wdl_typed.specs.Scope.{same_key, type_in}
use Rattle.wdl_typed.specs.Typing.{when}
use Rattle.wdl_value.specs.Coerces.{coerces}
use Rattle.cwl_model.specs.declared.ty.CwlTy.{CwlTy, out-CwlTy}
use Rattle.cwl_model.specs.declared.ty.CwlTy.TheVariants as cwl
use Rattle.cwl_model.proofs.Rounds.{first_is, later_is}
use Rattle.cwl_image.specs.Expressions.{are_allowed, is_simple, simple_step, some_widens}
use Rattle.cwl_image.specs.Image.{Scope, item_linkage, item_type, reference, seen_step, seen_type, type_of, type_or}
use Rattle.cwl_laws.proofs.Covers.{IsLinked}
use Rattle.cwl_laws.proofs.Casts.{simple_widens}
use Rattle.cwl_laws.proofs.References.{allowed_is, cast_type, refers_under, type_is, under, under_allowed, under_type}
use Rattle.cwl_laws.proofs.Scatters.{array_type}
use Rattle.cwl_laws.proofs.Stands.{AreSimple}

-- ---- levels

-- A block or a call stands above a level.
pub level_below : (flows : List FlowDef) (n : ℕ) (z : Statement-F Statement) → nests flows n z ≡ true → is_decl z ≡ false
    → (m : ℕ) × (n ≡ suc m) × (nests_at (list_all (λ (s : Statement). nests flows m (out-Statement s))) flows z ≡ true)
unfolding nests
level_below flows zero z h d = absurd (false≢true (sym d ∙ h))
level_below flows (suc m) z h d = (m, refl, h)

-- ---- types

pub a_bool : (t : Ty) → is_bool t ≡ true → t ≡ ty.Bool
a_bool t h = by_layer (out-Ty t) refl h
  where
    by_layer : (z : Ty-F Ty) → out-Ty t ≡ z → bool_at z ≡ true → t ≡ ty.Bool
    by_layer type.Bool e h = sym (roll-out-Ty t) ∙ ap roll-Ty e ∙ ty.rolls-Bool
    by_layer z e h = absurd (false≢true h)

pub array_simple : (t : Ty) (some : Bool) → is_simple t ≡ true → is_simple (ty.Array t some) ≡ true
array_simple t some h = ap is_simple (sym (ty.rolls-Array t some)) ∙ fold-roll-Ty Bool simple_step (type.Array t some) ∙ h

pub optional_simple : (t : Ty) → is_simple t ≡ true → is_simple (optional t) ≡ true
optional_simple t h = by_test (is_optional (out-Ty t))
  where
    by_test : (b : Bool) → is_simple (cond b t (ty.Opt t)) ≡ true
    by_test true = h
    by_test false = ap is_simple (sym (ty.rolls-Opt t)) ∙ fold-roll-Ty Bool simple_step (type.Opt t) ∙ h

pub item_simple : (t : Ty) (some : Bool) → is_simple (ty.Array t some) ≡ true → is_simple t ≡ true
item_simple t some h = sym (ap is_simple (sym (ty.rolls-Array t some)) ∙ fold-roll-Ty Bool simple_step (type.Array t some)) ∙ h

retyped_type : (f : Ty → Ty) (bs : List Bound) (k : Key) (t : Ty) → type_in (map (λ (b : Bound). record { key = b.key; ty = f b.ty }) bs) k ≡ Some t → (u : Ty) × (type_in bs k ≡ Some u) × (f u ≡ t)
retyped_type f [] k t e = absurd (none-some _ e)
retyped_type f (b ∷ bs) k t e = by_test (same_key b.key k) e (λ q. retyped_type f bs k t q)
  where
    by_test : (c : Bool) → cond c (Some (f b.ty)) (type_in (map (λ (b : Bound). record { key = b.key; ty = f b.ty }) bs) k) ≡ Some t
        → (type_in (map (λ (b : Bound). record { key = b.key; ty = f b.ty }) bs) k ≡ Some t → (u : Ty) × (type_in bs k ≡ Some u) × (f u ≡ t)) → (u : Ty) × (cond c (Some b.ty) (type_in bs k) ≡ Some u) × (f u ≡ t)
    by_test true q rest = (b.ty, refl, same_Some _ _ q)
    by_test false q rest = rest q

pub retyped_simple : (f : Ty → Ty) → ((t : Ty) → is_simple t ≡ true → is_simple (f t) ≡ true) → (bs : List Bound) → AreSimple bs → AreSimple (map (λ (b : Bound). record { key = b.key; ty = f b.ty }) bs)
retyped_simple f keeps bs h k t e = let r = retyped_type f bs k t e in ap is_simple (sym r.2) ∙ keeps r.0 (h k r.0 r.1)

pub outputs_simple : (call : List ℕ) (ds : List TDecl) → ((d : TDecl) → Contains ds d → is_simple d.ty ≡ true) → AreSimple (map (output_bound call) ds)
outputs_simple call [] h k t e = absurd (none-some _ e)
outputs_simple call (d ∷ ds) h k t e = by_test (same_key (record { first = call; second = Some d.name }) k) e (λ q. outputs_simple call ds (λ c i. h c (later_is d ds c i)) k t q)
  where
    by_test : (c : Bool) → cond c (Some d.ty) (type_in (map (output_bound call) ds) k) ≡ Some t → (type_in (map (output_bound call) ds) k ≡ Some t → is_simple t ≡ true) → is_simple t ≡ true
    by_test true q rest = ap is_simple (sym (same_Some _ _ q)) ∙ h d (first_is d ds)
    by_test false q rest = rest q

-- ---- the type under which a body sees a reference

seen_under : (scope : Scope) (key : Key) (ts : List Ty) (names : List Bound) (t : Ty) → under_type key ts names ≡ Some t → ((u : Ty) → type_in names key ≡ Some u → IsLinked scope key u) → seen_type scope (under key ts) ≡ type_of t
seen_under scope key [] names t h linked =
    let l = linked t h in
    ap (seen_type scope) (sym (e.rolls-Get key)) ∙ fold-roll-TExpr CwlTy (seen_step scope) (layer.Get key) ∙ ap type_or l.1 ∙ l.2
seen_under scope key (u ∷ ts) names t h linked =
    ap (seen_type scope) (sym (e.rolls-Cast (under key ts) u)) ∙ fold-roll-TExpr CwlTy (seen_step scope) (layer.Cast (under key ts) u) ∙ ap type_of (by_type (under_type key ts names) h)
  where
    by_when : (w : Bool) → when w u ≡ Some t → u ≡ t
    by_when true q = same_Some _ _ q
    by_when false q = absurd (none-some _ q)

    by_type : (o : Option Ty) → cast_type o u ≡ Some t → u ≡ t
    by_type None q = absurd (none-some _ q)
    by_type (Some v) q = by_when (coerces v u) q

-- The item of a scatter has the type of the collection's items.
pub item_linked : (structs : Structs) (scope : Scope) (names : List Bound) (item : List ℕ) (x : TExpr) (key : Key) (t : Ty) (some : Bool) → reference x ≡ Some key → in_body structs names x ≡ Some (ty.Array t some)
    → ((u : Ty) → type_in names key ≡ Some u → IsLinked scope key u) → (item_linkage scope item x).ty ≡ type_of t
item_linked structs scope names item x key t some refers typed linked =
    let f = refers_under x key refers in
    let under_is : under_type key f.0 names ≡ Some (ty.Array t some) = sym (type_is (context structs names) false key f.0) ∙ ap (λ z. in_body structs names z) (sym f.1) ∙ typed in
    ap (λ z. item_type (out-CwlTy (seen_type scope z))) f.1
    ∙ ap (λ z. item_type (out-CwlTy z)) (seen_under scope key f.0 names (ty.Array t some) under_is linked ∙ array_type t some)
    ∙ ap item_type (cwl.outs-List (type_of t))

under_simple : (key : Key) (ts : List Ty) (names : List Bound) (t : Ty) → under_type key ts names ≡ Some t → under_allowed key ts names ≡ true → AreSimple names → is_simple t ≡ true
under_simple key [] names t h a simple = simple key t h
under_simple key (u ∷ ts) names t h a simple =
    let p = and_parts (some_widens (under_type key ts names) u) (under_allowed key ts names) a in
    by_type (under_type key ts names) refl h p.0 (λ w q. under_simple key ts names w q p.1 simple)
  where
    by_when : (v : Ty) (w : Bool) → when w u ≡ Some t → u ≡ t
    by_when v true q = same_Some _ _ q
    by_when v false q = absurd (none-some _ q)

    by_type : (o : Option Ty) → under_type key ts names ≡ o → cast_type o u ≡ Some t → some_widens o u ≡ true → ((w : Ty) → under_type key ts names ≡ Some w → is_simple w ≡ true) → is_simple t ≡ true
    by_type None q h w rest = absurd (none-some _ h)
    by_type (Some v) q h w rest = ap is_simple (sym (by_when v (coerces v u) h)) ∙ simple_widens v u (rest v q) w

-- A reference of the subset has a type of the subset.
pub reference_simple : (structs : Structs) (names : List Bound) (x : TExpr) (key : Key) (t : Ty) → reference x ≡ Some key → in_body structs names x ≡ Some t → are_allowed structs names x false ≡ true → AreSimple names
    → is_simple t ≡ true
reference_simple structs names x key t refers typed allowed simple =
    let f = refers_under x key refers in
    under_simple key f.0 names t (sym (type_is (context structs names) false key f.0) ∙ ap (λ z. in_body structs names z) (sym f.1) ∙ typed)
    (sym (allowed_is (output_context structs names) false key f.0) ∙ ap (λ z. are_allowed structs names z false) (sym f.1) ∙ allowed) simple
