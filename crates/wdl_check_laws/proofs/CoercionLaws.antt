-- Coercions, and the type that two types join to: both coerce to it.
use Rattle.std.proofs.Common.{◌≡◌, Bool, true, false, ◌&&◌, ◌||◌, Option, Some, None, option_map, option_and_then, refl, ap, sym, ◌∙◌, subst, if◌then◌else◌}
use Rattle.std.proofs.lemmas.Bool.{false≢true, and_parts, and_from}
use Rattle.std.proofs.lemmas.Slice.Eq.{bytes_eq-Decides}
use Rattle.std.proofs.lemmas.Option.{same_Some}
use Rattle.wdl_value.specs.declared.ty.Ty.{Ty, Ty-F, out-Ty, roll-Ty, roll-out-Ty, out-roll-Ty, map-Ty, ind-Ty, fold_out-Ty}
use Rattle.wdl_value.specs.declared.ty.Ty.TheVariants as ty
use Rattle.wdl_value.specs.declared.ty.Ty.TheOpen as type
use Rattle.wdl_value.specs.Bare.{bare, is_optional, bare-Opt, bare-other}
use Rattle.wdl_value.specs.Coerces.{coerces, coerces_step, opt_coerces, takes_absent, plain_coerces}
use Rattle.wdl_value.specs.Join.{Joiner, join, join_at, join_out, opt_join, marked, marked-Opt, marked-other, absent_join, other_join, parts_join, plain_join, array_of, map_of, pair_of}
use Rattle.wdl_value.specs.Kinds.{absent_at, empty_at, is_text, str_at, file_at}
use Rattle.wdl_value.specs.SameType.{TypeTest, same_type}
use Rattle.wdl_value.proofs.SameTypeLemmas.{same_type-true, same_type-refl}
use Rattle.wdl_base.proofs.Options.{map_parts}

-- ---- induction by one layer

abbrev Known : (Ty → Type 0) → Type 0
Known P = (t : Ty) × P t

abbrev plain : (P : Ty → Type 0) → Ty-F (Known P) → Ty-F Ty
plain P = map-Ty (Known P) Ty (λ (k : Known P). k.0)

induct : (P : Ty → Type 0) → ((y : Ty-F (Known P)) (t : Ty) → out-Ty t ≡ plain P y → P t) → (t : Ty) → P t
induct P f = ind-Ty P (λ x y is. subst (λ (z : Ty-F Ty). P (roll-Ty z)) is (f y (roll-Ty (plain P y)) (out-roll-Ty (plain P y))))

-- ---- layers

pub is_opt : (t s : Ty) → out-Ty t ≡ type.Opt s → t ≡ ty.Opt s
is_opt t s is = sym (roll-out-Ty t) ∙ ap roll-Ty is ∙ ty.rolls-Opt s

pub of_layers : (t u : Ty) (x : Ty-F Ty) → out-Ty t ≡ x → out-Ty u ≡ x → t ≡ u
of_layers t u x is js = sym (roll-out-Ty t) ∙ ap roll-Ty (is ∙ sym js) ∙ roll-out-Ty u

pub plain_bare : (t : Ty) → is_optional (out-Ty t) ≡ false → bare t ≡ t
plain_bare t h = sym (bare-other t (λ x e. false≢true (sym h ∙ ap is_optional (ap out-Ty e ∙ ty.outs-Opt x))))

plain_self : (t : Ty) (x : Ty-F Ty) → out-Ty t ≡ x → is_optional x ≡ false → out-Ty (bare t) ≡ x
plain_self t x is h = ap out-Ty (plain_bare t (ap is_optional is ∙ h)) ∙ is

bare_of : (t s : Ty) → out-Ty t ≡ type.Opt s → bare t ≡ bare s
bare_of t s is = ap bare (is_opt t s is) ∙ bare-Opt s

abbrev plain_layer : Ty-F Ty → Bool
plain_layer (type.Opt t) = false
plain_layer type.Absent = false
plain_layer type.Empty = false
plain_layer x = true

two_some : {A B C : Type 0} (f : A → B → C) (o : Option A) (u : Option B) (c : C) → option_and_then (λ a. option_map (f a) u) o ≡ Some c → (a : A) × (b : B) × (o ≡ Some a) × (u ≡ Some b) × (f a b ≡ c)
two_some f None u c h = cc
two_some f (Some a) None c h = cc
two_some f (Some a) (Some b) c h = (a, b, refl, refl, same_Some (f a b) c h)

-- ---- coercions by layers

co_at : (t u : Ty) (x : Ty-F Ty) → out-Ty t ≡ x → coerces t u ≡ coerces_step (map-Ty Ty TypeTest coerces x) u
co_at t u x is = ap (λ (f : TypeTest). f u) (fold_out-Ty TypeTest coerces_step t) ∙ ap (λ (z : Ty-F Ty). coerces_step (map-Ty Ty TypeTest coerces z) u) is

co_plain : (t u : Ty) (x : Ty-F Ty) → out-Ty t ≡ x → plain_layer x ≡ true → coerces t u ≡ plain_coerces (map-Ty Ty TypeTest coerces x) (out-Ty (bare u))
co_plain t u (type.Opt s) is h = absurd (false≢true h)
co_plain t u type.Absent is h = absurd (false≢true h)
co_plain t u type.Empty is h = absurd (false≢true h)
co_plain t u x is h = co_at t u x is

co_opt : (t u a b : Ty) → out-Ty t ≡ type.Opt a → out-Ty u ≡ type.Opt b → coerces t u ≡ coerces a b
co_opt t u a b is js = co_at t u (type.Opt a) is ∙ ap (opt_coerces (coerces a)) js

co_absent : (t u : Ty) → out-Ty t ≡ type.Absent → coerces t u ≡ takes_absent (out-Ty u)
co_absent t u is = co_at t u type.Absent is

pub co_empty : (t u : Ty) → out-Ty t ≡ type.Empty → coerces t u ≡ true
co_empty t u is = co_at t u type.Empty is

same_bare : (t u v : Ty) → plain_layer (out-Ty t) ≡ true → bare u ≡ bare v → coerces t u ≡ coerces t v
same_bare t u v h e = co_plain t u (out-Ty t) refl h ∙ ap (λ (b : Ty). plain_coerces (map-Ty Ty TypeTest coerces (out-Ty t)) (out-Ty b)) e ∙ sym (co_plain t v (out-Ty t) refl h)

abbrev Itself : Ty → Type 0
Itself t = coerces t t ≡ true

itself_at : (y : Ty-F (Known Itself)) (t : Ty) → out-Ty t ≡ plain Itself y → Itself t
itself_at type.Bool t is = co_at t t type.Bool is ∙ ap (plain_coerces type.Bool) (plain_self t type.Bool is refl)
itself_at type.Int t is = co_at t t type.Int is ∙ ap (plain_coerces type.Int) (plain_self t type.Int is refl)
itself_at type.Str t is = co_at t t type.Str is ∙ ap (plain_coerces type.Str) (plain_self t type.Str is refl)
itself_at type.File t is = co_at t t type.File is ∙ ap (plain_coerces type.File) (plain_self t type.File is refl)
itself_at (type.Array k some) t is = co_at t t (type.Array k.0 some) is ∙ ap (plain_coerces (type.Array (coerces k.0) some)) (plain_self t (type.Array k.0 some) is refl) ∙ k.1
itself_at (type.Map k l) t is = co_at t t (type.Map k.0 l.0) is ∙ ap (plain_coerces (type.Map (coerces k.0) (coerces l.0))) (plain_self t (type.Map k.0 l.0) is refl) ∙ and_from _ _ k.1 l.1
itself_at (type.Pair k l) t is = co_at t t (type.Pair k.0 l.0) is ∙ ap (plain_coerces (type.Pair (coerces k.0) (coerces l.0))) (plain_self t (type.Pair k.0 l.0) is refl) ∙ and_from _ _ k.1 l.1
itself_at (type.Struct n) t is = co_at t t (type.Struct n) is ∙ ap (plain_coerces (type.Struct n)) (plain_self t (type.Struct n) is refl) ∙ (bytes_eq-Decides n n).1 refl
itself_at (type.Opt k) t is = co_opt t t k.0 k.0 is is ∙ k.1
itself_at type.Absent t is = co_absent t t is ∙ ap takes_absent is
itself_at type.Empty t is = co_empty t t is

pub coerces-refl : (t : Ty) → coerces t t ≡ true
coerces-refl = induct Itself itself_at

-- to the same type, optional
to_opt_at : (u k m : Ty) (x : Ty-F Ty) → out-Ty u ≡ x → out-Ty k ≡ type.Opt m → is_optional x ≡ false → coerces u m ≡ true → coerces u k ≡ true
to_opt_at u k m (type.Opt s) is js h c = absurd (false≢true (sym h))
to_opt_at u k m type.Absent is js h c = co_absent u k is ∙ ap takes_absent js
to_opt_at u k m type.Empty is js h c = co_empty u k is
to_opt_at u k m x is js h c = same_bare u k m (ap plain_layer is) (bare_of k m js) ∙ c

pub to_opt : (u m : Ty) → is_optional (out-Ty u) ≡ false → coerces u m ≡ true → coerces u (ty.Opt m) ≡ true
to_opt u m h c = to_opt_at u (ty.Opt m) m (out-Ty u) refl (ty.outs-Opt m) h c

takes_optional : (x : Ty-F Ty) → is_optional x ≡ true → takes_absent x ≡ true
takes_optional (type.Opt s) h = refl
takes_optional x h = absurd (false≢true h)

pub absent_to_opt : (u : Ty) → is_optional (out-Ty u) ≡ true → coerces ty.Absent u ≡ true
absent_to_opt u h = co_absent ty.Absent u ty.outs-Absent ∙ takes_optional (out-Ty u) h

text_to_str : (b : Ty) (x : Ty-F Ty) → out-Ty b ≡ x → (str_at x || file_at x) ≡ true → coerces b ty.Str ≡ true
text_to_str b type.Str is h = co_plain b ty.Str type.Str is refl ∙ ap (plain_coerces type.Str) (plain_self ty.Str type.Str ty.outs-Str refl)
text_to_str b type.File is h = co_plain b ty.Str type.File is refl ∙ ap (plain_coerces type.File) (plain_self ty.Str type.Str ty.outs-Str refl)
text_to_str b x is h = absurd (false≢true h)

-- ---- to an array, a map or a pair by the parts

pub to_array : (w m v b : Ty) (s q : Bool) → out-Ty w ≡ type.Array v s → out-Ty m ≡ type.Array b q → coerces v b ≡ true → coerces w m ≡ true
to_array w m v b s q ws js c = co_plain w m (type.Array v s) ws refl ∙ ap (plain_coerces (type.Array (coerces v) s)) (plain_self m (type.Array b q) js refl) ∙ c

pub to_map : (w m v b r e : Ty) → out-Ty w ≡ type.Map v r → out-Ty m ≡ type.Map b e → coerces v b ≡ true → coerces r e ≡ true → coerces w m ≡ true
to_map w m v b r e ws js c d = co_plain w m (type.Map v r) ws refl ∙ ap (plain_coerces (type.Map (coerces v) (coerces r))) (plain_self m (type.Map b e) js refl) ∙ and_from _ _ c d

pub to_pair : (w m v b r e : Ty) → out-Ty w ≡ type.Pair v r → out-Ty m ≡ type.Pair b e → coerces v b ≡ true → coerces r e ≡ true → coerces w m ≡ true
to_pair w m v b r e ws js c d = co_plain w m (type.Pair v r) ws refl ∙ ap (plain_coerces (type.Pair (coerces v) (coerces r))) (plain_self m (type.Pair b e) js refl) ∙ and_from _ _ c d

-- ---- the second type coerces to the join

abbrev Marking : Ty → Type 0
Marking u = (m : Ty) → coerces (bare u) m ≡ true → coerces u (marked u m) ≡ true

unmarked : (u m : Ty) → is_optional (out-Ty u) ≡ false → marked u m ≡ m
unmarked u m h = sym (marked-other u m (λ x e. false≢true (sym h ∙ ap is_optional (ap out-Ty e ∙ ty.outs-Opt x))))

to_unmarked : (u m : Ty) → is_optional (out-Ty u) ≡ false → coerces (bare u) m ≡ true → coerces u (marked u m) ≡ true
to_unmarked u m h c = ap (coerces u) (unmarked u m h) ∙ ap (λ (b : Ty). coerces b m) (sym (plain_bare u h)) ∙ c

marking_at : (y : Ty-F (Known Marking)) (u : Ty) → out-Ty u ≡ plain Marking y → Marking u
marking_at (type.Opt k) u is m c =
    let j : marked u m ≡ ty.Opt (marked k.0 m) = ap (λ (w : Ty). marked w m) (is_opt u k.0 is) ∙ marked-Opt k.0 m in
    ap (coerces u) j ∙ co_opt u (ty.Opt (marked k.0 m)) k.0 (marked k.0 m) is (ty.outs-Opt (marked k.0 m)) ∙ k.1 m (ap (λ (b : Ty). coerces b m) (sym (bare_of u k.0 is)) ∙ c)
marking_at y u is m c = to_unmarked u m (ap is_optional is) c

to_marked : (u m : Ty) → coerces (bare u) m ≡ true → coerces u (marked u m) ≡ true
to_marked = induct Marking marking_at

abbrev Right : Ty → Type 0
Right t = (u j : Ty) → join t u ≡ Some j → coerces u j ≡ true

right_other : (t b m : Ty) → other_join t b ≡ Some m → coerces b m ≡ true
right_other t b m h = by_same (same_type t b) refl h
  where
    by_text : (c d : Bool) → is_text b ≡ d → (if c && d then Some ty.Str else None) ≡ Some m → coerces b m ≡ true
    by_text true true e h = subst (λ (i : Ty). coerces b i ≡ true) (same_Some ty.Str m h) (text_to_str b (out-Ty b) refl e)
    by_text true false e h = cc
    by_text false d e h = cc

    by_same : (c : Bool) → same_type t b ≡ c → (if c then Some t else (if is_text t && is_text b then Some ty.Str else None)) ≡ Some m → coerces b m ≡ true
    by_same true e h = subst (λ (i : Ty). coerces b i ≡ true) (sym (same_type-true t b e) ∙ same_Some t m h) (coerces-refl b)
    by_same false e h = by_text (is_text t) (is_text b) refl h

right_rest : (t b m : Ty) (z : Ty-F Ty) → out-Ty b ≡ z → (if empty_at z then Some t else (if absent_at z then Some (ty.Opt t) else other_join t b)) ≡ Some m → coerces b m ≡ true
right_rest t b m type.Empty is h = co_empty b m is
right_rest t b m type.Absent is h = subst (λ (i : Ty). coerces b i ≡ true) (same_Some (ty.Opt t) m h) (co_absent b (ty.Opt t) is ∙ ap takes_absent (ty.outs-Opt t))
right_rest t b m z is h = right_other t b m h

right_array : (k : Known Right) (some : Bool) (t b m : Ty) (z : Ty-F Ty) → out-Ty b ≡ z → (if empty_at z then Some t else (if absent_at z then Some (ty.Opt t) else parts_join t (type.Array (join k.0) some) b z)) ≡ Some m → coerces b m ≡ true
right_array k some t b m (type.Array v also) is h =
    let p = map_parts (λ (i : Ty). ty.Array i (some && also)) (join k.0 v) m h in
    subst (λ (i : Ty). coerces b i ≡ true) p.2 (to_array b (ty.Array p.0 (some && also)) v p.0 also (some && also) is (ty.outs-Array p.0 (some && also)) (k.1 v p.0 p.1))
right_array k some t b m type.Empty is h = right_rest t b m type.Empty is h
right_array k some t b m type.Absent is h = right_rest t b m type.Absent is h
right_array k some t b m z is h = right_other t b m h

right_map : (k l : Known Right) (t b m : Ty) (z : Ty-F Ty) → out-Ty b ≡ z → (if empty_at z then Some t else (if absent_at z then Some (ty.Opt t) else parts_join t (type.Map (join k.0) (join l.0)) b z)) ≡ Some m → coerces b m ≡ true
right_map k l t b m (type.Map v w) is h =
    let p = two_some ty.Map (join k.0 v) (join l.0 w) m h in
    subst (λ (i : Ty). coerces b i ≡ true) p.4 (to_map b (ty.Map p.0 p.1) v p.0 w p.1 is (ty.outs-Map p.0 p.1) (k.1 v p.0 p.2) (l.1 w p.1 p.3))
right_map k l t b m type.Empty is h = right_rest t b m type.Empty is h
right_map k l t b m type.Absent is h = right_rest t b m type.Absent is h
right_map k l t b m z is h = right_other t b m h

right_pair : (k l : Known Right) (t b m : Ty) (z : Ty-F Ty) → out-Ty b ≡ z → (if empty_at z then Some t else (if absent_at z then Some (ty.Opt t) else parts_join t (type.Pair (join k.0) (join l.0)) b z)) ≡ Some m → coerces b m ≡ true
right_pair k l t b m (type.Pair v w) is h =
    let p = two_some ty.Pair (join k.0 v) (join l.0 w) m h in
    subst (λ (i : Ty). coerces b i ≡ true) p.4 (to_pair b (ty.Pair p.0 p.1) v p.0 w p.1 is (ty.outs-Pair p.0 p.1) (k.1 v p.0 p.2) (l.1 w p.1 p.3))
right_pair k l t b m type.Empty is h = right_rest t b m type.Empty is h
right_pair k l t b m type.Absent is h = right_rest t b m type.Absent is h
right_pair k l t b m z is h = right_other t b m h

right_parts : (y : Ty-F (Known Right)) (t b m : Ty) (z : Ty-F Ty) → out-Ty b ≡ z → (if empty_at z then Some t else (if absent_at z then Some (ty.Opt t) else parts_join t (map-Ty Ty Joiner join (plain Right y)) b z)) ≡ Some m → coerces b m ≡ true
right_parts (type.Array k some) t b m z is h = right_array k some t b m z is h
right_parts (type.Map k l) t b m z is h = right_map k l t b m z is h
right_parts (type.Pair k l) t b m z is h = right_pair k l t b m z is h
right_parts y t b m z is h = right_rest t b m z is h

right_marked : (y : Ty-F (Known Right)) (t u j : Ty) → option_map (marked u) (plain_join t (map-Ty Ty Joiner join (plain Right y)) (bare u)) ≡ Some j → coerces u j ≡ true
right_marked y t u j h =
    let p = map_parts (marked u) (plain_join t (map-Ty Ty Joiner join (plain Right y)) (bare u)) j h in
    subst (λ (i : Ty). coerces u i ≡ true) p.2 (to_marked u p.0 (right_parts y t (bare u) p.0 (out-Ty (bare u)) refl p.1))

absent_right : (u : Ty) (z : Ty-F Ty) → out-Ty u ≡ z → coerces u (absent_join u z) ≡ true
absent_right u (type.Opt v) is = coerces-refl u
absent_right u type.Absent is = coerces-refl u
absent_right u type.Empty is = co_empty u ty.Absent is
absent_right u z is = to_opt u u (ap is_optional is) (coerces-refl u)

opt_right : (k : Known Right) (t u j : Ty) (z : Ty-F Ty) → out-Ty t ≡ type.Opt k.0 → out-Ty u ≡ z → opt_join t (join k.0) u z ≡ Some j → coerces u j ≡ true
opt_right k t u j (type.Opt v) is js h =
    let p = map_parts ty.Opt (join k.0 v) j h in
    subst (λ (i : Ty). coerces u i ≡ true) p.2 (co_opt u (ty.Opt p.0) v p.0 js (ty.outs-Opt p.0) ∙ k.1 v p.0 p.1)
opt_right k t u j type.Empty is js h = co_empty u j js
opt_right k t u j type.Absent is js h = subst (λ (i : Ty). coerces u i ≡ true) (same_Some t j h) (co_absent u t js ∙ ap takes_absent is)
opt_right k t u j z is js h =
    let p = map_parts ty.Opt (join k.0 u) j h in
    subst (λ (i : Ty). coerces u i ≡ true) p.2 (to_opt u p.0 (ap is_optional js) (k.1 u p.0 p.1))

right_at : (y : Ty-F (Known Right)) (t u j : Ty) → out-Ty t ≡ plain Right y → join_at t (map-Ty Ty Joiner join (plain Right y)) u ≡ Some j → coerces u j ≡ true
right_at type.Empty t u j is h = subst (λ (i : Ty). coerces u i ≡ true) (same_Some u j h) (coerces-refl u)
right_at type.Absent t u j is h = subst (λ (i : Ty). coerces u i ≡ true) (same_Some (absent_join u (out-Ty u)) j h) (absent_right u (out-Ty u) refl)
right_at (type.Opt k) t u j is h = opt_right k t u j (out-Ty u) is refl h
right_at y t u j is h = right_marked y t u j h

pub join_right : (t u j : Ty) → join t u ≡ Some j → coerces u j ≡ true
join_right = induct Right (λ y t is u j h. right_at y t u j is (sym (join_out t u ∙ ap (λ (z : Ty-F Ty). join_at t (map-Ty Ty Joiner join z) u) is) ∙ h))

-- ---- what coerces to the first type coerces to the join

opt_plain : (f : TypeTest) (x : Ty-F Ty) → plain_layer x ≡ true → opt_coerces f x ≡ false
opt_plain f (type.Opt t) h = absurd (false≢true h)
opt_plain f x h = refl

takes_plain : (x : Ty-F Ty) → plain_layer x ≡ true → takes_absent x ≡ false
takes_plain (type.Opt t) h = absurd (false≢true h)
takes_plain type.Absent h = absurd (false≢true h)
takes_plain x h = refl

plain_optional : (x : Ty-F Ty) → plain_layer x ≡ true → is_optional x ≡ false
plain_optional (type.Opt t) h = absurd (false≢true h)
plain_optional x h = refl

refuted : {A : Type 0} (b : Bool) → b ≡ false → b ≡ true → A
refuted b e h = absurd (false≢true (sym e ∙ h))

from_empty_at : (w t j : Ty) (z : Ty-F Ty) → out-Ty w ≡ z → out-Ty t ≡ type.Empty → coerces w t ≡ true → coerces w j ≡ true
from_empty_at w t j type.Empty ws is c = co_empty w j ws
from_empty_at w t j (type.Opt a) ws is c = refuted (coerces w t) (co_at w t (type.Opt a) ws ∙ ap (opt_coerces (coerces a)) is) c
from_empty_at w t j type.Absent ws is c = refuted (coerces w t) (co_absent w t ws ∙ ap takes_absent is) c
from_empty_at w t j z ws is c = refuted (coerces w t) (co_at w t z ws ∙ ap (plain_coerces (map-Ty Ty TypeTest coerces z)) (plain_self t type.Empty is refl)) c

absent_takes : (u : Ty) (z : Ty-F Ty) → out-Ty u ≡ z → takes_absent (out-Ty (absent_join u z)) ≡ true
absent_takes u (type.Opt v) is = ap takes_absent is
absent_takes u type.Absent is = ap takes_absent is
absent_takes u type.Empty is = ap takes_absent ty.outs-Absent
absent_takes u z is = ap takes_absent (ty.outs-Opt u)

from_absent_at : (w t j : Ty) (z : Ty-F Ty) → out-Ty w ≡ z → out-Ty t ≡ type.Absent → takes_absent (out-Ty j) ≡ true → coerces w t ≡ true → coerces w j ≡ true
from_absent_at w t j type.Empty ws is h c = co_empty w j ws
from_absent_at w t j type.Absent ws is h c = co_absent w j ws ∙ h
from_absent_at w t j (type.Opt a) ws is h c = refuted (coerces w t) (co_at w t (type.Opt a) ws ∙ ap (opt_coerces (coerces a)) is) c
from_absent_at w t j z ws is h c = refuted (coerces w t) (co_at w t z ws ∙ ap (plain_coerces (map-Ty Ty TypeTest coerces z)) (plain_self t type.Absent is refl)) c

-- from an optional type to another one
from_opt_at : (w t s m : Ty) (z : Ty-F Ty) → out-Ty w ≡ z → out-Ty t ≡ type.Opt s → ((v : Ty) → coerces v s ≡ true → coerces v m ≡ true) → coerces w t ≡ true → coerces w (ty.Opt m) ≡ true
from_opt_at w t s m type.Empty ws is f c = co_empty w (ty.Opt m) ws
from_opt_at w t s m type.Absent ws is f c = co_absent w (ty.Opt m) ws ∙ ap takes_absent (ty.outs-Opt m)
from_opt_at w t s m (type.Opt a) ws is f c = co_opt w (ty.Opt m) a m ws (ty.outs-Opt m) ∙ f a (sym (co_opt w t a s ws is) ∙ c)
from_opt_at w t s m z ws is f c =
    same_bare w (ty.Opt m) m (ap plain_layer ws) (bare-Opt m) ∙ f w (sym (same_bare w t s (ap plain_layer ws) (bare_of t s is)) ∙ c)

abbrev Left : Ty → Type 0
Left t = (u j w : Ty) → join t u ≡ Some j → coerces w t ≡ true → coerces w j ≡ true

opt_left : (k : Known Left) (t u j w : Ty) (z : Ty-F Ty) → out-Ty t ≡ type.Opt k.0 → opt_join t (join k.0) u z ≡ Some j → coerces w t ≡ true → coerces w j ≡ true
opt_left k t u j w (type.Opt v) is h c =
    let p = map_parts ty.Opt (join k.0 v) j h in
    subst (λ (i : Ty). coerces w i ≡ true) p.2 (from_opt_at w t k.0 p.0 (out-Ty w) refl is (λ x. k.1 v p.0 x p.1) c)
opt_left k t u j w type.Empty is h c = subst (λ (i : Ty). coerces w i ≡ true) (same_Some t j h) c
opt_left k t u j w type.Absent is h c = subst (λ (i : Ty). coerces w i ≡ true) (same_Some t j h) c
opt_left k t u j w z is h c =
    let p = map_parts ty.Opt (join k.0 u) j h in
    subst (λ (i : Ty). coerces w i ≡ true) p.2 (from_opt_at w t k.0 p.0 (out-Ty w) refl is (λ x. k.1 u p.0 x p.1) c)

-- from a type of one kind to one of the same kind
from_array : (w t m a b : Ty) (s q : Bool) (z : Ty-F Ty) → out-Ty w ≡ z → plain_layer z ≡ true → out-Ty t ≡ type.Array a s → out-Ty m ≡ type.Array b q → ((v : Ty) → coerces v a ≡ true → coerces v b ≡ true) → coerces w t ≡ true → coerces w m ≡ true
from_array w t m a b s q (type.Array v r) ws p is js f c =
    co_plain w m (type.Array v r) ws refl ∙ ap (plain_coerces (type.Array (coerces v) r)) (plain_self m (type.Array b q) js refl)
    ∙ f v (sym (co_plain w t (type.Array v r) ws refl ∙ ap (plain_coerces (type.Array (coerces v) r)) (plain_self t (type.Array a s) is refl)) ∙ c)
from_array w t m a b s q (type.Opt v) ws p is js f c = absurd (false≢true p)
from_array w t m a b s q type.Absent ws p is js f c = absurd (false≢true p)
from_array w t m a b s q type.Empty ws p is js f c = absurd (false≢true p)
from_array w t m a b s q z ws p is js f c = refuted (coerces w t) (co_at w t z ws ∙ ap (plain_coerces (map-Ty Ty TypeTest coerces z)) (plain_self t (type.Array a s) is refl)) c

from_map : (w t m a b d e : Ty) (z : Ty-F Ty) → out-Ty w ≡ z → plain_layer z ≡ true → out-Ty t ≡ type.Map a d → out-Ty m ≡ type.Map b e → ((v : Ty) → coerces v a ≡ true → coerces v b ≡ true) → ((v : Ty) → coerces v d ≡ true → coerces v e ≡ true) → coerces w t ≡ true → coerces w m ≡ true
from_map w t m a b d e (type.Map v r) ws p is js f g c =
    let h = and_parts (coerces v a) (coerces r d) (sym (co_plain w t (type.Map v r) ws refl ∙ ap (plain_coerces (type.Map (coerces v) (coerces r))) (plain_self t (type.Map a d) is refl)) ∙ c) in
    co_plain w m (type.Map v r) ws refl ∙ ap (plain_coerces (type.Map (coerces v) (coerces r))) (plain_self m (type.Map b e) js refl) ∙ and_from _ _ (f v h.0) (g r h.1)
from_map w t m a b d e (type.Opt v) ws p is js f g c = absurd (false≢true p)
from_map w t m a b d e type.Absent ws p is js f g c = absurd (false≢true p)
from_map w t m a b d e type.Empty ws p is js f g c = absurd (false≢true p)
from_map w t m a b d e z ws p is js f g c = refuted (coerces w t) (co_at w t z ws ∙ ap (plain_coerces (map-Ty Ty TypeTest coerces z)) (plain_self t (type.Map a d) is refl)) c

from_pair : (w t m a b d e : Ty) (z : Ty-F Ty) → out-Ty w ≡ z → plain_layer z ≡ true → out-Ty t ≡ type.Pair a d → out-Ty m ≡ type.Pair b e → ((v : Ty) → coerces v a ≡ true → coerces v b ≡ true) → ((v : Ty) → coerces v d ≡ true → coerces v e ≡ true) → coerces w t ≡ true → coerces w m ≡ true
from_pair w t m a b d e (type.Pair v r) ws p is js f g c =
    let h = and_parts (coerces v a) (coerces r d) (sym (co_plain w t (type.Pair v r) ws refl ∙ ap (plain_coerces (type.Pair (coerces v) (coerces r))) (plain_self t (type.Pair a d) is refl)) ∙ c) in
    co_plain w m (type.Pair v r) ws refl ∙ ap (plain_coerces (type.Pair (coerces v) (coerces r))) (plain_self m (type.Pair b e) js refl) ∙ and_from _ _ (f v h.0) (g r h.1)
from_pair w t m a b d e (type.Opt v) ws p is js f g c = absurd (false≢true p)
from_pair w t m a b d e type.Absent ws p is js f g c = absurd (false≢true p)
from_pair w t m a b d e type.Empty ws p is js f g c = absurd (false≢true p)
from_pair w t m a b d e z ws p is js f g c = refuted (coerces w t) (co_at w t z ws ∙ ap (plain_coerces (map-Ty Ty TypeTest coerces z)) (plain_self t (type.Pair a d) is refl)) c

-- what coerces to a text coerces to String
from_text : (w t : Ty) (z x : Ty-F Ty) → out-Ty w ≡ z → plain_layer z ≡ true → out-Ty t ≡ x → (str_at x || file_at x) ≡ true → coerces w t ≡ true → coerces w ty.Str ≡ true
from_text w t z type.Str ws p is h c = subst (λ (i : Ty). coerces w i ≡ true) (of_layers t ty.Str type.Str is ty.outs-Str) c
from_text w t type.Str type.File ws p is h c = text_to_str w type.Str ws refl
from_text w t type.File type.File ws p is h c = text_to_str w type.File ws refl
from_text w t (type.Opt v) type.File ws p is h c = absurd (false≢true p)
from_text w t type.Absent type.File ws p is h c = absurd (false≢true p)
from_text w t type.Empty type.File ws p is h c = absurd (false≢true p)
from_text w t z type.File ws p is h c = refuted (coerces w t) (co_at w t z ws ∙ ap (plain_coerces (map-Ty Ty TypeTest coerces z)) (plain_self t type.File is refl)) c
from_text w t z x ws p is h c = absurd (false≢true h)

left_other : (t b m w : Ty) → plain_layer (out-Ty w) ≡ true → other_join t b ≡ Some m → coerces w t ≡ true → coerces w m ≡ true
left_other t b m w p h c = by_same (same_type t b) h
  where
    by_text : (d e : Bool) → is_text t ≡ d → (if d && e then Some ty.Str else None) ≡ Some m → coerces w m ≡ true
    by_text true true is h = subst (λ (i : Ty). coerces w i ≡ true) (same_Some ty.Str m h) (from_text w t (out-Ty w) (out-Ty t) refl p refl is c)
    by_text true false is h = cc
    by_text false e is h = cc

    by_same : (d : Bool) → (if d then Some t else (if is_text t && is_text b then Some ty.Str else None)) ≡ Some m → coerces w m ≡ true
    by_same true h = subst (λ (i : Ty). coerces w i ≡ true) (same_Some t m h) c
    by_same false h = by_text (is_text t) (is_text b) refl h

left_rest : (t b m w : Ty) (z : Ty-F Ty) → plain_layer (out-Ty w) ≡ true → (if empty_at z then Some t else (if absent_at z then Some (ty.Opt t) else other_join t b)) ≡ Some m → coerces w t ≡ true → coerces w m ≡ true
left_rest t b m w type.Empty p h c = subst (λ (i : Ty). coerces w i ≡ true) (same_Some t m h) c
left_rest t b m w type.Absent p h c = subst (λ (i : Ty). coerces w i ≡ true) (same_Some (ty.Opt t) m h) (same_bare w (ty.Opt t) t p (bare-Opt t) ∙ c)
left_rest t b m w z p h c = left_other t b m w p h c

left_array : (k : Known Left) (some : Bool) (t b m w : Ty) (z : Ty-F Ty) → out-Ty t ≡ type.Array k.0 some → plain_layer (out-Ty w) ≡ true → (if empty_at z then Some t else (if absent_at z then Some (ty.Opt t) else parts_join t (type.Array (join k.0) some) b z)) ≡ Some m → coerces w t ≡ true → coerces w m ≡ true
left_array k some t b m w (type.Array v also) is p h c =
    let q = map_parts (λ (i : Ty). ty.Array i (some && also)) (join k.0 v) m h in
    subst (λ (i : Ty). coerces w i ≡ true) q.2 (from_array w t (ty.Array q.0 (some && also)) k.0 q.0 some (some && also) (out-Ty w) refl p is (ty.outs-Array q.0 (some && also)) (λ x. k.1 v q.0 x q.1) c)
left_array k some t b m w type.Empty is p h c = left_rest t b m w type.Empty p h c
left_array k some t b m w type.Absent is p h c = left_rest t b m w type.Absent p h c
left_array k some t b m w z is p h c = left_other t b m w p h c

left_map : (k l : Known Left) (t b m w : Ty) (z : Ty-F Ty) → out-Ty t ≡ type.Map k.0 l.0 → plain_layer (out-Ty w) ≡ true → (if empty_at z then Some t else (if absent_at z then Some (ty.Opt t) else parts_join t (type.Map (join k.0) (join l.0)) b z)) ≡ Some m → coerces w t ≡ true → coerces w m ≡ true
left_map k l t b m w (type.Map v u) is p h c =
    let q = two_some ty.Map (join k.0 v) (join l.0 u) m h in
    subst (λ (i : Ty). coerces w i ≡ true) q.4 (from_map w t (ty.Map q.0 q.1) k.0 q.0 l.0 q.1 (out-Ty w) refl p is (ty.outs-Map q.0 q.1) (λ x. k.1 v q.0 x q.2) (λ x. l.1 u q.1 x q.3) c)
left_map k l t b m w type.Empty is p h c = left_rest t b m w type.Empty p h c
left_map k l t b m w type.Absent is p h c = left_rest t b m w type.Absent p h c
left_map k l t b m w z is p h c = left_other t b m w p h c

left_pair : (k l : Known Left) (t b m w : Ty) (z : Ty-F Ty) → out-Ty t ≡ type.Pair k.0 l.0 → plain_layer (out-Ty w) ≡ true → (if empty_at z then Some t else (if absent_at z then Some (ty.Opt t) else parts_join t (type.Pair (join k.0) (join l.0)) b z)) ≡ Some m → coerces w t ≡ true → coerces w m ≡ true
left_pair k l t b m w (type.Pair v u) is p h c =
    let q = two_some ty.Pair (join k.0 v) (join l.0 u) m h in
    subst (λ (i : Ty). coerces w i ≡ true) q.4 (from_pair w t (ty.Pair q.0 q.1) k.0 q.0 l.0 q.1 (out-Ty w) refl p is (ty.outs-Pair q.0 q.1) (λ x. k.1 v q.0 x q.2) (λ x. l.1 u q.1 x q.3) c)
left_pair k l t b m w type.Empty is p h c = left_rest t b m w type.Empty p h c
left_pair k l t b m w type.Absent is p h c = left_rest t b m w type.Absent p h c
left_pair k l t b m w z is p h c = left_other t b m w p h c

left_parts : (y : Ty-F (Known Left)) (t b m w : Ty) (z : Ty-F Ty) → out-Ty t ≡ plain Left y → plain_layer (out-Ty w) ≡ true → (if empty_at z then Some t else (if absent_at z then Some (ty.Opt t) else parts_join t (map-Ty Ty Joiner join (plain Left y)) b z)) ≡ Some m → coerces w t ≡ true → coerces w m ≡ true
left_parts (type.Array k some) t b m w z is p h c = left_array k some t b m w z is p h c
left_parts (type.Map k l) t b m w z is p h c = left_map k l t b m w z is p h c
left_parts (type.Pair k l) t b m w z is p h c = left_pair k l t b m w z is p h c
left_parts y t b m w z is p h c = left_rest t b m w z p h c

abbrev MarkedBare : Ty → Type 0
MarkedBare u = (m : Ty) → bare (marked u m) ≡ bare m

marked_bare_at : (y : Ty-F (Known MarkedBare)) (u : Ty) → out-Ty u ≡ plain MarkedBare y → MarkedBare u
marked_bare_at (type.Opt k) u is m = ap (λ (w : Ty). bare (marked w m)) (is_opt u k.0 is) ∙ ap bare (marked-Opt k.0 m) ∙ bare-Opt (marked k.0 m) ∙ k.1 m
marked_bare_at y u is m = ap bare (unmarked u m (ap is_optional is))

marked_bare : (u m : Ty) → bare (marked u m) ≡ bare m
marked_bare = induct MarkedBare marked_bare_at

left_plain_at : (y : Ty-F (Known Left)) (t u j w : Ty) (z : Ty-F Ty) → out-Ty t ≡ plain Left y → plain_layer (plain Left y) ≡ true → out-Ty w ≡ z → option_map (marked u) (plain_join t (map-Ty Ty Joiner join (plain Left y)) (bare u)) ≡ Some j → coerces w t ≡ true → coerces w j ≡ true
left_plain_at y t u j w type.Empty is p ws h c = co_empty w j ws
left_plain_at y t u j w (type.Opt a) is p ws h c = refuted (coerces w t) (co_at w t (type.Opt a) ws ∙ ap (opt_coerces (coerces a)) is ∙ opt_plain (coerces a) (plain Left y) p) c
left_plain_at y t u j w type.Absent is p ws h c = refuted (coerces w t) (co_absent w t ws ∙ ap takes_absent is ∙ takes_plain (plain Left y) p) c
left_plain_at y t u j w z is p ws h c =
    let q = map_parts (marked u) (plain_join t (map-Ty Ty Joiner join (plain Left y)) (bare u)) j h in
    let l : plain_layer (out-Ty w) ≡ true = ap plain_layer ws in
    subst (λ (i : Ty). coerces w i ≡ true) q.2 (same_bare w (marked u q.0) q.0 l (marked_bare u q.0) ∙ left_parts y t (bare u) q.0 w (out-Ty (bare u)) is l q.1 c)

left_at : (y : Ty-F (Known Left)) (t u j w : Ty) → out-Ty t ≡ plain Left y → join_at t (map-Ty Ty Joiner join (plain Left y)) u ≡ Some j → coerces w t ≡ true → coerces w j ≡ true
left_at type.Empty t u j w is h c = from_empty_at w t j (out-Ty w) refl is c
left_at type.Absent t u j w is h c = from_absent_at w t j (out-Ty w) refl is (ap (λ (i : Ty). takes_absent (out-Ty i)) (sym (same_Some (absent_join u (out-Ty u)) j h)) ∙ absent_takes u (out-Ty u) refl) c
left_at (type.Opt k) t u j w is h c = opt_left k t u j w (out-Ty u) is h c
left_at y t u j w is h c = left_plain_at y t u j w (out-Ty w) is refl refl h c

pub join_left : (t u j w : Ty) → join t u ≡ Some j → coerces w t ≡ true → coerces w j ≡ true
join_left = induct Left (λ y t is u j w h c. left_at y t u j w is (sym (join_out t u ∙ ap (λ (z : Ty-F Ty). join_at t (map-Ty Ty Joiner join z) u) is) ∙ h) c)

-- ---- a type joins itself

abbrev Alone : Ty → Type 0
Alone t = join t t ≡ Some t

same_other : (t : Ty) → other_join t t ≡ Some t
same_other t = ap (λ (b : Bool). if b then Some t else (if is_text t && is_text t then Some ty.Str else None)) (same_type-refl t)

both_marks : (b : Bool) → (b && b) ≡ b
both_marks true = refl
both_marks false = refl

array_same : (t a : Ty) (some : Bool) → out-Ty t ≡ type.Array a some → join a a ≡ Some a → array_of (join a a) (some && some) ≡ Some t
array_same t a some is h =
    ap (λ (o : Option Ty). array_of o (some && some)) h ∙ ap (λ (b : Bool). Some (ty.Array a b)) (both_marks some)
    ∙ ap Some (of_layers (ty.Array a some) t (type.Array a some) (ty.outs-Array a some) is)

map_same : (t a b : Ty) → out-Ty t ≡ type.Map a b → join a a ≡ Some a → join b b ≡ Some b → map_of (join a a) (join b b) ≡ Some t
map_same t a b is h k =
    ap (λ (o : Option Ty). map_of o (join b b)) h ∙ ap (λ (o : Option Ty). option_map (ty.Map a) o) k
    ∙ ap Some (of_layers (ty.Map a b) t (type.Map a b) (ty.outs-Map a b) is)

pair_same : (t a b : Ty) → out-Ty t ≡ type.Pair a b → join a a ≡ Some a → join b b ≡ Some b → pair_of (join a a) (join b b) ≡ Some t
pair_same t a b is h k =
    ap (λ (o : Option Ty). pair_of o (join b b)) h ∙ ap (λ (o : Option Ty). option_map (ty.Pair a) o) k
    ∙ ap Some (of_layers (ty.Pair a b) t (type.Pair a b) (ty.outs-Pair a b) is)

abbrev parts_of : Ty → Ty-F Ty → Option Ty
parts_of t x = if empty_at x then Some t else (if absent_at x then Some (ty.Opt t) else parts_join t (map-Ty Ty Joiner join x) t x)

alone_marked : (t : Ty) (x : Ty-F Ty) → out-Ty t ≡ x → is_optional x ≡ false → parts_of t x ≡ Some t → option_map (marked t) (plain_join t (map-Ty Ty Joiner join x) (bare t)) ≡ Some t
alone_marked t x is h e =
    let o : is_optional (out-Ty t) ≡ false = ap is_optional is ∙ h in
    ap (λ (b : Ty). option_map (marked t) (plain_join t (map-Ty Ty Joiner join x) b)) (plain_bare t o)
    ∙ ap (λ (z : Ty-F Ty). option_map (marked t) (if empty_at z then Some t else (if absent_at z then Some (ty.Opt t) else parts_join t (map-Ty Ty Joiner join x) t z))) is
    ∙ ap (option_map (marked t)) e ∙ ap Some (unmarked t t o)

alone_at : (y : Ty-F (Known Alone)) (t : Ty) → out-Ty t ≡ plain Alone y → join_at t (map-Ty Ty Joiner join (plain Alone y)) t ≡ Some t
alone_at type.Empty t is = refl
alone_at type.Absent t is = ap (λ (z : Ty-F Ty). Some (absent_join t z)) is
alone_at (type.Opt k) t is =
    ap (opt_join t (join k.0) t) is ∙ ap (option_map ty.Opt) k.1 ∙ ap Some (of_layers (ty.Opt k.0) t (type.Opt k.0) (ty.outs-Opt k.0) is)
alone_at (type.Array k some) t is = alone_marked t (type.Array k.0 some) is refl (array_same t k.0 some is k.1)
alone_at (type.Map k l) t is = alone_marked t (type.Map k.0 l.0) is refl (map_same t k.0 l.0 is k.1 l.1)
alone_at (type.Pair k l) t is = alone_marked t (type.Pair k.0 l.0) is refl (pair_same t k.0 l.0 is k.1 l.1)
alone_at y t is = alone_marked t (plain Alone y) is refl (same_other t)

pub join_same : (t : Ty) → join t t ≡ Some t
join_same = induct Alone (λ y t is. join_out t t ∙ ap (λ (z : Ty-F Ty). join_at t (map-Ty Ty Joiner join z) t) is ∙ alone_at y t is)

-- only Empty joins and coerces to Empty
empty_to_empty : (t u : Ty) (z : Ty-F Ty) → out-Ty t ≡ z → out-Ty u ≡ type.Empty → coerces t u ≡ true → empty_at z ≡ true
empty_to_empty t u type.Empty ts is c = refl
empty_to_empty t u (type.Opt a) ts is c = refuted (coerces t u) (co_at t u (type.Opt a) ts ∙ ap (opt_coerces (coerces a)) is) c
empty_to_empty t u type.Absent ts is c = refuted (coerces t u) (co_absent t u ts ∙ ap takes_absent is) c
empty_to_empty t u z ts is c = refuted (coerces t u) (co_at t u z ts ∙ ap (plain_coerces (map-Ty Ty TypeTest coerces z)) (plain_self u type.Empty is refl)) c

empty_layer : (x : Ty-F Ty) → empty_at x ≡ true → x ≡ type.Empty
empty_layer type.Empty h = refl
empty_layer x h = absurd (false≢true h)

pub no_empty : (t u : Ty) → coerces t u ≡ true → empty_at (out-Ty t) ≡ false → empty_at (out-Ty u) ≡ false
no_empty t u c h = by_test (empty_at (out-Ty u)) refl
  where
    by_test : (b : Bool) → empty_at (out-Ty u) ≡ b → empty_at (out-Ty u) ≡ false
    by_test false e = e
    by_test true e = absurd (false≢true (sym h ∙ empty_to_empty t u (out-Ty t) refl (empty_layer (out-Ty u) e) c))
