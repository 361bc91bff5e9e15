-- Equality of values: inductions by one layer.
use Rattle.std.proofs.Common.{◌≡◌, true, ◌&&◌, List, [], ◌∷◌, sym, ap, ◌∙◌, subst, refl}
use Rattle.std.proofs.lemmas.Bool.{false≢true, and_parts, and_from}
use Rattle.std.proofs.lemmas.Bool.Decides.{Decides-int_eq}
use Rattle.std.proofs.lemmas.Slice.Eq.{bytes_eq-Decides}
use Rattle.std.specs.Str.{bytes_eq}
use Rattle.wdl_value.specs.declared.value.Value.{Value, Value-F, out-Value, roll-Value, roll-out-Value, out-roll-Value, map-Value, ind-Value, fold-roll-Value}
use Rattle.wdl_value.specs.declared.value.Value.TheOpen as layer
use Rattle.wdl_value.specs.declared.value.MapRow.{MapRow}
use Rattle.wdl_value.specs.declared.value.Field.{Field}
use Rattle.wdl_value.specs.SameValue.{ValueTest, same_at, same_value, same_all, same_rows, same_fields}
use Rattle.wdl_value.proofs.SameTypeLemmas.{same_bool-true, same_bool-refl}
use Rattle.wdl_value.proofs.ValueLayers.{Known, plain, firsts, first_rows, first_fields}

abbrev Holds : Value → Type 0
Holds x = (y : Value) → same_value x y ≡ true → x ≡ y

lists_same : (ks : List (Known Holds)) (ys : List Value) → same_all (firsts Holds ks) ys ≡ true → firsts Holds ks ≡ ys
lists_same [] [] h = refl
lists_same [] (y ∷ ys) h = absurd (false≢true h)
lists_same (k ∷ ks) [] h = absurd (false≢true h)
lists_same (k ∷ ks) (y ∷ ys) h =
    let p = and_parts (same_value k.0 y) (same_all (firsts Holds ks) ys) h in
    ap (λ x. x ∷ firsts Holds ks) (k.1 y p.0) ∙ ap (λ xs. y ∷ xs) (lists_same ks ys p.1)

rows_same : (ks : List (MapRow (Known Holds))) (ys : List (MapRow Value)) → same_rows (first_rows Holds ks) ys ≡ true → first_rows Holds ks ≡ ys
rows_same [] [] h = refl
rows_same [] (y ∷ ys) h = absurd (false≢true h)
rows_same (k ∷ ks) [] h = absurd (false≢true h)
rows_same (k ∷ ks) (y ∷ ys) h =
    let p = and_parts (same_value k.key.0 y.key && same_value k.value.0 y.value) (same_rows (first_rows Holds ks) ys) h in
    let q = and_parts (same_value k.key.0 y.key) (same_value k.value.0 y.value) p.0 in
    let row : (a b : Value) → MapRow Value = λ a b. record { key = a; value = b } in
    ap (λ (a : Value). row a k.value.0 ∷ first_rows Holds ks) (k.key.1 y.key q.0) ∙ ap (λ (b : Value). row y.key b ∷ first_rows Holds ks) (k.value.1 y.value q.1) ∙ ap (λ xs. y ∷ xs) (rows_same ks ys p.1)

fields_same : (ks : List (Field (Known Holds))) (ys : List (Field Value)) → same_fields (first_fields Holds ks) ys ≡ true → first_fields Holds ks ≡ ys
fields_same [] [] h = refl
fields_same [] (y ∷ ys) h = absurd (false≢true h)
fields_same (k ∷ ks) [] h = absurd (false≢true h)
fields_same (k ∷ ks) (y ∷ ys) h =
    let p = and_parts (bytes_eq k.name y.name && same_value k.value.0 y.value) (same_fields (first_fields Holds ks) ys) h in
    let q = and_parts (bytes_eq k.name y.name) (same_value k.value.0 y.value) p.0 in
    let field : (n : _) (b : Value) → Field Value = λ n b. record { name = n; value = b } in
    ap (λ n. field n k.value.0 ∷ first_fields Holds ks) ((bytes_eq-Decides k.name y.name).0 q.0) ∙ ap (λ (b : Value). field y.name b ∷ first_fields Holds ks) (k.value.1 y.value q.1) ∙ ap (λ xs. y ∷ xs) (fields_same ks ys p.1)

layer_same : (y : Value-F (Known Holds)) (z : Value-F Value) → same_at (map-Value Value ValueTest same_value (plain Holds y)) z ≡ true → plain Holds y ≡ z
layer_same (layer.Bool a) (layer.Bool b) h = ap layer.Bool (same_bool-true a b h)
layer_same (layer.Int m) (layer.Int n) h = ap layer.Int ((Decides-int_eq m n).0 h)
layer_same (layer.Str s) (layer.Str t) h = ap layer.Str ((bytes_eq-Decides s t).0 h)
layer_same (layer.File s) (layer.File t) h = ap layer.File ((bytes_eq-Decides s t).0 h)
layer_same (layer.List ks) (layer.List ys) h = ap layer.List (lists_same ks ys h)
layer_same (layer.Pair k l) (layer.Pair x y) h =
    let p = and_parts (same_value k.0 x) (same_value l.0 y) h in
    ap (λ a. layer.Pair a l.0) (k.1 x p.0) ∙ ap (layer.Pair x) (l.1 y p.1)
layer_same (layer.Map ks) (layer.Map ys) h = ap layer.Map (rows_same ks ys h)
layer_same (layer.Struct n ks) (layer.Struct m ys) h =
    let p = and_parts (bytes_eq n m) (same_fields (first_fields Holds ks) ys) h in
    ap (λ a. layer.Struct a (first_fields Holds ks)) ((bytes_eq-Decides n m).0 p.0) ∙ ap (layer.Struct m) (fields_same ks ys p.1)
layer_same layer.Absent layer.Absent h = refl
layer_same y z h = absurd (false≢true h)

pub same_value-true : (x y : Value) → same_value x y ≡ true → x ≡ y
same_value-true = ind-Value Holds (λ l y is. subst (λ (z : Value-F Value). Holds (roll-Value z)) is (λ w h.
    let e = ap (λ (f : ValueTest). f w) (fold-roll-Value ValueTest (λ x v. same_at x (out-Value v)) (plain Holds y)) in
    ap roll-Value (layer_same y (out-Value w) (sym e ∙ h)) ∙ roll-out-Value w))

abbrev Same : Value → Type 0
Same x = same_value x x ≡ true

lists_refl : (ks : List (Known Same)) → same_all (firsts Same ks) (firsts Same ks) ≡ true
lists_refl [] = refl
lists_refl (k ∷ ks) = and_from _ _ k.1 (lists_refl ks)

rows_refl : (ks : List (MapRow (Known Same))) → same_rows (first_rows Same ks) (first_rows Same ks) ≡ true
rows_refl [] = refl
rows_refl (k ∷ ks) = and_from _ _ (and_from _ _ k.key.1 k.value.1) (rows_refl ks)

fields_refl : (ks : List (Field (Known Same))) → same_fields (first_fields Same ks) (first_fields Same ks) ≡ true
fields_refl [] = refl
fields_refl (k ∷ ks) = and_from _ _ (and_from _ _ ((bytes_eq-Decides k.name k.name).1 refl) k.value.1) (fields_refl ks)

layer_refl : (y : Value-F (Known Same)) → same_at (map-Value Value ValueTest same_value (plain Same y)) (plain Same y) ≡ true
layer_refl (layer.Bool b) = same_bool-refl b
layer_refl (layer.Int n) = (Decides-int_eq n n).1 refl
layer_refl (layer.Str s) = (bytes_eq-Decides s s).1 refl
layer_refl (layer.File s) = (bytes_eq-Decides s s).1 refl
layer_refl (layer.List ks) = lists_refl ks
layer_refl (layer.Pair k l) = and_from _ _ k.1 l.1
layer_refl (layer.Map ks) = rows_refl ks
layer_refl (layer.Struct n ks) = and_from _ _ ((bytes_eq-Decides n n).1 refl) (fields_refl ks)
layer_refl layer.Absent = refl

pub same_value-refl : (x : Value) → same_value x x ≡ true
same_value-refl = ind-Value Same (λ l y is. subst (λ (z : Value-F Value). Same (roll-Value z)) is (
    let p = plain Same y in
    ap (λ (f : ValueTest). f (roll-Value p)) (fold-roll-Value ValueTest (λ x v. same_at x (out-Value v)) p)
    ∙ ap (same_at (map-Value Value ValueTest same_value p)) (out-roll-Value p) ∙ layer_refl y))
