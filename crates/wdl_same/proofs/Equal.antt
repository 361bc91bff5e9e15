-- Equality of typed expressions: inductions by one layer.
use Rattle.std.proofs.Common.{◌≡◌, ℕ, true, ◌&&◌, List, [], ◌∷◌, map, sym, ap, ◌∙◌, subst, refl, rules}
use Rattle.std.specs.Str.{bytes_eq}
use Rattle.std.proofs.lemmas.Bool.{false≢true, and_parts, and_from}
use Rattle.std.proofs.lemmas.Slice.Eq.{bytes_eq-Decides}
use denote.Enum.Bare.{same_true, true_same}
use Rattle.wdl_value.specs.contracts.operator.Func.{the_type as functions}
use Rattle.wdl_value.specs.contracts.operator.Op.{the_type as operators}
use Rattle.wdl_value.specs.declared.operator.Func.{Func}
use Rattle.wdl_value.specs.declared.operator.Op.{Op}
use Rattle.wdl_value.specs.SameType.{same_type}
use Rattle.wdl_value.proofs.SameTypeLemmas.{same_type-true, same_type-refl}
use Rattle.wdl_value.proofs.SameValueLemmas.{same_value-true, same_value-refl}
use Rattle.wdl_typed.specs.declared.expr.Choice.{Choice}
use Rattle.wdl_typed.specs.declared.expr.Choice.TheVariants as choice
use Rattle.wdl_typed.specs.declared.expr.TExpr.{TExpr, TExpr-F, fold-roll-TExpr, ind-TExpr, map-TExpr, out-TExpr, out-roll-TExpr, roll-TExpr, roll-out-TExpr}
use Rattle.wdl_typed.specs.declared.expr.TExpr.TheOpen as layer
use Rattle.wdl_typed.specs.declared.expr.TField.{TField}
use Rattle.wdl_typed.specs.declared.expr.TPair.{TPair}
use Rattle.wdl_typed.specs.declared.expr.TPart.{TPart}
use Rattle.wdl_typed.specs.declared.expr.TPart.TheVariants as part
use Rattle.flow_laws.proofs.Keys.{key_itself, key_same}
use Rattle.wdl_same.specs.Exprs.{ExprTest, layer_parts, same_at, same_expr, same_exprs, same_fields, same_parts, same_rows}
use Rattle.wdl_same.specs.Words.{same_choice, same_func, same_op}

-- ---- words

op_equal : (o p : Op) → same_op o p ≡ true → o ≡ p
unfolding same_op
op_equal o p h = same_true operators (search rules) o p h

func_equal : (f g : Func) → same_func f g ≡ true → f ≡ g
unfolding same_func
func_equal f g h = same_true functions (search rules) f g h

op_itself : (o : Op) → same_op o o ≡ true
unfolding same_op
op_itself o = true_same operators o o refl

func_itself : (f : Func) → same_func f f ≡ true
unfolding same_func
func_itself f = true_same functions f f refl

choice_equal : (a b : Choice) → same_choice a b ≡ true → a ≡ b
choice_equal choice.Plain choice.Plain h = refl
choice_equal (choice.Sep s) (choice.Sep t) h = ap choice.Sep ((bytes_eq-Decides s t).0 h)
choice_equal (choice.Both s t) (choice.Both u w) h =
    let p = and_parts (bytes_eq s u) (bytes_eq t w) h in
    ap (λ x. choice.Both x t) ((bytes_eq-Decides s u).0 p.0) ∙ ap (choice.Both u) ((bytes_eq-Decides t w).0 p.1)
choice_equal (choice.Default s) (choice.Default t) h = ap choice.Default ((bytes_eq-Decides s t).0 h)
choice_equal a b h = absurd (false≢true h)

choice_itself : (a : Choice) → same_choice a a ≡ true
choice_itself choice.Plain = refl
choice_itself (choice.Sep s) = (bytes_eq-Decides s s).1 refl
choice_itself (choice.Both s t) = and_from _ _ ((bytes_eq-Decides s s).1 refl) ((bytes_eq-Decides t t).1 refl)
choice_itself (choice.Default s) = (bytes_eq-Decides s s).1 refl

-- ---- what is the same is equal

abbrev Holds : TExpr → Type 0
Holds e = (f : TExpr) → same_expr e f ≡ true → e ≡ f

abbrev Known : Type 0
Known = (e : TExpr) × Holds e

abbrev plain : TExpr-F Known → TExpr-F TExpr
plain = map-TExpr Known TExpr (λ (k : Known). k.0)

abbrev firsts : List Known → List TExpr
firsts = map (λ (k : Known). k.0)

abbrev row : TExpr → TExpr → TPair TExpr
row a b = record { key = a; value = b }

abbrev field : List ℕ → TExpr → TField TExpr
field n a = record { name = n; value = a }

abbrev hole : TExpr → Choice → TPart TExpr
hole a c = part.Hole (record { expr = a; choice = c })

abbrev first_rows : List (TPair Known) → List (TPair TExpr)
first_rows = map (λ (k : TPair Known). row k.key.0 k.value.0)

abbrev first_fields : List (TField Known) → List (TField TExpr)
first_fields = map (λ (k : TField Known). field k.name k.value.0)

abbrev first_parts : List (TPart Known) → List (TPart TExpr)
first_parts ks = layer_parts (map-TExpr Known TExpr (λ (k : Known). k.0) (layer.Strung ks))

lists_equal : (ks : List Known) (es : List TExpr) → same_exprs (firsts ks) es ≡ true → firsts ks ≡ es
lists_equal [] [] h = refl
lists_equal [] (e ∷ es) h = absurd (false≢true h)
lists_equal (k ∷ ks) [] h = absurd (false≢true h)
lists_equal (k ∷ ks) (e ∷ es) h =
    let p = and_parts (same_expr k.0 e) (same_exprs (firsts ks) es) h in
    ap (λ (x : TExpr). x ∷ firsts ks) (k.1 e p.0) ∙ ap (λ (xs : List TExpr). e ∷ xs) (lists_equal ks es p.1)

rows_equal : (ks : List (TPair Known)) (rows : List (TPair TExpr)) → same_rows (first_rows ks) rows ≡ true → first_rows ks ≡ rows
rows_equal [] [] h = refl
rows_equal [] (r ∷ rows) h = absurd (false≢true h)
rows_equal (k ∷ ks) [] h = absurd (false≢true h)
rows_equal (k ∷ ks) (r ∷ rows) h =
    let p = and_parts (same_expr k.key.0 r.key && same_expr k.value.0 r.value) (same_rows (first_rows ks) rows) h in
    let q = and_parts (same_expr k.key.0 r.key) (same_expr k.value.0 r.value) p.0 in
    ap (λ (a : TExpr). row a k.value.0 ∷ first_rows ks) (k.key.1 r.key q.0)
    ∙ ap (λ (b : TExpr). row r.key b ∷ first_rows ks) (k.value.1 r.value q.1)
    ∙ ap (λ (xs : List (TPair TExpr)). r ∷ xs) (rows_equal ks rows p.1)

fields_equal : (ks : List (TField Known)) (fields : List (TField TExpr)) → same_fields (first_fields ks) fields ≡ true → first_fields ks ≡ fields
fields_equal [] [] h = refl
fields_equal [] (r ∷ fields) h = absurd (false≢true h)
fields_equal (k ∷ ks) [] h = absurd (false≢true h)
fields_equal (k ∷ ks) (r ∷ fields) h =
    let p = and_parts (bytes_eq k.name r.name && same_expr k.value.0 r.value) (same_fields (first_fields ks) fields) h in
    let q = and_parts (bytes_eq k.name r.name) (same_expr k.value.0 r.value) p.0 in
    ap (λ (n : List ℕ). field n k.value.0 ∷ first_fields ks) ((bytes_eq-Decides k.name r.name).0 q.0)
    ∙ ap (λ (b : TExpr). field r.name b ∷ first_fields ks) (k.value.1 r.value q.1)
    ∙ ap (λ (xs : List (TField TExpr)). r ∷ xs) (fields_equal ks fields p.1)

parts_equal : (ks : List (TPart Known)) (ps : List (TPart TExpr)) → same_parts (first_parts ks) ps ≡ true → first_parts ks ≡ ps
parts_equal [] [] h = refl
parts_equal [] (q ∷ ps) h = absurd (false≢true h)
parts_equal (part.Chars s ∷ ks) [] h = absurd (false≢true h)
parts_equal (part.Chars s ∷ ks) (part.Chars t ∷ ps) h =
    let p = and_parts (bytes_eq s t) (same_parts (first_parts ks) ps) h in
    ap (λ (x : List ℕ). part.Chars x ∷ first_parts ks) ((bytes_eq-Decides s t).0 p.0)
    ∙ ap (λ (xs : List (TPart TExpr)). part.Chars t ∷ xs) (parts_equal ks ps p.1)
parts_equal (part.Chars s ∷ ks) (part.Hole j ∷ ps) h = absurd (false≢true h)
parts_equal (part.Hole k ∷ ks) [] h = absurd (false≢true h)
parts_equal (part.Hole k ∷ ks) (part.Chars t ∷ ps) h = absurd (false≢true h)
parts_equal (part.Hole k ∷ ks) (part.Hole j ∷ ps) h =
    let p = and_parts (same_expr k.expr.0 j.expr && same_choice k.choice j.choice) (same_parts (first_parts ks) ps) h in
    let q = and_parts (same_expr k.expr.0 j.expr) (same_choice k.choice j.choice) p.0 in
    ap (λ (a : TExpr). hole a k.choice ∷ first_parts ks) (k.expr.1 j.expr q.0)
    ∙ ap (λ (c : Choice). hole j.expr c ∷ first_parts ks) (choice_equal k.choice j.choice q.1)
    ∙ ap (λ (xs : List (TPart TExpr)). part.Hole j ∷ xs) (parts_equal ks ps p.1)

-- two operands
both_equal : (make : TExpr → TExpr → TExpr-F TExpr) (k l : Known) (a b : TExpr) → (same_expr k.0 a && same_expr l.0 b) ≡ true → make k.0 l.0 ≡ make a b
both_equal make k l a b h =
    let p = and_parts (same_expr k.0 a) (same_expr l.0 b) h in
    ap (λ (x : TExpr). make x l.0) (k.1 a p.0) ∙ ap (make a) (l.1 b p.1)

layer_equal : (y : TExpr-F Known) (z : TExpr-F TExpr) → same_at (map-TExpr TExpr ExprTest same_expr (plain y)) z ≡ true → plain y ≡ z
layer_equal (layer.Lit x) (layer.Lit w) h = ap layer.Lit (same_value-true x w h)
layer_equal (layer.Get j) (layer.Get k) h = ap layer.Get (key_same j k h)
layer_equal (layer.Member k n) (layer.Member e m) h =
    let p = and_parts (same_expr k.0 e) (bytes_eq n m) h in
    ap (λ (x : TExpr). layer.Member x n) (k.1 e p.0) ∙ ap (layer.Member e) ((bytes_eq-Decides n m).0 p.1)
layer_equal (layer.At k l) (layer.At a b) h = both_equal layer.At k l a b h
layer_equal (layer.Not k) (layer.Not e) h = ap layer.Not (k.1 e h)
layer_equal (layer.Neg k) (layer.Neg e) h = ap layer.Neg (k.1 e h)
layer_equal (layer.Binary o k l) (layer.Binary u a b) h =
    let p = and_parts (same_op o u && same_expr k.0 a) (same_expr l.0 b) h in
    let q = and_parts (same_op o u) (same_expr k.0 a) p.0 in
    ap (λ x. layer.Binary x k.0 l.0) (op_equal o u q.0) ∙ ap (λ (x : TExpr). layer.Binary u x l.0) (k.1 a q.1) ∙ ap (layer.Binary u a) (l.1 b p.1)
layer_equal (layer.Choose k l m) (layer.Choose a b c) h =
    let p = and_parts (same_expr k.0 a && same_expr l.0 b) (same_expr m.0 c) h in
    both_equal (λ x w. layer.Choose x w m.0) k l a b p.0 ∙ ap (layer.Choose a b) (m.1 c p.1)
layer_equal (layer.ListOf ks) (layer.ListOf es) h = ap layer.ListOf (lists_equal ks es h)
layer_equal (layer.MapOf ks) (layer.MapOf rows) h = ap layer.MapOf (rows_equal ks rows h)
layer_equal (layer.PairOf k l) (layer.PairOf a b) h = both_equal layer.PairOf k l a b h
layer_equal (layer.StructOf n ks) (layer.StructOf m fields) h =
    let p = and_parts (bytes_eq n m) (same_fields (first_fields ks) fields) h in
    ap (λ (x : List ℕ). layer.StructOf x (first_fields ks)) ((bytes_eq-Decides n m).0 p.0) ∙ ap (layer.StructOf m) (fields_equal ks fields p.1)
layer_equal (layer.Apply f ks) (layer.Apply g es) h =
    let p = and_parts (same_func f g) (same_exprs (firsts ks) es) h in
    ap (λ x. layer.Apply x (firsts ks)) (func_equal f g p.0) ∙ ap (layer.Apply g) (lists_equal ks es p.1)
layer_equal (layer.Strung ks) (layer.Strung ps) h = ap layer.Strung (parts_equal ks ps h)
layer_equal (layer.Cast k t) (layer.Cast e u) h =
    let p = and_parts (same_expr k.0 e) (same_type t u) h in
    ap (λ (x : TExpr). layer.Cast x t) (k.1 e p.0) ∙ ap (layer.Cast e) (same_type-true t u p.1)
layer_equal y z h = absurd (false≢true h)

pub expr_equal : (e f : TExpr) → same_expr e f ≡ true → e ≡ f
expr_equal = ind-TExpr Holds (λ x y is. subst (λ (z : TExpr-F TExpr). Holds (roll-TExpr z)) is (λ f h.
    let e = ap (λ (t : ExprTest). t f) (fold-roll-TExpr ExprTest (λ l w. same_at l (out-TExpr w)) (plain y)) in
    ap roll-TExpr (layer_equal y (out-TExpr f) (sym e ∙ h)) ∙ roll-out-TExpr f))

-- ---- each expression is the same as itself

abbrev Same : TExpr → Type 0
Same e = same_expr e e ≡ true

abbrev KnownSame : Type 0
KnownSame = (e : TExpr) × Same e

abbrev itself : TExpr-F KnownSame → TExpr-F TExpr
itself = map-TExpr KnownSame TExpr (λ (k : KnownSame). k.0)

abbrev own : List KnownSame → List TExpr
own = map (λ (k : KnownSame). k.0)

abbrev own_rows : List (TPair KnownSame) → List (TPair TExpr)
own_rows = map (λ (k : TPair KnownSame). row k.key.0 k.value.0)

abbrev own_fields : List (TField KnownSame) → List (TField TExpr)
own_fields = map (λ (k : TField KnownSame). field k.name k.value.0)

abbrev own_parts : List (TPart KnownSame) → List (TPart TExpr)
own_parts ks = layer_parts (map-TExpr KnownSame TExpr (λ (k : KnownSame). k.0) (layer.Strung ks))

lists_itself : (ks : List KnownSame) → same_exprs (own ks) (own ks) ≡ true
lists_itself [] = refl
lists_itself (k ∷ ks) = and_from _ _ k.1 (lists_itself ks)

rows_itself : (ks : List (TPair KnownSame)) → same_rows (own_rows ks) (own_rows ks) ≡ true
rows_itself [] = refl
rows_itself (k ∷ ks) = and_from _ _ (and_from _ _ k.key.1 k.value.1) (rows_itself ks)

fields_itself : (ks : List (TField KnownSame)) → same_fields (own_fields ks) (own_fields ks) ≡ true
fields_itself [] = refl
fields_itself (k ∷ ks) = and_from _ _ (and_from _ _ ((bytes_eq-Decides k.name k.name).1 refl) k.value.1) (fields_itself ks)

parts_itself : (ks : List (TPart KnownSame)) → same_parts (own_parts ks) (own_parts ks) ≡ true
parts_itself [] = refl
parts_itself (part.Chars s ∷ ks) = and_from _ _ ((bytes_eq-Decides s s).1 refl) (parts_itself ks)
parts_itself (part.Hole k ∷ ks) = and_from _ _ (and_from _ _ k.expr.1 (choice_itself k.choice)) (parts_itself ks)

layer_itself : (y : TExpr-F KnownSame) → same_at (map-TExpr TExpr ExprTest same_expr (itself y)) (itself y) ≡ true
layer_itself (layer.Lit x) = same_value-refl x
layer_itself (layer.Get k) = key_itself k
layer_itself (layer.Member k n) = and_from _ _ k.1 ((bytes_eq-Decides n n).1 refl)
layer_itself (layer.At k l) = and_from _ _ k.1 l.1
layer_itself (layer.Not k) = k.1
layer_itself (layer.Neg k) = k.1
layer_itself (layer.Binary o k l) = and_from _ _ (and_from _ _ (op_itself o) k.1) l.1
layer_itself (layer.Choose k l m) = and_from _ _ (and_from _ _ k.1 l.1) m.1
layer_itself (layer.ListOf ks) = lists_itself ks
layer_itself (layer.MapOf ks) = rows_itself ks
layer_itself (layer.PairOf k l) = and_from _ _ k.1 l.1
layer_itself (layer.StructOf n ks) = and_from _ _ ((bytes_eq-Decides n n).1 refl) (fields_itself ks)
layer_itself (layer.Apply f ks) = and_from _ _ (func_itself f) (lists_itself ks)
layer_itself (layer.Strung ks) = parts_itself ks
layer_itself (layer.Cast k t) = and_from _ _ k.1 (same_type-refl t)

pub expr_itself : (e : TExpr) → same_expr e e ≡ true
expr_itself = ind-TExpr Same (λ x y is. subst (λ (z : TExpr-F TExpr). Same (roll-TExpr z)) is (
    let p = itself y in
    ap (λ (t : ExprTest). t (roll-TExpr p)) (fold-roll-TExpr ExprTest (λ l w. same_at l (out-TExpr w)) p)
    ∙ ap (same_at (map-TExpr TExpr ExprTest same_expr p)) (out-roll-TExpr p) ∙ layer_itself y))

-- ---- arguments and the pieces of commands

pub args_equal : (xs ys : List (TField TExpr)) → same_fields xs ys ≡ true → xs ≡ ys
args_equal [] [] h = refl
args_equal [] (y ∷ ys) h = absurd (false≢true h)
args_equal (x ∷ xs) [] h = absurd (false≢true h)
args_equal (x ∷ xs) (y ∷ ys) h =
    let p = and_parts (bytes_eq x.name y.name && same_expr x.value y.value) (same_fields xs ys) h in
    let q = and_parts (bytes_eq x.name y.name) (same_expr x.value y.value) p.0 in
    ap (λ (n : List ℕ). field n x.value ∷ xs) ((bytes_eq-Decides x.name y.name).0 q.0)
    ∙ ap (λ (b : TExpr). field y.name b ∷ xs) (expr_equal x.value y.value q.1)
    ∙ ap (λ (zs : List (TField TExpr)). y ∷ zs) (args_equal xs ys p.1)

pub pieces_equal : (xs ys : List (TPart TExpr)) → same_parts xs ys ≡ true → xs ≡ ys
pieces_equal [] [] h = refl
pieces_equal [] (y ∷ ys) h = absurd (false≢true h)
pieces_equal (part.Chars s ∷ xs) [] h = absurd (false≢true h)
pieces_equal (part.Chars s ∷ xs) (part.Chars t ∷ ys) h =
    let p = and_parts (bytes_eq s t) (same_parts xs ys) h in
    ap (λ (x : List ℕ). part.Chars x ∷ xs) ((bytes_eq-Decides s t).0 p.0) ∙ ap (λ (zs : List (TPart TExpr)). part.Chars t ∷ zs) (pieces_equal xs ys p.1)
pieces_equal (part.Chars s ∷ xs) (part.Hole j ∷ ys) h = absurd (false≢true h)
pieces_equal (part.Hole k ∷ xs) [] h = absurd (false≢true h)
pieces_equal (part.Hole k ∷ xs) (part.Chars t ∷ ys) h = absurd (false≢true h)
pieces_equal (part.Hole k ∷ xs) (part.Hole j ∷ ys) h =
    let p = and_parts (same_expr k.expr j.expr && same_choice k.choice j.choice) (same_parts xs ys) h in
    let q = and_parts (same_expr k.expr j.expr) (same_choice k.choice j.choice) p.0 in
    ap (λ (a : TExpr). hole a k.choice ∷ xs) (expr_equal k.expr j.expr q.0)
    ∙ ap (λ (c : Choice). hole j.expr c ∷ xs) (choice_equal k.choice j.choice q.1)
    ∙ ap (λ (zs : List (TPart TExpr)). part.Hole j ∷ zs) (pieces_equal xs ys p.1)
