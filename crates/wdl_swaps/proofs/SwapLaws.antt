-- A swapped expression, form by form.
use Rattle.std.proofs.Common.{◌≡◌, ℕ, List, [], ◌∷◌, map, refl, ap, sym, ◌∙◌}
use Rattle.wdl_base.specs.declared.name.Key.{Key}
use Rattle.wdl_value.specs.declared.operator.Func.{Func}
use Rattle.wdl_value.specs.declared.operator.Op.{Op}
use Rattle.wdl_value.specs.declared.ty.Ty.{Ty}
use Rattle.wdl_value.specs.declared.value.Value.{Value}
use Rattle.wdl_typed.specs.declared.expr.TExpr.{TExpr, TExpr-F, fold-roll-TExpr, map-TExpr, roll-TExpr}
use Rattle.wdl_typed.specs.declared.expr.TExpr.TheOpen as layer
use Rattle.wdl_typed.specs.declared.expr.TExpr.TheVariants as e
use Rattle.wdl_typed.specs.declared.expr.TExpr.TheShapes.{former-TExpr-Strung-0}
use Rattle.wdl_typed.specs.declared.expr.TField.{TField}
use Rattle.wdl_typed.specs.declared.expr.TPair.{TPair}
use Rattle.wdl_typed.specs.declared.expr.TPart.{TPart}
use Rattle.wdl_typed.specs.declared.expr.TPart.TheVariants as part
use Rattle.wdl_swaps.specs.declared.chain.Hop.TheVariants as hop
use Rattle.wdl_swaps.specs.declared.swap.Swap.{Swap}
use Rattle.wdl_swaps.specs.Chains.{behind, chain_of}
use Rattle.wdl_swaps.specs.Swaps.{fields_with, or_chain, parts_with, rows_with, swap_at, swap_chain, swap_step, swapped}

-- ---- lists of parts

rows_map : (f : TExpr → TExpr) (rows : List (TPair TExpr)) → map (λ (r : TPair TExpr). record { key = f r.key; value = f r.value }) rows ≡ rows_with f rows
rows_map f [] = refl
rows_map f (r ∷ rows) = ap (λ (z : List (TPair TExpr)). record { key = f r.key; value = f r.value } ∷ z) (rows_map f rows)

fields_map : (f : TExpr → TExpr) (rows : List (TField TExpr)) → map (λ (r : TField TExpr). record { name = r.name; value = f r.value }) rows ≡ fields_with f rows
fields_map f [] = refl
fields_map f (r ∷ rows) = ap (λ (z : List (TField TExpr)). record { name = r.name; value = f r.value } ∷ z) (fields_map f rows)

parts_map : (f : TExpr → TExpr) (ps : List (TPart TExpr)) → (former-TExpr-Strung-0).map TExpr TExpr f ps ≡ parts_with f ps
parts_map f [] = refl
parts_map f (part.Chars s ∷ ps) = ap (λ z. part.Chars s ∷ z) (parts_map f ps)
parts_map f (part.Hole h ∷ ps) = ap (λ z. part.Hole (record { expr = f h.expr; choice = h.choice }) ∷ z) (parts_map f ps)

-- ---- form by form

abbrev opened : (ss : List Swap) (y : TExpr-F TExpr) → swapped ss (roll-TExpr y) ≡ swap_step ss (map-TExpr TExpr TExpr (swapped ss) y)
unfolding swapped
opened ss y = fold-roll-TExpr TExpr (swap_step ss) y

pub swapped_lit : (ss : List Swap) (x : Value) → swapped ss (e.Lit x) ≡ e.Lit x
swapped_lit ss x = ap (swapped ss) (sym (e.rolls-Lit x)) ∙ opened ss (layer.Lit x) ∙ e.rolls-Lit x

pub swapped_get : (ss : List Swap) (key : Key) → swapped ss (e.Get key) ≡ or_chain (e.Get key) (swap_at ss key [])
swapped_get ss key = ap (swapped ss) (sym (e.rolls-Get key)) ∙ opened ss (layer.Get key)

pub swapped_member : (ss : List Swap) (a : TExpr) (name : List ℕ) → swapped ss (e.Member a name)
    ≡ or_chain (e.Member (swapped ss a) name) (swap_chain ss (behind (hop.Member name) (chain_of (swapped ss a))))
swapped_member ss a name = ap (swapped ss) (sym (e.rolls-Member a name)) ∙ opened ss (layer.Member a name)

pub swapped_at : (ss : List Swap) (a b : TExpr) → swapped ss (e.At a b) ≡ e.At (swapped ss a) (swapped ss b)
swapped_at ss a b = ap (swapped ss) (sym (e.rolls-At a b)) ∙ opened ss (layer.At a b) ∙ e.rolls-At (swapped ss a) (swapped ss b)

pub swapped_not : (ss : List Swap) (a : TExpr) → swapped ss (e.Not a) ≡ e.Not (swapped ss a)
swapped_not ss a = ap (swapped ss) (sym (e.rolls-Not a)) ∙ opened ss (layer.Not a) ∙ e.rolls-Not (swapped ss a)

pub swapped_neg : (ss : List Swap) (a : TExpr) → swapped ss (e.Neg a) ≡ e.Neg (swapped ss a)
swapped_neg ss a = ap (swapped ss) (sym (e.rolls-Neg a)) ∙ opened ss (layer.Neg a) ∙ e.rolls-Neg (swapped ss a)

pub swapped_binary : (ss : List Swap) (o : Op) (a b : TExpr) → swapped ss (e.Binary o a b) ≡ e.Binary o (swapped ss a) (swapped ss b)
swapped_binary ss o a b =
    ap (swapped ss) (sym (e.rolls-Binary o a b)) ∙ opened ss (layer.Binary o a b) ∙ e.rolls-Binary o (swapped ss a) (swapped ss b)

pub swapped_choose : (ss : List Swap) (c a b : TExpr) → swapped ss (e.Choose c a b) ≡ e.Choose (swapped ss c) (swapped ss a) (swapped ss b)
swapped_choose ss c a b =
    ap (swapped ss) (sym (e.rolls-Choose c a b)) ∙ opened ss (layer.Choose c a b) ∙ e.rolls-Choose (swapped ss c) (swapped ss a) (swapped ss b)

pub swapped_list : (ss : List Swap) (es : List TExpr) → swapped ss (e.ListOf es) ≡ e.ListOf (map (swapped ss) es)
swapped_list ss es = ap (swapped ss) (sym (e.rolls-ListOf es)) ∙ opened ss (layer.ListOf es) ∙ e.rolls-ListOf (map (swapped ss) es)

pub swapped_map : (ss : List Swap) (rows : List (TPair TExpr)) → swapped ss (e.MapOf rows) ≡ e.MapOf (rows_with (swapped ss) rows)
swapped_map ss rows =
    ap (swapped ss) (sym (e.rolls-MapOf rows)) ∙ opened ss (layer.MapOf rows)
    ∙ ap (λ z. roll-TExpr (layer.MapOf z)) (rows_map (swapped ss) rows) ∙ e.rolls-MapOf (rows_with (swapped ss) rows)

pub swapped_pair : (ss : List Swap) (a b : TExpr) → swapped ss (e.PairOf a b) ≡ e.PairOf (swapped ss a) (swapped ss b)
swapped_pair ss a b = ap (swapped ss) (sym (e.rolls-PairOf a b)) ∙ opened ss (layer.PairOf a b) ∙ e.rolls-PairOf (swapped ss a) (swapped ss b)

pub swapped_struct : (ss : List Swap) (name : List ℕ) (fields : List (TField TExpr)) → swapped ss (e.StructOf name fields) ≡ e.StructOf name (fields_with (swapped ss) fields)
swapped_struct ss name fields =
    ap (swapped ss) (sym (e.rolls-StructOf name fields)) ∙ opened ss (layer.StructOf name fields)
    ∙ ap (λ z. roll-TExpr (layer.StructOf name z)) (fields_map (swapped ss) fields) ∙ e.rolls-StructOf name (fields_with (swapped ss) fields)

pub swapped_apply : (ss : List Swap) (f : Func) (es : List TExpr) → swapped ss (e.Apply f es) ≡ e.Apply f (map (swapped ss) es)
swapped_apply ss f es = ap (swapped ss) (sym (e.rolls-Apply f es)) ∙ opened ss (layer.Apply f es) ∙ e.rolls-Apply f (map (swapped ss) es)

pub swapped_strung : (ss : List Swap) (ps : List (TPart TExpr)) → swapped ss (e.Strung ps) ≡ e.Strung (parts_with (swapped ss) ps)
swapped_strung ss ps =
    ap (swapped ss) (sym (e.rolls-Strung ps)) ∙ opened ss (layer.Strung ps)
    ∙ ap (λ z. roll-TExpr (layer.Strung z)) (parts_map (swapped ss) ps) ∙ e.rolls-Strung (parts_with (swapped ss) ps)

pub swapped_cast : (ss : List Swap) (a : TExpr) (t : Ty) → swapped ss (e.Cast a t) ≡ e.Cast (swapped ss a) t
swapped_cast ss a t = ap (swapped ss) (sym (e.rolls-Cast a t)) ∙ opened ss (layer.Cast a t) ∙ e.rolls-Cast (swapped ss a) t

-- what a proof of code about `swapped` uses
pub ruleset equations = (
  swapped_lit,
  swapped_get,
  swapped_member,
  swapped_at,
  swapped_not,
  swapped_neg,
  swapped_binary,
  swapped_choose,
  swapped_list,
  swapped_map,
  swapped_pair,
  swapped_struct,
  swapped_apply,
  swapped_strung,
  swapped_cast,
)
