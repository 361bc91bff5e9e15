-- The values of member paths: what is met along a path, and that a path of struct members leads to a value that fits.
use Rattle.std.proofs.Common.{◌≡◌, ℕ, Bool, true, false, cond, codes, List, [], ◌∷◌, Option, Some, None, option_and_then, Ok, Err, sym, ap, ◌∙◌, subst, refl}
use Rattle.std.specs.Str.{bytes_eq}
use Rattle.std.proofs.lemmas.Option.{same_Some}
use Rattle.wdl_base.specs.declared.fault.EvalCode.{EvalCode}
use Rattle.wdl_base.specs.declared.fault.EvalCode.TheVariants.{TooLarge}
use Rattle.wdl_base.specs.declared.name.Key.{Key}
use Rattle.wdl_value.specs.declared.ty.Ty.{Ty}
use Rattle.wdl_value.specs.declared.value.Field.{Field}
use Rattle.wdl_value.specs.declared.value.Value.{Value, Value-F, out-Value}
use Rattle.wdl_value.specs.declared.value.Value.TheOpen as value
use Rattle.wdl_value.specs.Fits.{Structs, fits}
use Rattle.wdl_value.specs.Limits.{is_within}
use Rattle.wdl_typed.specs.declared.expr.TExpr.{TExpr, fold-roll-TExpr}
use Rattle.wdl_typed.specs.declared.expr.TExpr.TheOpen as layer
use Rattle.wdl_typed.specs.declared.expr.TExpr.TheVariants as e
use Rattle.wdl_typed.specs.Evaluation.{Met, Setting, field_among, found, member_at, met, then_, value_met, value_step, wrong}
use Rattle.wdl_typed.specs.Scope.{lookup}
use Rattle.wdl_typed.specs.Typing.{member_type}
use Rattle.wdl_swaps.specs.declared.chain.Hop.{Hop}
use Rattle.wdl_swaps.specs.declared.chain.Hop.TheVariants as hop
use Rattle.wdl_swaps.specs.Chains.{along, hopped}
use Rattle.leaf_image.specs.Records.{member_hops}
use Rattle.wdl_eval.specs.Laws.{IsSound}
use Rattle.wdl_eval.specs.Nodes.{within}
use Rattle.wdl_eval.proofs.Indices.{member_fine}
use Rattle.wdl_eval.proofs.MemberLimits.{member_kept}
use Rattle.record_laws.specs.Given.{along_path}
use Rattle.wdl_base.proofs.Options.{then_parts}

-- ---- what is met at references, members and casts

pub met_get : (s : Setting) (key : Key) → value_met s (e.Get key) ≡ within (found (lookup s.env key))
met_get s key = ap (value_met s) (sym (e.rolls-Get key)) ∙ fold-roll-TExpr (Met Value) (value_step s) (layer.Get key)

pub met_member : (s : Setting) (a : TExpr) (name : List ℕ) → value_met s (e.Member a name) ≡ within (then_ (value_met s a) (λ x. member_at name (out-Value x)))
met_member s a name = ap (value_met s) (sym (e.rolls-Member a name)) ∙ fold-roll-TExpr (Met Value) (value_step s) (layer.Member a name)

met_cast : (s : Setting) (a : TExpr) (t : Ty) (x : Option EvalCode) → value_met s a ≡ Err x → value_met s (e.Cast a t) ≡ Err x
met_cast s a t x h =
    ap (value_met s) (sym (e.rolls-Cast a t)) ∙ fold-roll-TExpr (Met Value) (value_step s) (layer.Cast a t) ∙ ap (λ (r : Met Value). value_step s (layer.Cast r t)) h

met_hop : (s : Setting) (a : TExpr) (h : Hop) (x : Option EvalCode) → value_met s a ≡ Err x → value_met s (hopped a h) ≡ Err x
met_hop s a (hop.Member name) x h = met_member s a name ∙ ap (λ (r : Met Value). within (then_ r (λ x. member_at name (out-Value x)))) h
met_hop s a (hop.Cast t) x h = met_cast s a t x h

-- behind what has no value nothing has one
pub met_nothing : (s : Setting) (hops : List Hop) (a : TExpr) (x : Option EvalCode) → value_met s a ≡ Err x → value_met s (along a hops) ≡ Err x
met_nothing s [] a x h = h
met_nothing s (k ∷ hops) a x h = met_nothing s hops (hopped a k) x (met_hop s a k x h)

-- ---- limits

pub kept_value : (x : Value) → is_within x ≡ true → within (Ok x) ≡ Ok x
kept_value x h = ap (λ (b : Bool). met (cond b (Ok x) (Err TooLarge))) h

pub within_value : (x : Value) → within (Ok x) ≡ Ok x → is_within x ≡ true
within_value x h = by_limit (is_within x) h
  where
    by_limit : (b : Bool) → met (cond b (Ok x) (Err TooLarge)) ≡ Ok x → b ≡ true
    by_limit true h = refl
    by_limit false h = cc

-- ---- paths

pub met_along : (s : Setting) (path : List (List ℕ)) (a : TExpr) (x : Value) → value_met s a ≡ Ok x → is_within x ≡ true → value_met s (along a (member_hops path)) ≡ along_path path x
met_along s [] a x is h = is
met_along s (m ∷ path) a x is h =
    let kept : within (member_at m (out-Value x)) ≡ member_at m (out-Value x) = member_kept x m h in
    by_met (λ y i k. met_along s path (e.Member a m) y i k) (member_at m (out-Value x)) kept (met_member s a m ∙ ap (λ (r : Met Value). within (then_ r (λ x. member_at m (out-Value x)))) is ∙ kept)
  where
    by_met : ((y : Value) → value_met s (e.Member a m) ≡ Ok y → is_within y ≡ true → value_met s (along (e.Member a m) (member_hops path)) ≡ along_path path y)
        → (r : Met Value) → within r ≡ r → value_met s (e.Member a m) ≡ r → value_met s (along (e.Member a m) (member_hops path)) ≡ then_ r (along_path path)
    by_met rest (Ok y) k i = rest y i (within_value y k)
    by_met rest (Err c) k i = met_nothing s (member_hops path) (e.Member a m) c i

-- the type at the end of a path
abbrev pub path_type : Structs → List (List ℕ) → Ty → Option Ty
path_type structs [] t = Some t
path_type structs (m ∷ ms) t = option_and_then (path_type structs ms) (member_type structs m t)

no_field_code : (fs : List (Field Value)) (name : List ℕ) (c : EvalCode) → field_among fs name ≡ Err (Some c) → ⊥
no_field_code [] name c h = cc
no_field_code (f ∷ fs) name c h = by_name (no_field_code fs name c) (bytes_eq f.name name) h
  where
    by_name : (field_among fs name ≡ Err (Some c) → ⊥) → (b : Bool) → cond b (Ok f.value) (field_among fs name) ≡ Err (Some c) → ⊥
    by_name rest true h = cc
    by_name rest false h = rest h

no_code : (name : List ℕ) (z : Value-F Value) (c : EvalCode) → member_at name z ≡ Err (Some c) → ⊥
no_code name (value.Pair x y) c h = by_left (bytes_eq name (codes "left")) h
  where
    by_right : (b : Bool) → (let r : Met Value = cond b (Ok y) wrong in r ≡ Err (Some c)) → ⊥
    by_right true h = cc
    by_right false h = cc

    by_left : (b : Bool) → cond b (Ok x) (cond (bytes_eq name (codes "right")) (Ok y) wrong) ≡ Err (Some c) → ⊥
    by_left true h = cc
    by_left false h = by_right (bytes_eq name (codes "right")) h
no_code name (value.Struct s fields) c h = no_field_code fields name c h
no_code name value.Absent c h = cc
no_code name (value.Bool b) c h = cc
no_code name (value.Int n) c h = cc
no_code name (value.Str s) c h = cc
no_code name (value.File s) c h = cc
no_code name (value.List xs) c h = cc
no_code name (value.Map rows) c h = cc

-- a value, which fits and keeps the limits
abbrev pub Leads : Structs → List (List ℕ) → Value → Ty → Type 0
Leads structs path x t = (y : Value) × (along_path path x ≡ Ok y) × (fits structs y t ≡ true) × (is_within y ≡ true)

pub path_leads : (structs : Structs) (path : List (List ℕ)) (x : Value) (t u : Ty) → fits structs x t ≡ true → is_within x ≡ true → path_type structs path t ≡ Some u → Leads structs path x u
path_leads structs [] x t u fit small h = let same : t ≡ u = same_Some _ _ h in (x, refl, subst (λ (w : Ty). fits structs x w ≡ true) same fit, small)
path_leads structs (m ∷ path) x t u fit small h =
    let p = then_parts (path_type structs path) (member_type structs m t) u h in
    let sound : IsSound structs p.0 (member_at m (out-Value x)) =
    member_fine structs (Some t) m (Ok x) (λ w e. subst (λ (w : Ty). fits structs x w ≡ true) (same_Some _ _ e) fit) p.0 p.1 in
    by_met p.0 (λ y f k i. path_leads structs path y p.0 u f k i) (member_at m (out-Value x)) refl (member_kept x m small) sound p.2
  where
    by_met : (v : Ty) → ((y : Value) → fits structs y v ≡ true → is_within y ≡ true → path_type structs path v ≡ Some u → Leads structs path y u) → (r : Met Value) → member_at m (out-Value x) ≡ r → within r ≡ r → IsSound structs v r → path_type structs path v ≡ Some u
        → (y : Value) × (then_ r (along_path path) ≡ Ok y) × (fits structs y u ≡ true) × (is_within y ≡ true)
    by_met v rest (Ok y) is k s i = rest y s (within_value y k) i
    by_met v rest (Err (Some c)) is k s i = absurd (no_code m (out-Value x) c is)
    by_met v rest (Err None) is k s i = absurd s
