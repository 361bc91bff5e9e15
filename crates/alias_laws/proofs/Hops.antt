-- The values of chains: members of structs and casts that widen lead from a value that fits and keeps the limits to one that does.
use Rattle.std.proofs.Common.{◌≡◌, ℕ, Bool, true, false, cond, List, [], ◌∷◌, Option, Some, None, option_and_then, Ok, sym, ap, ◌∙◌, subst, refl}
use Rattle.std.proofs.lemmas.Option.{same_Some}
use Rattle.wdl_value.specs.declared.ty.Ty.{Ty, Ty-F, out-Ty}
use Rattle.wdl_value.specs.declared.ty.Ty.TheOpen as type
use Rattle.wdl_value.specs.declared.value.Value.{Value, out-Value}
use Rattle.wdl_value.specs.Cast.{Checked}
use Rattle.wdl_value.specs.Fits.{Structs, fits}
use Rattle.wdl_value.specs.Limits.{is_within, limited}
use Rattle.wdl_typed.specs.declared.expr.TExpr.{TExpr, fold-roll-TExpr}
use Rattle.wdl_typed.specs.declared.expr.TExpr.TheOpen as layer
use Rattle.wdl_typed.specs.declared.expr.TExpr.TheVariants as e
use Rattle.wdl_typed.specs.Evaluation.{Met, Setting, found, from_cast, member_at, met, then_, value_met, value_step}
use Rattle.wdl_typed.specs.Scope.{lookup}
use Rattle.wdl_typed.specs.Typing.{member_at as typed_at}
use Rattle.cwl_image.specs.Expressions.{widens}
use Rattle.wdl_swaps.specs.declared.chain.Chain.{Chain}
use Rattle.wdl_swaps.specs.declared.chain.Hop.{Hop}
use Rattle.wdl_swaps.specs.declared.chain.Hop.TheVariants as hop
use Rattle.wdl_swaps.specs.Chains.{along, expr_of, hopped}
use Rattle.wdl_eval.specs.Nodes.{within}
use Rattle.record_laws.proofs.Paths.{Leads, kept_value, met_along, met_get, met_member, path_leads, path_type}
use Rattle.cwl_records.specs.Types.{hop_type, hops_type, member_at as struct_member}
use Rattle.alias_laws.proofs.Widening.{widening_keeps}
use Rattle.wdl_base.proofs.Options.{then_parts}

-- ---- by what they begin with

met_cast : (s : Setting) (a : TExpr) (t : Ty) → value_met s (e.Cast a t) ≡ value_step s (layer.Cast (value_met s a) t)
met_cast s a t = ap (value_met s) (sym (e.rolls-Cast a t)) ∙ fold-roll-TExpr (Met Value) (value_step s) (layer.Cast a t)

hop_same : (r s : Setting) (a b : TExpr) (h : Hop) → value_met r a ≡ value_met s b → value_met r (hopped a h) ≡ value_met s (hopped b h)
hop_same r s a b (hop.Member name) i = met_member r a name ∙ ap (λ (m : Met Value). within (then_ m (λ x. member_at name (out-Value x)))) i ∙ sym (met_member s b name)
hop_same r s a b (hop.Cast t) i = met_cast r a t ∙ ap (λ (m : Met Value). value_step r (layer.Cast m t)) i ∙ sym (met_cast s b t)

along_same : (r s : Setting) (hops : List Hop) (a b : TExpr) → value_met r a ≡ value_met s b → value_met r (along a hops) ≡ value_met s (along b hops)
along_same r s [] a b i = i
along_same r s (h ∷ hops) a b i = along_same r s hops (hopped a h) (hopped b h) (hop_same r s a b h i)

-- A chain has the same value where its reference has.
pub chain_same : (r s : Setting) (c : Chain) → lookup r.env c.key ≡ lookup s.env c.key → value_met r (expr_of c) ≡ value_met s (expr_of c)
chain_same r s c i =
    along_same r s c.hops (e.Get c.key) (e.Get c.key) (met_get r c.key ∙ ap (λ (o : Option Value). within (found o)) i ∙ sym (met_get s c.key))

-- ---- what they lead to

-- a value, which fits and keeps the limits
abbrev pub Led : Structs → Setting → TExpr → Ty → Type 0
Led structs s a t = (y : Value) × (value_met s a ≡ Ok y) × (fits structs y t ≡ true) × (is_within y ≡ true)

member_typed : (structs : Structs) (name : List ℕ) (z : Ty-F Ty) (u : Ty) → struct_member structs name z ≡ Some u → typed_at structs name z ≡ Some u
member_typed structs name (type.Struct s) u h = h
member_typed structs name z u h = absurd (cc)

member_leads : (structs : Structs) (s : Setting) (name : List ℕ) (a : TExpr) (x : Value) (t u : Ty) → value_met s a ≡ Ok x → fits structs x t ≡ true → is_within x ≡ true
    → hop_type structs (hop.Member name) t ≡ Some u → Led structs s (e.Member a name) u
member_leads structs s name a x t u is fit small h =
    let typed : path_type structs (name ∷ []) t ≡ Some u = ap (option_and_then (path_type structs [])) (member_typed structs name (out-Ty t) u h) in
    let p : Leads structs (name ∷ []) x u = path_leads structs (name ∷ []) x t u fit small typed in
    (p.0, met_along s (name ∷ []) a x is small ∙ p.1, p.2, p.3)

cast_leads : (structs : Structs) (s : Setting) (w : Ty) (a : TExpr) (x : Value) (t u : Ty) → value_met s a ≡ Ok x → fits structs x t ≡ true → is_within x ≡ true
    → hop_type structs (hop.Cast w) t ≡ Some u → Led structs s (e.Cast a w) u
cast_leads structs s w a x t u is fit small h = by_test (widens t w) refl h
  where
    by_test : (b : Bool) → widens t w ≡ b → (let o : Option Ty = cond b (Some w) None in o ≡ Some u) → Led structs s (e.Cast a w) u
    by_test true i h =
        let same : w ≡ u = same_Some _ _ h in
        let k = widening_keeps structs t w x i fit in
        let value : value_met s (e.Cast a w) ≡ Ok x =
        met_cast s a w ∙ ap (λ (m : Met Value). value_step s (layer.Cast m w)) is
        ∙ ap (λ (o : Checked Value). then_ (from_cast o) (λ y. met (limited y))) k.0 ∙ kept_value x small in
        (x, value, subst (λ (v : Ty). fits structs x v ≡ true) same k.1, small)
    by_test false i h = absurd (cc)

hop_leads : (structs : Structs) (s : Setting) (k : Hop) (a : TExpr) (x : Value) (t u : Ty) → value_met s a ≡ Ok x → fits structs x t ≡ true → is_within x ≡ true
    → hop_type structs k t ≡ Some u → Led structs s (hopped a k) u
hop_leads structs s (hop.Member name) a x t u is fit small h = member_leads structs s name a x t u is fit small h
hop_leads structs s (hop.Cast w) a x t u is fit small h = cast_leads structs s w a x t u is fit small h

pub hops_lead : (structs : Structs) (s : Setting) (hops : List Hop) (a : TExpr) (x : Value) (t u : Ty) → value_met s a ≡ Ok x → fits structs x t ≡ true → is_within x ≡ true
    → hops_type structs hops t ≡ Some u → Led structs s (along a hops) u
hops_lead structs s [] a x t u is fit small h = (x, is, subst (λ (v : Ty). fits structs x v ≡ true) (same_Some _ _ h) fit, small)
hops_lead structs s (k ∷ hops) a x t u is fit small h =
    let p = then_parts (hops_type structs hops) (hop_type structs k t) u h in
    let q = hop_leads structs s k a x t p.0 is fit small p.1 in
    hops_lead structs s hops (hopped a k) q.0 p.0 u q.1 q.2 q.3 p.2
