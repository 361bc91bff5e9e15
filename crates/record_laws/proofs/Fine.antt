-- Expressions that are well typed, before and with leaves in their places, name no leaf before and no struct input then.
use Rattle.std.proofs.Common.{◌≡◌, Bool, true, false, cond, not, List, [], ◌∷◌, Some, sym, ap, ◌∙◌, refl}
use Rattle.std.specs.List.{list_all}
use Rattle.std.proofs.lemmas.Bool.{false≢true, and_from, and_parts}
use Rattle.wdl_base.specs.declared.name.Key.{Key}
use Rattle.wdl_value.specs.declared.ty.Ty.{Ty}
use Rattle.wdl_value.specs.Fits.{Structs}
use Rattle.wdl_typed.specs.declared.expr.TExpr.{TExpr}
use Rattle.wdl_typed.specs.declared.scope.Bound.{Bound}
use Rattle.wdl_typed.specs.declared.task.TInput.{TInput}
use Rattle.wdl_typed.specs.Declarations.{context, in_body}
use Rattle.wdl_typed.specs.KnownTypes.{is_some}
use Rattle.wdl_typed.specs.Scope.{names_of, same_key, type_in}
use Rattle.wdl_swaps.specs.Agreement.{is_fine}
use Rattle.wdl_swaps.specs.Swaps.{swapped}
use Rattle.leaf_image.specs.declared.leaf.Leaf.{Leaf}
use Rattle.leaf_image.specs.Records.{is_own, swaps_of}
use Rattle.flow_laws.proofs.Keys.{key_same}
use Rattle.record_laws.proofs.Bound.{names_bound}
use Rattle.record_laws.proofs.Pairing.{seen}

module _ (ok : Key → Bool) where
  abbrev pub all_ok : List Bound → Type 0
  all_ok names = list_all (λ (b : Bound). ok b.key) names ≡ true

  key_ok : (names : List Bound) → all_ok names → (k : Key) → is_some (type_in names k) ≡ true → ok k ≡ true
  key_ok [] h k t = absurd (false≢true t)
  key_ok (b ∷ bs) h k t = by_key (and_parts (ok b.key) (list_all (λ (b : Bound). ok b.key) bs) h).0 (same_key b.key k) refl t
      (key_ok bs (and_parts (ok b.key) (list_all (λ (b : Bound). ok b.key) bs) h).1 k)
    where
      by_key : ok b.key ≡ true → (w : Bool) → same_key b.key k ≡ w → is_some (cond w (Some b.ty) (type_in bs k)) ≡ true → (is_some (type_in bs k) ≡ true → ok k ≡ true) → ok k ≡ true
      by_key own true e t rest = ap ok (sym (key_same b.key k e)) ∙ own
      by_key own false e t rest = rest t

  keys_ok : (names : List Bound) → all_ok names → (ks : List Key) → list_all (λ (k : Key). is_some (type_in names k)) ks ≡ true → list_all ok ks ≡ true
  keys_ok names h [] t = refl
  keys_ok names h (k ∷ ks) t =
      let p = and_parts (is_some (type_in names k)) (list_all (λ (j : Key). is_some (type_in names j)) ks) t in
      and_from (ok k) (list_all ok ks) (key_ok names h k p.0) (keys_ok names h ks p.1)

  -- The names of an expression are among those with which it is well typed.
  pub names_ok : (structs : Structs) (names : List Bound) → all_ok names → (e : TExpr) (t : Ty) → in_body structs names e ≡ Some t → list_all ok (names_of e) ≡ true
  names_ok structs names h e t typed = keys_ok names h (names_of e) (names_bound (context structs names) e false t typed)

-- no struct input
abbrev pub left : List TInput → Key → Bool
left is key = not (is_own is key)

pub expr_fine : (is : List TInput) (ls : List Leaf) (structs : Structs) (before now : List Bound) → all_ok (seen ls) before → all_ok (left is) now → (e : TExpr) (t u : Ty)
    → in_body structs before e ≡ Some t → in_body structs now (swapped (swaps_of ls) e) ≡ Some u → is_fine (swaps_of ls) (seen ls) (is_own is) e ≡ true
expr_fine is ls structs before now h j e t u typed again =
    and_from (list_all (seen ls) (names_of e)) (list_all (left is) (names_of (swapped (swaps_of ls) e)))
    (names_ok (seen ls) structs before h e t typed) (names_ok (left is) structs now j (swapped (swaps_of ls) e) u again)
