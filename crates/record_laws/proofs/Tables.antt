-- Where main reaches a workflow, what stands in its place is the workflow with its leaves.
use Rattle.std.proofs.Common.{◌≡◌, ℕ, zero, suc, Bool, true, false, cond, List, [], ◌∷◌, Option, Some, None, slice_get, sym, ap, ◌∙◌, subst, refl}
use Rattle.std.specs.Prelude.{option_map}
use Rattle.std.proofs.lemmas.Bool.{false≢true}
use Rattle.std.proofs.lemmas.Option.{same_Some}
use Rattle.wdl_value.specs.Fits.{Structs}
use Rattle.wdl_typed.specs.declared.flow.FlowDef.{FlowDef}
use Rattle.wdl_typed.specs.Bodies.{Library}
use Rattle.wdl_typed.specs.Kept.{is_checked}
use Rattle.leaf_image.specs.declared.leaf.Leaf.{Leaf}
use Rattle.leaf_image.specs.Leaves.{leaves_of}
use Rattle.leaf_image.specs.Reached.{is_marked, reached}
use Rattle.leaf_image.specs.Records.{expanded_flow}
use Rattle.leaf_image.specs.Replaced.{Replaced, are_checked, expanded_if, expanded_where, leaves_if, leaves_where, replaced_by, with_flows, with_leaves}
use Rattle.wdl_base.proofs.Options.{then_parts}

-- the leaves of a workflow, and what stands in its place
pub record At (structs : Structs) (flows : List FlowDef) (leaves table : List (List Leaf)) (now : List FlowDef) (k : ℕ) (f : FlowDef) : Type 0 where
  pub own : List Leaf
  pub there : slice_get table k ≡ Some own
  pub are : leaves_of structs f ≡ Some own
  pub now_is : slice_get now k ≡ Some (expanded_flow flows leaves own f)

module _ (structs : Structs) (flows : List FlowDef) (leaves : List (List Leaf)) where
  at_marked : (fs : List FlowDef) (bs : List Bool) (table : List (List Leaf)) → leaves_where structs fs bs ≡ Some table → (k : ℕ) (f : FlowDef) → slice_get fs k ≡ Some f → is_marked bs k ≡ true
      → At structs flows leaves table (expanded_where flows leaves fs bs table) k f
  at_marked [] bs table h k f e m = cc
  at_marked (g ∷ fs) [] table h k f e m = absurd (false≢true m)
  at_marked (g ∷ fs) (b ∷ bs) table h k f e m =
      let p = then_parts (λ (ls : List Leaf). option_map (λ (more : List (List Leaf)). ls ∷ more) (leaves_where structs fs bs)) (leaves_if b structs g) table h in
      let q = mapped (leaves_where structs fs bs) (λ (more : List (List Leaf)). p.0 ∷ more) table p.2 in
      subst (λ (t : List (List Leaf)). At structs flows leaves t (expanded_where flows leaves (g ∷ fs) (b ∷ bs) t) k f) q.2
      (by_number p.0 q.0 p.1 k e m (λ j i n. at_marked fs bs q.0 q.1 j f i n))
    where
      mapped : {A B : Type 0} (o : Option A) (f : A → B) (w : B) → option_map f o ≡ Some w → (a : A) × (o ≡ Some a) × (f a ≡ w)
      mapped None f w h = absurd (cc)
      mapped (Some a) f w h = (a, refl, same_Some _ _ h)

      by_mark : (ls : List Leaf) (b : Bool) → b ≡ true → leaves_if b structs g ≡ Some ls → (leaves_of structs g ≡ Some ls) × (expanded_if b flows leaves ls g ≡ expanded_flow flows leaves ls g)
      by_mark ls true m h = (h, refl)
      by_mark ls false m h = absurd (false≢true m)

      by_number : (ls : List Leaf) (more : List (List Leaf)) → leaves_if b structs g ≡ Some ls → (k : ℕ) → slice_get (g ∷ fs) k ≡ Some f → is_marked (b ∷ bs) k ≡ true
          → ((j : ℕ) → slice_get fs j ≡ Some f → is_marked bs j ≡ true → At structs flows leaves more (expanded_where flows leaves fs bs more) j f)
          → At structs flows leaves (ls ∷ more) (expanded_where flows leaves (g ∷ fs) (b ∷ bs) (ls ∷ more)) k f
      by_number ls more own zero e m rest =
          let w = by_mark ls b m own in
          let same : g ≡ f = same_Some _ _ e in
          record {
            own = ls;
            there = refl;
            are = ap (leaves_of structs) (sym same) ∙ w.0;
            now_is = ap Some w.1 ∙ ap (λ (z : FlowDef). Some (expanded_flow flows leaves ls z)) same;
          }
      by_number ls more own (suc j) e m rest = let w = rest j e m in record { own = w.own; there = w.there; are = w.are; now_is = w.now_is }

-- what is replaced
pub record IsReplaced (lib : Library) (main : ℕ) (r : Replaced) : Type 0 where
  pub leaves : leaves_where lib.structs lib.flows (reached lib.flows main) ≡ Some r.leaves
  pub flows : r.flows ≡ expanded_where lib.flows r.leaves lib.flows (reached lib.flows main) r.leaves
  pub checked : is_checked (with_flows lib r.flows) (Some main) ≡ true

pub is_replaced : (lib : Library) (main : ℕ) (r : Replaced) → with_leaves lib main ≡ Some r → IsReplaced lib main r
unfolding with_leaves
is_replaced lib main r h =
    let p = then_parts (replaced_by lib main (reached lib.flows main)) (leaves_where lib.structs lib.flows (reached lib.flows main)) r h in
    by_test p.0 p.1 (are_checked lib main (expanded_where lib.flows p.0 lib.flows (reached lib.flows main) p.0)) refl p.2
  where
    by_test : (table : List (List Leaf)) → leaves_where lib.structs lib.flows (reached lib.flows main) ≡ Some table → (b : Bool)
        → are_checked lib main (expanded_where lib.flows table lib.flows (reached lib.flows main) table) ≡ b
        → cond b (Some (record { flows = expanded_where lib.flows table lib.flows (reached lib.flows main) table; leaves = table })) None ≡ Some r → IsReplaced lib main r
    by_test table e true c i =
        subst (IsReplaced lib main) (same_Some _ _ i) (record { leaves = e; flows = refl; checked = c })
    by_test table e false c i = absurd (cc)

pub flow_at_mark : (lib : Library) (main : ℕ) (r : Replaced) → IsReplaced lib main r → (k : ℕ) (f : FlowDef) → slice_get lib.flows k ≡ Some f → is_marked (reached lib.flows main) k ≡ true
    → At lib.structs lib.flows r.leaves r.leaves r.flows k f
flow_at_mark lib main r h k f e m =
    subst (λ (fs : List FlowDef). At lib.structs lib.flows r.leaves r.leaves fs k f) (sym h.flows)
    (at_marked lib.structs lib.flows r.leaves lib.flows (reached lib.flows main) r.leaves h.leaves k f e m)
