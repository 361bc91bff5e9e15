-- Orders of a list of members are orders of their numbers.
use Rattle.std.proofs.Common.{◌≡◌, ◌<◌, ℕ, false, not, ◌==◌, ◌||◌, ◌&&◌, List, [], ◌∷◌, length, slice_get, Option, Some, None, refl, sym, ap, ◌∙◌, subst}
use Rattle.std.specs.List.{list_all, range_with_len}
use Rattle.wdl_order.proofs.Numbers.{range_from}
use Rattle.wdl_order.specs.Names.{needs_at, needs_between}
use Rattle.wdl_order.specs.declared.least.Found.{Found}
use Rattle.wdl_order.specs.declared.least.Found.TheVariants.{Order, Stuck}
use Rattle.wdl_order.specs.Outcome.{Orders}
use Rattle.wdl_order.specs.Positions.{Need, all_follow, follows, is_order_of, HasNone, IsLeastOf}
use Rattle.wdl_order.specs.Working.{Answers}
use Rattle.wdl_typed.specs.Lists.{are_counted, has_number}
use Rattle.wdl_typed.specs.Order.{Needing, all_met, is_met, is_order, IsLeastOrder}

module _ (all : List Needing) where
  met_is : (before : List ℕ) (m : Option Needing)
      → is_met all before m ≡ list_all (λ q. not (needs_between m (slice_get all q)) || has_number q before) (range_with_len 0 (length all))
  met_is before None = sym (range_from (λ q. not (needs_between None (slice_get all q)) || has_number q before) 0 (length all) (λ q l u. refl))
  met_is before (Some m) = refl

  all_met_is : (before ps : List ℕ) → all_met all before ps ≡ all_follow (length all) (needs_at all) before ps
  all_met_is before [] = refl
  all_met_is before (p ∷ ps) =
      ap (λ b. b && all_met all (p ∷ before) ps) (met_is before (slice_get all p))
      ∙ ap (λ b. follows (length all) (needs_at all) before p && b) (all_met_is (p ∷ before) ps)

  order_is : (ps : List ℕ) → is_order all ps ≡ is_order_of (length all) (needs_at all) ps
  order_is ps = ap (λ b. are_counted ps && (length ps == length all) && b) (all_met_is [] ps)

  module _ (count : ℕ) (need : Need) (long : count ≡ length all) (same : (p q : ℕ) → need p q ≡ needs_at all p q) where
    numbered : (ps : List ℕ) → is_order all ps ≡ is_order_of count need ps
    numbered ps =
        let e : need ≡ needs_at all = λ i p q. same p q i in
        order_is ps ∙ ap (λ n. is_order_of n (needs_at all) ps) (sym long) ∙ ap (λ n. is_order_of count n ps) (sym e)

    pub least_from : (ps : List ℕ) → IsLeastOf count need ps → IsLeastOrder all ps
    least_from ps l = record {
      order = numbered ps ∙ l.order;
      least = λ qs h. l.least qs (sym (numbered qs) ∙ h);
    }

    pub none_from : HasNone count need → (qs : List ℕ) → is_order all qs ≡ false
    none_from h qs = numbered qs ∙ h qs

    pub orders_from : (found : Found) → Answers count need found → Orders all found
    orders_from (Order ps) h = least_from ps.items h
    orders_from (Stuck at) h = (subst (λ n. at < n) long h.0, none_from h.1)
